use Rattle.std.proofs.Common.{sym, ◌∙◌}
use Rattle.m2_fabric.specs.Kept.{SeenPair}
use Rattle.m2_fabric.specs.News.{logs_of}
use Rattle.m2_fabric.proofs.Below.{below_by_same}
use Rattle.m2_fabric.proofs.Over.{other_pair_stays, other_pair_tells}
use Rattle.m2_fabric.proofs.pair.Pair.pass.Goals as goal

pub returns-then-not-is_between-clause-pair : goal.returns-then-not-is_between-clause-pair
returns-then-not-is_between-clause-pair g c =
    let i = c.self.inside in
    let p : SeenPair = record { first = i.first; second = i.second; sockets = i.sockets.items } in
    rw (← c.self.view_is) (other_pair_stays c.args.what.now (logs_of (g.H.Holder.seen c.args.h.now)) p (sym c.is_between.ensures ∙ c.if-not-is_between.true))

pub returns-then-not-is_between-clause-told : goal.returns-then-not-is_between-clause-told
returns-then-not-is_between-clause-told g c =
    let i = c.self.inside in
    let p : SeenPair = record { first = i.first; second = i.second; sockets = i.sockets.items } in
    rw (← c.self.view_is) (other_pair_tells c.args.what.now p (g.H.Holder.seen c.args.h.now) (sym c.is_between.ensures ∙ c.if-not-is_between.true))

pub invariant_of-self : goal.invariant_of-self
invariant_of-self g c =
    let i = c.self.inside in
    (c.pass_in.ensures.over, below_by_same i.newest i.sockets.items c.pass_in.new.sockets.items c.pass_in.ensures.same c.self.invariant.1)
