-- One half more, and at the end all.
use Rattle.std.proofs.Common.{◌∙◌, subst, sym}
use Rattle.m2_run.specs.Cuts.{bound_of}
use Rattle.m2_run.specs.Kept.{IsOpenedAs}
use Rattle.m2_node.specs.Lists.{SideBySide}
use Rattle.m2_run.proofs.Apart.{no_half_left, one_half_more}
use Rattle.m2_run.proofs.ending.open_halves.Goals as goal

pub halves-preserved : goal.halves-preserved
halves-preserved g c all o =
    let l = c.halves in
    l.invariant all
    (one_half_more c.args.cuts.now c.args.made.now l.half-iterator.rest.items c.next.new.self.rest.items l.into.items c.push.new.self.items all c.in-Some.half c.in_ok-open_half.field-0
    c.in-Some.ensures.steps.0 c.in_ok-push.ensures.items c.in_ok-open_half.ensures o)

pub returns : goal.returns
returns g c =
    let l = c.halves in
    let left = l.half-iterator.rest in
    let o = l.invariant l.into.items (no_half_left c.args.cuts.now c.args.made.now left.items l.into.items (sym left.ok.0 ∙ c.in-None.ensures.steps.0)) in (
      o.behind,
      o.split,
      subst (λ hs. SideBySide (IsOpenedAs (bound_of c.args.cuts.now c.args.made.now)) hs o.behind)
          (c.into_iter-half-iterator.ensures.into_iter_gives.0 ∙ c.into_vec-half-items.ensures) o.are,
    )
