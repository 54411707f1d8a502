-- A strand is looked at, and the merge stands where it stood, or one entry further.
use Rattle.std.proofs.Common.{◌<◌, ◌∙◌, refl, sym, subst}
use Rattle.m2_weave.specs.Counted.{entries_of, next_of}
use Rattle.m2_weave.specs.Merging.{GoesOn}
use Rattle.m2_weave.proofs.Going.{starts, stands-count, goes-on, nearer}
use Rattle.m2_weave.proofs.Listing.{entries-count}
use Rattle.m2_weave.proofs.merging.merge.Goals as goal

pub looks-init : goal.looks-init
looks-init c =
    starts (entries_of c.args.strands.now) _ c.args.counters c.in_ok-progress.progress (sym (entries-count c.args.strands.now)) c.in_ok-progress.ensures

pub go_on-requires-clause-count : goal.go_on-requires-clause-count
go_on-requires-clause-count c =
    stands-count (entries_of c.args.strands.now) c.args.counters c.looks.progress c.looks.invariant ∙ entries-count c.args.strands.now

pub looks-smaller : goal.looks-smaller
looks-smaller c =
    let g : GoesOn (next_of (entries_of c.args.strands.now) c.looks.progress.at.items c.in-Some.k) c.in-Some.k c.in_ok-users.users.items
    (record c.looks.progress { todo = c.pop.new.self }) c.go_on.new.self =
    subst (λ us. GoesOn (next_of (entries_of c.args.strands.now) c.looks.progress.at.items c.in-Some.k) c.in-Some.k us
    (record c.looks.progress { todo = c.pop.new.self }) c.go_on.new.self) c.deref.ensures.value c.in_ok-go_on.ensures in
    nearer (entries_of c.args.strands.now) c.in_ok-users.users.items c.in-Some.k c.looks.progress (record c.looks.progress { todo = c.pop.new.self })
    c.go_on.new.self (stands-count (entries_of c.args.strands.now) c.args.counters c.looks.progress c.looks.invariant) refl c.in-Some.ensures.items g

pub looks-preserved : goal.looks-preserved
looks-preserved c =
    let g : GoesOn (next_of (entries_of c.args.strands.now) c.looks.progress.at.items c.in-Some.k) c.in-Some.k c.in_ok-users.users.items
    (record c.looks.progress { todo = c.pop.new.self }) c.go_on.new.self =
    subst (λ us. GoesOn (next_of (entries_of c.args.strands.now) c.looks.progress.at.items c.in-Some.k) c.in-Some.k us
    (record c.looks.progress { todo = c.pop.new.self }) c.go_on.new.self) c.deref.ensures.value c.in_ok-go_on.ensures in
    goes-on (entries_of c.args.strands.now) c.args.counters c.in_ok-users.users.items c.in-Some.k c.looks.progress
    (record c.looks.progress { todo = c.pop.new.self }) c.go_on.new.self
    (λ j h. c.in_ok-users.ensures.listed j (subst (λ n. j < n) (entries-count c.args.strands.now) h))
    c.requires.within c.looks.invariant refl refl refl c.in-Some.ensures.items g
