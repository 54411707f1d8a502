-- The counters that an entry names are there.
use Rattle.std.proofs.Common.{◌≡◌, ◌<◌, ◌∙◌, length, subst, sym, ap, Some}
use Rattle.m2_weave.specs.Counted.{entries_of, next_of}
use Rattle.m2_weave.specs.Users.{IsNeedWithin, IsWithin}
use Rattle.m2_weave.proofs.Going.{next-within}
use Rattle.m2_weave.proofs.merging.Progress.go_on.Goals as goal

pub is_met-requires : goal.is_met-requires
is_met-requires c =
    let is : next_of (entries_of c.args.strands.now) c.args.self.now.at.items c.args.k ≡ Some c.in-Some.e =
    ap (λ at. next_of (entries_of c.args.strands.now) at c.args.k) (sym c.deref.ensures.value) ∙ sym c.next_of.ensures ∙ c.in-Some.is in
    let within : IsWithin (length c.args.self.now.values.items) c.in-Some.e =
    next-within _ (entries_of c.args.strands.now) c.args.self.now.at.items c.args.k c.in-Some.e c.requires.within is in
    record { within = subst (λ xs. IsNeedWithin (length xs) c.in-Some.e.need) (sym c.deref-2.ensures.value) within.need }

pub come-requires-clause-counter : goal.come-requires-clause-counter
come-requires-clause-counter c =
    let is : next_of (entries_of c.args.strands.now) c.args.self.now.at.items c.args.k ≡ Some c.in-Some.e =
    ap (λ at. next_of (entries_of c.args.strands.now) at c.args.k) (sym c.deref.ensures.value) ∙ sym c.next_of.ensures ∙ c.in-Some.is in
    let within : IsWithin (length c.args.self.now.values.items) c.in-Some.e =
    next-within _ (entries_of c.args.strands.now) c.args.self.now.at.items c.args.k c.in-Some.e c.requires.within is in
    within.counter

pub come-requires-clause-users : goal.come-requires-clause-users
come-requires-clause-users c =
    let is : next_of (entries_of c.args.strands.now) c.args.self.now.at.items c.args.k ≡ Some c.in-Some.e =
    ap (λ at. next_of (entries_of c.args.strands.now) at c.args.k) (sym c.deref.ensures.value) ∙ sym c.next_of.ensures ∙ c.in-Some.is in
    let within : IsWithin (length c.args.self.now.values.items) c.in-Some.e =
    next-within _ (entries_of c.args.strands.now) c.args.self.now.at.items c.args.k c.in-Some.e c.requires.within is in
    subst (λ n. c.in-Some.e.counter < n) (sym c.requires.users) within.counter
