-- The first record that is towards the peer plans the step, and a center keeps what it keeps.
use Rattle.m2_shared.specs.Gates.{pass_places, places}
use Rattle.std.proofs.Common.{Some, ap, refl, subst, sym, ◌∙◌}
use Rattle.std.proofs.lemmas.Option.{slice_get-get_or}
use Rattle.m2_dispatch.specs.Letters.{AreOwned}
use Rattle.m2_record.specs.Calls.{Owns}
use Rattle.m2_record.specs.Due.{next_step}
use Rattle.m2_turn.specs.Halves.{halves_of}
use Rattle.m2_turn.specs.Outbox.{OwnsAll}
use Rattle.m2_turn.specs.Sessions.{IsSupplied, Supply}
use Rattle.m2_turn.proofs.Peers.{at_place, same_peers}
use Rattle.m2_center.proofs.Places.{found_so, none_found, not_missing, planned_consistent, same_side, side_found}
use Rattle.m2_center.proofs.Stages.{plans, supplied_alike}
use Rattle.m2_center.proofs.center.Center.plan.Goals as goal

pub plan_at-requires-clause-taken : goal.plan_at-requires-clause-taken
plan_at-requires-clause-taken g c =
    let found = found_so c.args.peer c.as_slice.result.now c.self.inside.records.items c.place_towards.result c.in-Some.place c.index_mut.result.now c.place_towards.ensures.place c.in-Some.is c.as_slice.ensures.value c.index_mut.ensures.value in
    let side = side_found c.args.peer c.self.inside.records.items c.args.self.now.records c.in-Some.place c.index_mut.result.now found (ap (λ v. v.records) c.self.view_is) in
    ap next_step (same_side _ c.index_mut.result.now c.requires.ready.side side c.requires.ready.first) ∙ c.requires.ready.taken

pub plan_at-requires-clause-owned : goal.plan_at-requires-clause-owned
plan_at-requires-clause-owned g c =
    let found = found_so c.args.peer c.as_slice.result.now c.self.inside.records.items c.place_towards.result c.in-Some.place c.index_mut.result.now c.place_towards.ensures.place c.in-Some.is c.as_slice.ensures.value c.index_mut.ensures.value in
    let supply : Supply = record { places = pass_places c.self.inside.passes.throttles; least = c.self.inside.passes.numbers.least } in
    subst (λ p. Owns p c.index_mut.result.now) (ap (λ v. pass_places v.bytes) c.self.view_is ∙ c.requires.throttles)
    (at_place (IsSupplied supply (g.P.Port.seen c.self.inside.port).made) c.index_mut.result.now c.self.inside.records.items c.in-Some.place found.within found.here c.self.invariant.0.consistent.records).owned

pub unreachable-requires : goal.unreachable-requires
unreachable-requires g c =
    not_missing _ c.requires.ready.side
    (none_found c.args.peer c.as_slice.result.now c.self.inside.records.items c.args.self.now.records c.place_towards.result c.place_towards.ensures.place c.in-None.is c.as_slice.ensures.value (ap (λ v. v.records) c.self.view_is))
    c.requires.ready.first

pub invariant_of-self : goal.invariant_of-self
invariant_of-self g c =
    let found = found_so c.args.peer c.as_slice.result.now c.self.inside.records.items c.place_towards.result c.in-Some.place c.index_mut.result.now c.place_towards.ensures.place c.in-Some.is c.as_slice.ensures.value c.index_mut.ensures.value in
    let supply : Supply = record { places = pass_places c.self.inside.passes.throttles; least = c.self.inside.passes.numbers.least } in
    let there = ap (λ v. pass_places v.bytes) c.self.view_is ∙ c.requires.throttles in
    let moved = c.plan_at.ensures.takes ∙ ap places c.plan_at.ensures.same.throttles ∙ sym there in
    let was = c.self.invariant in (
      record {
        consistent = supplied_alike supply c.plan_at.new.work.passes.now c.plan_at.new.work.number_pass.now c.self.inside.passes.numbers c.self.inside.entity _ moved c.plan_at.ensures.numbers refl
            (planned_consistent supply c.self.inside.entity (g.P.Port.seen c.self.inside.port).made c.index_mut.result.now c.plan_at.new.side c.self.inside.records.items
            (halves_of c.self.inside.halves c.self.inside.loose.items) c.in-Some.place found.within found.here
            (record { stays = c.plan_at.ensures.stays; top = c.plan_at.ensures.top; owned = subst (λ p. Owns p c.plan_at.new.side) (sym there) c.plan_at.ensures.owned })
            was.0.consistent);
        out = subst (λ p. OwnsAll p c.self.inside.out) (sym moved) was.0.out;
        queued = subst (λ p. AreOwned p c.self.inside.queued.waiting) (sym moved) was.0.queued;
      },
      was.1 ∙ sym (same_peers c.index_mut.result.now c.plan_at.new.side c.self.inside.records.items c.in-Some.place found.within found.here (ap (λ f. f.peer) c.plan_at.ensures.stays.facts)),
      was.2,
      was.3,
    )

pub returns : goal.returns
returns g c =
    let found = found_so c.args.peer c.as_slice.result.now c.self.inside.records.items c.place_towards.result c.in-Some.place c.index_mut.result.now c.place_towards.ensures.place c.in-Some.is c.as_slice.ensures.value c.index_mut.ensures.value in
    record {
      plans = plans _ _ c.self.view_is c.plan_at.result c.args.peer c.args.step c.args.now c.args.shared.now.throttles c.in-Some.place c.index_mut.result.now c.plan_at.new.side
          c.plan_at.new.work.passes.now c.plan_at.new.work.number_pass.now found.first
          (slice_get-get_or c.self.inside.records.items c.in-Some.place c.index_mut.result.now found.within ∙ ap (λ r. Some r) found.here)
          c.plan_at.ensures.plans c.plan_at.ensures.word (c.plan_at.ensures.takes ∙ ap places c.plan_at.ensures.same.throttles ∙ sym (ap (λ v. pass_places v.bytes) c.self.view_is ∙ c.requires.throttles)) c.plan_at.ensures.numbers;
    }
