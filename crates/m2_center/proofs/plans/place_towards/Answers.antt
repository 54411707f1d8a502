-- The first record that is towards the peer is the one that is found.
use Rattle.std.proofs.Common.{arith, eq-eqb, sym, ◌∙◌}
use Rattle.std.proofs.lemmas.Bool.{ne_eqb}
use Rattle.m2_center.specs.Plans.{is_towards}
use Rattle.m2_center.proofs.Places.{first_is, none_at, none_is}
use Rattle.m2_center.proofs.plans.place_towards.Goals as goal

pub records-preserved : goal.records-preserved
records-preserved g c =
    none_at (is_towards c.args.peer) c.args.records.now c.records.place c.index-records-place.result c.records-test.true c.records.invariant c.index-records-place.is
    (ne_eqb c.index-records-place.result.place c.args.peer (λ e. c.if-place-peer.false (c.place.ensures ∙ e)))

pub returns-then-place-peer-clause-place : goal.returns-then-place-peer-clause-place
returns-then-place-peer-clause-place g c =
    sym (first_is (is_towards c.args.peer) c.args.records.now c.records.place c.index-records-place.result c.records-test.true c.records.invariant c.index-records-place.is
    (eq-eqb c.index-records-place.result.place c.args.peer (sym c.place.ensures ∙ c.if-place-peer.true)))

pub returns-clause-place : goal.returns-clause-place
returns-clause-place g c =
    sym (none_is (is_towards c.args.peer) c.args.records.now (λ k d lt. c.records.invariant k d (omega (arith, lt, c.records-test.false))))
