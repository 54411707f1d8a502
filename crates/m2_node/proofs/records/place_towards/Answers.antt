-- The first that is towards that node, or none.
use Rattle.std.proofs.Common.{refl, sym, ◌∙◌}
use Rattle.std.proofs.lemmas.Option.{slice_get_read}
use Rattle.m2_node.proofs.Plans.{none_more, none_there}
use Rattle.m2_node.proofs.records.place_towards.Goals as goal

pub records-preserved : goal.records-preserved
records-preserved g c =
    let l = c.records in
    let x = c.index-records-place.result in
    none_more c.args.peer c.args.records.now l.place x (slice_get_read c.args.records.now _ l.place x refl c.records-test.true c.index-records-place.is)
    (λ e. c.if-place-peer.false (c.place.ensures ∙ e)) l.invariant

pub returns-then-place-peer-clause-place : goal.returns-then-place-peer-clause-place
returns-then-place-peer-clause-place g c =
    let x = c.index-records-place.result in
    record {
      side = x;
      there = slice_get_read c.args.records.now _ c.records.place x refl c.records-test.true c.index-records-place.is;
      towards = sym c.place.ensures ∙ c.if-place-peer.true;
    }

pub returns-clause-none : goal.returns-clause-none
returns-clause-none g c none = none_there c.args.peer c.args.records.now c.records.place c.records-test.false c.records.invariant
