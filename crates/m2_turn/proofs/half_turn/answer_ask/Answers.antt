use Rattle.m2_shared.specs.Gates.{places}
use Rattle.std.proofs.Common.{ap, arith, refl, subst, sym, ◌++◌, ◌∷◌, [], ◌∙◌}
use Rattle.std.specs.Prelude.{slice_index_or, slice_set}
use Rattle.std.proofs.lemmas.Option.{slice_get-get_or}
use Rattle.m2_record.specs.Calls.{Owns}
use Rattle.m2_turn.specs.HalfTurn.{home_of_ask, homes, with_moved}
use Rattle.m2_turn.specs.RecordTurn.{means_of}
use Rattle.m2_turn.specs.Sessions.{AreConsistent, supply_of}
use Rattle.m2_turn.proofs.Peers.{same_peers}
use Rattle.m2_turn.proofs.Turned.{all_fit, answered_consistent, answered_from, asked_apart, closed_consistent, home_found, may_answer, place_within, same_peer}
use Rattle.m2_turn.proofs.half_turn.answer_ask.Goals as goal

pub returns-in_default-clause-consistent : goal.returns-in_default-clause-consistent
returns-in_default-clause-consistent g c =
    λ o all. subst (λ l. AreConsistent (supply_of c.args.work.now) o.entity (record { made = o.made; records = c.args.records.now; halves = o.halves; loose = o.loose ++ l ∷ [] })) (sym c.close.ensures)
    (closed_consistent (supply_of c.args.work.now) o.entity (record { half = c.args.a; asker = c.args.asker }) o c.args.records.now all)

pub prove-unreachable-requires : goal.prove-unreachable-requires
prove-unreachable-requires g c =
    let within = place_within c.args.asker c.peer-peer.result c.args.roster.now c.args.records.now c.in-Some.place c.home_of.result c.requires.roster c.home_of.ensures c.in-Some.is in
    omega (arith, within, c.if-prove.true)

pub answer_half-requires-clause-known : goal.answer_half-requires-clause-known
answer_half-requires-clause-known g c =
    let home = home_found c.args.asker c.peer-peer.result c.args.roster.now c.args.records.now c.in-Some.place c.index-records-place.result c.home_of.result c.requires.roster c.home_of.ensures c.in-Some.is c.index-records-place.is in
    (may_answer (supply_of c.args.work.now) c.args.a c.args.asker c.peer-peer.result c.requires.consistent.0 c.args.records.now c.in-Some.place _ home.0 home.1 c.requires.consistent.1).known

pub answer_half-requires-clause-top : goal.answer_half-requires-clause-top
answer_half-requires-clause-top g c =
    let home = home_found c.args.asker c.peer-peer.result c.args.roster.now c.args.records.now c.in-Some.place c.index-records-place.result c.home_of.result c.requires.roster c.home_of.ensures c.in-Some.is c.index-records-place.is in
    (may_answer (supply_of c.args.work.now) c.args.a c.args.asker c.peer-peer.result c.requires.consistent.0 c.args.records.now c.in-Some.place _ home.0 home.1 c.requires.consistent.1).top

pub answer_half-requires-clause-owned : goal.answer_half-requires-clause-owned
answer_half-requires-clause-owned g c =
    let home = home_found c.args.asker c.peer-peer.result c.args.roster.now c.args.records.now c.in-Some.place c.index-records-place.result c.home_of.result c.requires.roster c.home_of.ensures c.in-Some.is c.index-records-place.is in
    (may_answer (supply_of c.args.work.now) c.args.a c.args.asker c.peer-peer.result c.requires.consistent.0 c.args.records.now c.in-Some.place _ home.0 home.1 c.requires.consistent.1).owned

pub returns-clause-answers : goal.returns-clause-answers
returns-clause-answers g c =
    let within = place_within c.args.asker c.peer-peer.result c.args.roster.now c.args.records.now c.in-Some.place c.home_of.result c.requires.roster c.home_of.ensures c.in-Some.is in
    record {
      arrival = c.is_arrival.ensures;
      peer = c.peer-peer.result;
      main = c.peer-peer.ensures;
      answers = answered_from c.moved_by.result c.answer_half.result _ c.in-Some.place c.args.a c.peer-peer.result (means_of c.args.now c.args.work.now)
          (homes c.args.records.now c.args.work.now) (homes (slice_set c.args.records.now c.in-Some.place c.answer_half.new.side) c.answer_half.new.work)
          (ap (home_of_ask c.args.asker c.peer-peer.result) (sym c.requires.roster) ∙ sym c.home_of.ensures ∙ c.in-Some.is)
          (record {
            before = slice_index_or c.args.records.now c.in-Some.place c.index-records-place.result;
            behind = c.answer_half.new.side;
            side = slice_get-get_or c.args.records.now c.in-Some.place c.index-records-place.result within;
            records = refl;
            answers = c.answer_half.ensures.answers;
          })
          c.moved_by.ensures;
    }

pub returns-clause-consistent : goal.returns-clause-consistent
returns-clause-consistent g c =
    let home = home_found c.args.asker c.peer-peer.result c.args.roster.now c.args.records.now c.in-Some.place c.index-records-place.result c.home_of.result c.requires.roster c.home_of.ensures c.in-Some.is c.index-records-place.is in
    let same_place = ap places c.answer_half.ensures.same.throttles in
    λ o all. subst (λ x. AreConsistent (supply_of c.answer_half.new.work) o.entity (with_moved x o (slice_set c.args.records.now c.in-Some.place c.answer_half.new.side))) (sym c.moved_by.ensures)
    (answered_consistent c.answer_half.result (supply_of c.args.work.now) (supply_of c.answer_half.new.work) o.entity c.in-Some.place c.peer-peer.result c.args.a
    (slice_index_or c.args.records.now c.in-Some.place c.index-records-place.result) c.answer_half.new.side o c.args.records.now (all_fit c.args.records.now c.are_records.ensures) home.1
    (record {
      stays = c.answer_half.ensures.stays;
      places = same_place;
      owned = subst (λ p. Owns p c.answer_half.new.side) (sym same_place) c.answer_half.ensures.owned;
      top = c.answer_half.ensures.top;
      reached = c.answer_half.ensures.reached;
    })
    (asked_apart (supply_of c.args.work.now) c.args.a c.args.asker c.peer-peer.result o c.args.records.now home.0 all))

pub returns-clause-peers : goal.returns-clause-peers
returns-clause-peers g c =
    let home = home_found c.args.asker c.peer-peer.result c.args.roster.now c.args.records.now c.in-Some.place c.index-records-place.result c.home_of.result c.requires.roster c.home_of.ensures c.in-Some.is c.index-records-place.is in
    same_peers (slice_index_or c.args.records.now c.in-Some.place c.index-records-place.result) c.answer_half.new.side c.args.records.now c.in-Some.place home.1.within home.1.here
    (same_peer c.answer_half.result c.args.a _ c.answer_half.new.side c.answer_half.ensures.stays)
