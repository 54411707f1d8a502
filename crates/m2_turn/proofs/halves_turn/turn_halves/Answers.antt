use Rattle.std.proofs.Common.{[], ◌∷◌, ◌++◌, ap, append-nil, arith, length, refl, sym, ◌∙◌}
use Rattle.m2_turn.specs.HalfTurn.{homes}
use Rattle.m2_turn.specs.HalvesTurn.{all_wait, callers}
use Rattle.m2_turn.specs.RecordTurn.{means_of}
use Rattle.m2_turn.proofs.Led.{same_means}
use Rattle.m2_turn.proofs.Queued.{all_turned, lacked_so, leads_on, no_more, none_waits, oldest_stepped, one_more, round_length, rounded, some_wait, still_wait, wait_within}
use Rattle.m2_turn.proofs.halves_turn.turn_halves.Goals as goal
use Rattle.m2_turn.specs.Sessions.{supply_of}

pub turns-init : goal.turns-init
turns-init g c = record {
  stood = [];
  at = all_wait (callers c.args.halves.now c.args.loose.now.items (homes c.args.records.now c.args.work.now));
  turns = refl;
  queue = ap (λ h. callers h c.args.loose.now.items (homes c.args.records.now c.args.work.now)) (sym (append-nil c.args.halves.now));
  left = omega arith;
  few = omega arith;
  room = c.requires.room;
  consistent = (λ made entity all. all);
  peers = refl;
  number_place = refl;
  takes = c.requires.takes;
  same = record { numbers = refl; throttles = refl };
  number_pass = refl;
  passes = refl;
}

pub turn_oldest-requires-clause-consistent : goal.turn_oldest-requires-clause-consistent
turn_oldest-requires-clause-consistent g c =
    (c.requires.consistent.0, (c.requires.consistent.1.0, c.turns.invariant.consistent c.requires.consistent.0 c.requires.consistent.1.0 c.requires.consistent.1.1))

pub turn_oldest-requires-clause-any : goal.turn_oldest-requires-clause-any
turn_oldest-requires-clause-any g c =
    some_wait c.turns.invariant.at (callers c.turns.halves c.turns.loose.items (homes c.turns.records c.turns.work))
    c.len-count.result c.turns.turned (length c.args.halves.now) c.turns.invariant.queue c.turns.invariant.left c.len-count.ensures.length c.turns-test.true

pub turn_round-requires-clause-within : goal.turn_round-requires-clause-within
turn_round-requires-clause-within g c =
    let s = oldest_stepped g.row.E.Denot c.turn_oldest.result (means_of c.args.now c.args.work.now) (means_of c.args.now c.turns.work) c.turns.invariant.at
    (callers c.turns.halves c.turns.loose.items (homes c.turns.records c.turns.work))
    (callers c.turn_oldest.new.halves c.turn_oldest.new.loose.items (homes c.turn_oldest.new.records c.turn_oldest.new.work))
    c.len-count.result c.turns.turned (length c.args.halves.now) (same_means c.args.now c.args.work.now c.turns.work c.turns.invariant.same) c.turns.invariant.queue c.turns.invariant.left c.len-count.ensures.length c.turns-test.true c.turn_oldest.ensures.turns in
    wait_within g.row.E.Denot c.turn_oldest.result (means_of c.args.now c.args.work.now) c.turns.invariant.at
    (callers c.turn_oldest.new.halves c.turn_oldest.new.loose.items (homes c.turn_oldest.new.records c.turn_oldest.new.work))
    c.len-count.result c.turns.turned (length c.args.halves.now) s c.turns.invariant.left c.len-count.ensures.length c.turns-test.true

pub turn_round-requires-clause-few : goal.turn_round-requires-clause-few
turn_round-requires-clause-few g c =
    let less = no_more g.row.E.Denot c.turn_oldest.result (means_of c.args.now c.turns.work)
    (callers c.turns.halves c.turns.loose.items (homes c.turns.records c.turns.work))
    (callers c.turn_oldest.new.halves c.turn_oldest.new.loose.items (homes c.turn_oldest.new.records c.turn_oldest.new.work)) c.turn_oldest.ensures.turns in
    omega (arith, less, c.turns.invariant.few, c.len-count.ensures.length, c.len-count.ensures.few)

pub returns-in-NoMemory-clause-turns : goal.returns-in-NoMemory-clause-turns
returns-in-NoMemory-clause-turns g c =
    let s = oldest_stepped g.row.E.Denot c.turn_oldest.result (means_of c.args.now c.args.work.now) (means_of c.args.now c.turns.work) c.turns.invariant.at
    (callers c.turns.halves c.turns.loose.items (homes c.turns.records c.turns.work))
    (callers c.turn_oldest.new.halves c.turn_oldest.new.loose.items (homes c.turn_oldest.new.records c.turn_oldest.new.work))
    c.len-count.result c.turns.turned (length c.args.halves.now) (same_means c.args.now c.args.work.now c.turns.work c.turns.invariant.same) c.turns.invariant.queue c.turns.invariant.left c.len-count.ensures.length c.turns-test.true c.turn_oldest.ensures.turns in
    lacked_so g.row.E.Denot (means_of c.args.now c.args.work.now) c.turns.invariant.stood
    (callers c.args.halves.now c.args.loose.now.items (homes c.args.records.now c.args.work.now)) c.turns.invariant.at
    (callers c.turn_oldest.new.halves c.turn_oldest.new.loose.items (homes c.turn_oldest.new.records c.turn_oldest.new.work))
    (callers c.turn_round.new.halves c.turn_oldest.new.loose.items (homes c.turn_oldest.new.records c.turn_oldest.new.work)) c.turn_oldest.result
    _ c.in-NoMemory.is c.turns.invariant.turns s
    (still_wait g.row.E.Denot c.turn_oldest.result (means_of c.args.now c.args.work.now) c.turns.invariant.at
    (callers c.turn_oldest.new.halves c.turn_oldest.new.loose.items (homes c.turn_oldest.new.records c.turn_oldest.new.work))
    c.len-count.result c.turns.turned (length c.args.halves.now) s c.turns.invariant.left c.len-count.ensures.length c.turns-test.true)
    (ap (λ h. callers h c.turn_oldest.new.loose.items (homes c.turn_oldest.new.records c.turn_oldest.new.work)) c.turn_round.ensures)

pub returns-in-NoMemory-clause-consistent : goal.returns-in-NoMemory-clause-consistent
returns-in-NoMemory-clause-consistent g c =
    λ made entity all. rounded (supply_of c.turn_oldest.new.work) entity made c.turn_oldest.new.records c.turn_oldest.new.halves c.turn_round.new.halves _ c.turn_oldest.new.loose.items c.turn_round.ensures
    (c.turn_oldest.ensures.consistent made entity (c.turns.invariant.consistent made entity all))

pub returns-in-NoMemory-clause-room : goal.returns-in-NoMemory-clause-room
returns-in-NoMemory-clause-room g c =
    let same = round_length c.turn_oldest.new.halves c.turn_round.new.halves _ c.turn_round.ensures in
    omega (arith, same, c.turn_oldest.ensures.room)

pub turns-preserved : goal.turns-preserved
turns-preserved g c =
    let s = oldest_stepped g.row.E.Denot c.turn_oldest.result (means_of c.args.now c.args.work.now) (means_of c.args.now c.turns.work) c.turns.invariant.at
    (callers c.turns.halves c.turns.loose.items (homes c.turns.records c.turns.work))
    (callers c.turn_oldest.new.halves c.turn_oldest.new.loose.items (homes c.turn_oldest.new.records c.turn_oldest.new.work))
    c.len-count.result c.turns.turned (length c.args.halves.now) (same_means c.args.now c.args.work.now c.turns.work c.turns.invariant.same) c.turns.invariant.queue c.turns.invariant.left c.len-count.ensures.length c.turns-test.true c.turn_oldest.ensures.turns in
    let fewer = s.fewer in
    let less = no_more g.row.E.Denot c.turn_oldest.result (means_of c.args.now c.turns.work)
    (callers c.turns.halves c.turns.loose.items (homes c.turns.records c.turns.work))
    (callers c.turn_oldest.new.halves c.turn_oldest.new.loose.items (homes c.turn_oldest.new.records c.turn_oldest.new.work)) c.turn_oldest.ensures.turns in
    record {
      stood = c.turns.invariant.stood ++ s.behind ∷ [];
      at = s.behind;
      turns = one_more g.row.E.Denot (means_of c.args.now c.args.work.now) c.turns.invariant.stood _ c.turns.invariant.at s.behind c.turns.invariant.turns
          (leads_on g.row.E.Denot (means_of c.args.now c.args.work.now) c.turns.invariant.at _ c.turn_oldest.result c.in-Done.is s);
      queue = s.is;
      left = omega (arith, fewer, c.turns.invariant.left);
      few = omega (arith, less, c.turns.invariant.few);
      room = c.turn_oldest.ensures.room;
      consistent = (λ made entity all. c.turn_oldest.ensures.consistent made entity (c.turns.invariant.consistent made entity all));
      peers = c.turn_oldest.ensures.peers ∙ c.turns.invariant.peers;
      number_place = c.turn_oldest.ensures.number_place ∙ c.turns.invariant.number_place;
      takes = c.turn_oldest.ensures.takes;
      same = record { numbers = c.turn_oldest.ensures.same.numbers ∙ c.turns.invariant.same.numbers; throttles = c.turn_oldest.ensures.same.throttles ∙ c.turns.invariant.same.throttles };
      number_pass = c.turn_oldest.ensures.number_pass ∙ c.turns.invariant.number_pass;
      passes = c.turn_oldest.ensures.passes ∙ c.turns.invariant.passes;
    }

pub returns-clause-turns : goal.returns-clause-turns
returns-clause-turns g c =
    all_turned g.row.E.Denot (means_of c.args.now c.args.work.now) c.turns.invariant.stood c.turns.invariant.at _ _ c.turns.invariant.turns c.turns.invariant.queue
    (none_waits c.turns.invariant.at.waiting (omega (arith, c.turns.invariant.left, c.len-count.ensures.length, c.turns-test.false, c.turns.auto.turned-end)))
