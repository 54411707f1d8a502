use Rattle.m2_shared.specs.Gates.{ArePassesOf}
use Rattle.std.proofs.Common.{◌≡◌, List, length, map}
use Rattle.m2_record.specs.Stepping.{IsSameWork}
use Rattle.m2_turn.specs.HalfTurn.{Others, HalfTurning, Replies, homes, with_half}
use Rattle.m2_turn.specs.RecordTurn.{means_of}
use Rattle.m2_turn.specs.Sessions.{AreConsistent, peer_of, supply_of}
use Rattle.m2_turn.proofs.half_turn.turn_half.Given as goal

abbrev pub invariant-asks : goal.invariant-asks
invariant-asks g l = record {
  stood : List HalfTurning;
  replies : Replies g.row.E.Denot (means_of l.fn.now l.fn.work) stood (record { pending = l.fn.p; homes = homes l.fn.records l.fn.work }) (record { pending = l.pending; homes = homes l.records l.work });
  count : length stood ≡ l.counter;
  consistent : (c : Others) → AreConsistent (supply_of l.fn.work) c.entity (with_half l.fn.p c l.fn.records) → AreConsistent (supply_of l.work) c.entity (with_half l.pending c l.records);
  peers : map peer_of l.records ≡ map peer_of l.fn.records;
  number_place : l.work.number_pass.now.place ≡ l.fn.work.number_pass.now.place;
  takes : ArePassesOf l.work.throttles.now l.work.passes.now;
  same : IsSameWork l.fn.work l.work;
  number_pass : l.work.number_pass.ghost_name ≡ l.fn.work.number_pass.ghost_name;
  passes : l.work.passes.ghost_name ≡ l.fn.work.passes.ghost_name;
}
