use Rattle.m2_shared.specs.Gates.{ArePassesOf}
use Rattle.std.proofs.Common.{◌≡◌, ℕ, ◌+◌, ◌-◌, ◌≤◌, List, length, map}
use Rattle.std.specs.Prelude.{vec_capacity, vec_len}
use Rattle.m2_fabric.specs.declared.socket.SocketId.{SocketId}
use Rattle.m2_record.specs.Stepping.{IsSameWork}
use Rattle.m2_turn.specs.HalfTurn.{homes}
use Rattle.m2_turn.specs.HalvesTurn.{HalfTurns, HalvesTurning, all_wait, callers, sessions_of}
use Rattle.m2_turn.specs.RecordTurn.{means_of}
use Rattle.m2_turn.specs.Sessions.{AreConsistent, peer_of, supply_of}
use Rattle.m2_turn.proofs.Queued.{queue_in}
use Rattle.m2_turn.proofs.halves_turn.turn_halves.Given as goal

abbrev pub invariant-turns : goal.invariant-turns
invariant-turns g l = record {
  stood : List HalvesTurning;
  at : HalvesTurning;
  turns : HalfTurns g.row.E.Denot (means_of l.fn.now l.fn.work) stood (all_wait (callers l.fn.halves l.fn.loose.items (homes l.fn.records l.fn.work))) at;
  queue : callers l.halves l.loose.items (homes l.records l.work) ≡ queue_in at;
  left : length at.waiting + l.turned ≡ length l.fn.halves;
  few : length l.halves ≤ length l.fn.halves;
  room : length l.halves ≤ vec_capacity l.loose - vec_len l.loose;
  consistent : (made : List SocketId) (entity : ℕ) →
      AreConsistent (supply_of l.fn.work) entity (sessions_of made (callers l.fn.halves l.fn.loose.items (homes l.fn.records l.fn.work))) →
      AreConsistent (supply_of l.work) entity (sessions_of made (callers l.halves l.loose.items (homes l.records l.work)));
  peers : map peer_of l.records ≡ map peer_of l.fn.records;
  number_place : l.work.number_pass.now.place ≡ l.fn.work.number_pass.now.place;
  takes : ArePassesOf l.work.throttles.now l.work.passes.now;
  same : IsSameWork l.fn.work l.work;
  number_pass : l.work.number_pass.ghost_name ≡ l.fn.work.number_pass.ghost_name;
  passes : l.work.passes.ghost_name ≡ l.fn.work.passes.ghost_name;
}
