use Rattle.m2_shared.specs.Gates.{ArePassesOf, places}
use Rattle.std.proofs.Common.{◌≡◌, ◌≤◌, List, length}
use Rattle.m2_record.specs.Calls.{Owns}
use Rattle.m2_record.specs.Stepping.{IsSameWork, KeepsReached}
use Rattle.m2_turn.specs.Answering.{StaysBeside}
use Rattle.m2_turn.specs.Handing.{SaysMore}
use Rattle.m2_turn.specs.Outbox.{OwnsAll}
use Rattle.m2_turn.specs.RecordTurn.{Steps, Turning, means_of, turning}
use Rattle.m2_turn.proofs.record_turn.turn_record.Given as goal

abbrev pub invariant-steps : goal.invariant-steps
invariant-steps g l = record {
  stood : List (Turning g.row.D.Denot);
  steps : Steps g.D.Dispatcher.heard (means_of l.fn.now l.fn.work) stood (turning l.fn.side l.fn.out l.fn.work) (turning l.side l.out l.work);
  count : length stood ≡ l.counter;
  stays : StaysBeside l.fn.side l.side;
  handed : SaysMore l.fn.handed l.handed l.fn.side.handed l.side.handed;
  top : l.side.core.top ≤ l.work.number_pass.now.least;
  reached : KeepsReached l.fn.work.number_pass.now l.work.number_pass.now;
  owned : Owns (places l.fn.work.throttles.now) l.side;
  out : OwnsAll (places l.fn.work.throttles.now) l.out;
  number_place : l.work.number_pass.now.place ≡ l.fn.work.number_pass.now.place;
  takes : ArePassesOf l.work.throttles.now l.work.passes.now;
  same : IsSameWork l.fn.work l.work;
  number_pass : l.work.number_pass.ghost_name ≡ l.fn.work.number_pass.ghost_name;
  passes : l.work.passes.ghost_name ≡ l.fn.work.passes.ghost_name;
}
