use Rattle.std.proofs.Common.{◌≡◌, ◌≤◌, List, length}
use Rattle.m2_trail.specs.Incoming.{IncomingNow}
use Rattle.m2_trail.specs.Turn.{Moves}
use Rattle.m2_trail.proofs.turn.advance.Given as goal

abbrev pub invariant-moves : goal.invariant-moves
invariant-moves g l = record {
  stood : List IncomingNow;
  moves : Moves stood l.fn.half l.half;
  count : length stood ≡ l.counter;
  within : l.counter ≤ 4096;
}
