use Rattle.std.proofs.Common.{◌≡◌, List}
use Rattle.m2_handshake.specs.Half.{work_left, StaysSigned}
use Rattle.m2_handshake.specs.Moves.{move_of, Quietly}
use Rattle.m2_handshake.specs.Standing.{Standing}
use Rattle.m2_handshake.proofs.half.Half.next.Given as goal

abbrev pub invariant-moves : goal.invariant-moves
invariant-moves l = record {
  passed : (ms : List Standing) × Quietly move_of ms l.initial.self.standing l.self.standing;
  unwritten : l.out.bytes ≡ l.initial.out.bytes;
  signed : StaysSigned l.initial.self l.self;
}

abbrev pub decreases-moves : goal.decreases-moves
decreases-moves l = work_left l.self.standing
