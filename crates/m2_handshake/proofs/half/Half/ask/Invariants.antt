use Rattle.std.proofs.Common.{◌≡◌, List}
use Rattle.m2_handshake.specs.declared.stage.HalfSide.TheVariants.{Acceptor}
use Rattle.m2_handshake.specs.Half.{work_left}
use Rattle.m2_handshake.specs.Moves.{ask_move_of, Quietly}
use Rattle.m2_handshake.specs.Standing.{Standing}
use Rattle.m2_handshake.proofs.half.Half.ask.Given as goal

abbrev pub invariant-moves : goal.invariant-moves
invariant-moves l = record {
  passed : (ms : List Standing) × Quietly ask_move_of ms l.initial.self.standing l.self.standing;
  acceptor : l.self.standing.side ≡ Acceptor;
}

abbrev pub decreases-moves : goal.decreases-moves
decreases-moves l = work_left l.self.standing
