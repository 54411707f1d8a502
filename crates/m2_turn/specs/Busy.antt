-- What a half of a center still has to do. This project's own.
use Rattle.std.specs.Prelude.{◌&&◌, ◌||◌, not, Bool}
use Rattle.std.specs.Option.{is_some}
use Rattle.m2_handshake.specs.Moves.{is_at_rest}
use Rattle.m2_trail.specs.Unput as unput
use Rattle.m2_turn.specs.Sessions.{PendingNow}

-- Its last write wasn't answered that it can't yet; and it has written something that isn't put, owes a reply, or may take a step, or
-- the last read of its end hasn't found that nothing is there.
abbrev pub is_busy : PendingNow → Bool
is_busy p =
    not p.half.end.log.blocked && (unput.is_some p.half.left || is_some p.half.ask || not (is_at_rest p.half.half) || not p.half.end.log.dry)
