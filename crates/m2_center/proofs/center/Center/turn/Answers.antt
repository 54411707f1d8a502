-- A turn is dry where nothing was counted and nothing handed out.
use Rattle.std.proofs.Common.{refl, ◌∙◌}
use Rattle.m2_center.proofs.Dryness.{memory_kept, turn_says}
use Rattle.m2_center.proofs.center.Center.turn.Goals as goal

pub returns-clause-turns : goal.returns-clause-turns
returns-clause-turns g c = rw (c.ended_so.ensures, memory_kept c.take_turn-taken.result c.take_turn-taken.new.handed c.is_still-still.result) c.take_turn-taken.ensures.turns

pub returns-clause-says : goal.returns-clause-says
returns-clause-says g c =
    rw c.ended_so.ensures
    (turn_says c.args.self.now c.take_turn-taken.new.self c.take_turn-taken.result c.take_turn-taken.new.handed c.is_still-still.result c.take_turn-taken.ensures.handed
    (c.is_still-still.ensures ∙ rw (c.count-before.ensures, c.count-behind.ensures) refl))
