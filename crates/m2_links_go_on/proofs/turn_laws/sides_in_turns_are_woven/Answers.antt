-- By the law of strands.
use Rattle.m2_links_go_on.proofs.Sides.{sides_are_woven}
use Rattle.m2_links_go_on.proofs.turn_laws.sides_in_turns_are_woven.Goals as goal

pub returns : goal.returns
returns c = sides_are_woven c.sides_are_later.ensures c.strands_are_tidy.ensures c.flowed_was_written.ensures c.turns_are_woven.ensures
