use Rattle.m2_frame_facts.proofs.FactsOnce.{lines_once}
use Rattle.m2_frame_facts.proofs.laws.lines_are_read_in_one_way.Goals as goal

pub returns : goal.returns
returns c = record { lines = lines_once c.hex_is_read_again.ensures }
