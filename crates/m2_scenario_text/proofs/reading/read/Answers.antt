-- The scenario is the draft that all lines make.
use Rattle.m2_scenario_text.specs.Reading.{text_read}
use Rattle.m2_scenario_text.proofs.reading.read.Goals as goal

pub returns-clause-reads : goal.returns-clause-reads
unfolding text_read
returns-clause-reads c = (c.in_ok-draft.draft, rw (c.prefix.ensures.bytes, c.of.ensures) at c.in_ok-draft.ensures, c.into_scenario.ensures.made)
