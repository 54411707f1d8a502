use Rattle.m2_feed.proofs.Beside.{stays, hears_on, greets_on, passes_on}
use Rattle.m2_feed.proofs.feed_laws.reading_stays_beside_the_replay.Goals as goal

pub returns-clause-stays : goal.returns-clause-stays
returns-clause-stays c = stays

pub returns-clause-hears : goal.returns-clause-hears
returns-clause-hears c = hears_on

pub returns-clause-greets : goal.returns-clause-greets
returns-clause-greets c = greets_on

pub returns-clause-passes : goal.returns-clause-passes
returns-clause-passes c = passes_on
