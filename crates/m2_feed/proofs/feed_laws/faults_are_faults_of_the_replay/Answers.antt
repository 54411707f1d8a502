use Rattle.m2_feed.proofs.Faults.{finds_faults}
use Rattle.m2_feed.proofs.feed_laws.faults_are_faults_of_the_replay.Goals as goal

pub returns : goal.returns
returns c = finds_faults
