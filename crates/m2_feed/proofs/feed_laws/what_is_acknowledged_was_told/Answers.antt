use Rattle.m2_feed.proofs.Faults.{hears_told}
use Rattle.m2_feed.proofs.feed_laws.what_is_acknowledged_was_told.Goals as goal

pub returns : goal.returns
returns c = hears_told
