use Rattle.m2_feed.proofs.Beside.{puts_on}
use Rattle.m2_feed.proofs.feed_laws.what_is_put_is_lawful.Goals as goal

pub returns : goal.returns
returns c = puts_on
