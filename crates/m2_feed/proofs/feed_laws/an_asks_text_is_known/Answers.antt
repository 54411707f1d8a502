use Rattle.m2_feed.proofs.Lengths.{texts_are_known}
use Rattle.m2_feed.proofs.feed_laws.an_asks_text_is_known.Goals as goal

pub returns : goal.returns
returns c = texts_are_known
