use Rattle.m2_feed.proofs.Bringing.{are_messages}
use Rattle.m2_feed.proofs.frame_laws.what_brings_a_message_is_one.Goals as goal

pub returns : goal.returns
returns c = are_messages
