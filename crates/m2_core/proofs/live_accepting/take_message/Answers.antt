use Rattle.m2_core.proofs.LiveAccepted.{has_message}
use Rattle.m2_core.proofs.live_accepting.take_message.Goals as goal

pub take_on-requires : goal.take_on-requires
take_on-requires g c =
    has_message c.what_brings_a_message_is_one.ensures c.args.number c.args.feed.now c.requires.heard
