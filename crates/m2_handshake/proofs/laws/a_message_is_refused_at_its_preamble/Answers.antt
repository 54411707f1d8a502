use Rattle.m2_handshake.proofs.Messages.{messages_refused}
use Rattle.m2_handshake.proofs.laws.a_message_is_refused_at_its_preamble.Goals as goal

pub returns : goal.returns
returns c = messages_refused
