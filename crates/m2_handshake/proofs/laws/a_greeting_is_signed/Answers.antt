use Rattle.m2_handshake.proofs.Greeting.{greeting_is_signed}
use Rattle.m2_handshake.proofs.laws.a_greeting_is_signed.Goals as goal

pub returns : goal.returns
returns c = greeting_is_signed
