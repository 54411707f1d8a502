use Rattle.m2_handshake.proofs.Asked.{greeting_is_asked}
use Rattle.m2_handshake.proofs.laws.an_ask_behind_a_greeting_is_asked.Goals as goal

pub returns : goal.returns
returns c = greeting_is_asked
