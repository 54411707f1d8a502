use Rattle.m2_handshake.proofs.Turns.{asks_first}
use Rattle.m2_handshake.proofs.laws.asks_come_before_replies.Goals as goal

pub returns : goal.returns
returns c = asks_first
