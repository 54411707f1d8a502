use Rattle.m2_handshake.proofs.Prefixes.{unread_is_the_end}
use Rattle.m2_handshake.proofs.laws.unread_bytes_are_the_end.Goals as goal

pub returns : goal.returns
returns c = unread_is_the_end
