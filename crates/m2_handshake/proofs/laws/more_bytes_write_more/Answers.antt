use Rattle.m2_handshake.proofs.Prefixes.{more_writes_more}
use Rattle.m2_handshake.proofs.laws.more_bytes_write_more.Goals as goal

pub returns : goal.returns
returns c = more_writes_more
