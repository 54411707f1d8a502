use Rattle.std.proofs.Common.{arith}
use Rattle.m2_addr.proofs.Addresses.{ipv4_spelled}
use Rattle.m2_addr.proofs.reading.Parts.ipv4.Goals as goal

pub returns-clause-sound : goal.returns-clause-sound
returns-clause-sound c = ipv4_spelled _ c.requires.parts.kind c.requires.parts.nonce (omega arith) (omega arith)
