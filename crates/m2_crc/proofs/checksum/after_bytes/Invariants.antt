use Rattle.std.proofs.Common.{◌≡◌, take}
use Rattle.m2_crc.specs.Crc.{crc_of}
use Rattle.m2_crc.proofs.checksum.after_bytes.Given as goal

abbrev pub invariant-loop-byte : goal.invariant-loop-byte
invariant-loop-byte l = l.state ≡ crc_of l.seed (take l.byte-index l.bytes)
