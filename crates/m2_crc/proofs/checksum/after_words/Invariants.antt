use Rattle.std.proofs.Common.{◌≡◌, ◌*◌, take}
use Rattle.std.specs.List.{concat}
use Rattle.m2_crc.specs.Crc.{crc_of}
use Rattle.m2_crc.proofs.checksum.after_words.Given as goal

abbrev pub invariant-pairs : goal.invariant-pairs
invariant-pairs l = l.state ≡ crc_of l.seed (concat (take (2 * l.i) l.words))
