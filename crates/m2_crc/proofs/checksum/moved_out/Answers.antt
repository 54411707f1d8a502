use Rattle.m2_crc.proofs.EightBytes.{table_word}
use Rattle.m2_crc.proofs.checksum.moved_out.Goals as goal

pub returns : goal.returns
returns c = table_word c.args.more c.args.byte c.requires.more c.requires.byte
