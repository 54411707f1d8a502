use Rattle.std.proofs.Common.{◌∙◌}
use Rattle.m2_crc.proofs.EightBytes.{both, behind}
use Rattle.m2_crc.proofs.checksum.after_pair.Goals as goal

pub returns : goal.returns
returns c =
    both c.after_far_word.ensures c.after_word.ensures
    ∙ behind c.args.state c.args.low.now c.args.high.now c.told-high c.fits-high
