use Rattle.std.proofs.Common.{◌≡◌, ◌/◌, ◌∙◌, length, arith}
use Rattle.m2_crc.proofs.EightBytes.{two_more, last_one}
use Rattle.m2_crc.proofs.checksum.after_words.Goals as goal

pub pairs-preserved : goal.pairs-preserved
pairs-preserved c =
    c.after_pair-state.ensures
    ∙ two_more c.args.seed c.args.words.now c.pairs.i c.pairs.state c.pairs-test.true c.pairs.invariant

pub returns-then-words-eq1 : goal.returns-then-words-eq1
returns-then-words-eq1 c =
    let half : c.pairs.i ≡ length c.args.words.now / 2 = omega (arith, c.pairs-test.false, c.pairs.auto.i-end) in
    c.after_word-state.ensures
    ∙ last_one c.args.seed c.args.words.now c.pairs.i c.pairs.state half c.if-words-eq1.true c.pairs.invariant
