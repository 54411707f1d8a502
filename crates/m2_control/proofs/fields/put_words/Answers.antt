use Rattle.m2_control.proofs.Lists.{no_room_words}
use Rattle.m2_control.proofs.fields.put_words.Goals as goal

pub returns-in_err-put_u64 : goal.returns-in_err-put_u64
returns-in_err-put_u64 c = absurd (no_room_words c.args.words.now c.words.word-index c.args.out.now.room c.words.out.room c.words-test.true c.requires c.words.invariant.room c.in_err-put_u64.ensures.2)
