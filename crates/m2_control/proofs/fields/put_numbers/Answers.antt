use Rattle.std.proofs.Common.{arith}
use Rattle.m2_control.proofs.Lists.{no_room}
use Rattle.m2_control.proofs.fields.put_numbers.Goals as goal

pub returns-in_err-put_u32-2 : goal.returns-in_err-put_u32-2
returns-in_err-put_u32-2 c = absurd (no_room c.args.numbers.now c.numbers.number-index c.args.out.now.room c.numbers.out.room c.numbers-test.true (omega (arith, c.requires.room)) c.numbers.invariant.room c.in_err-put_u32-2.ensures.2)
