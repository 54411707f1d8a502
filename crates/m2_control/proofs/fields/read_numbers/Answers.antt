use Rattle.m2_control.specs.Fields.{numbers_at}
use Rattle.m2_control.proofs.Lists.{goes_on, is_done, number_is}
use Rattle.m2_control.proofs.fields.read_numbers.Goals as goal

pub returns : goal.returns
returns c = is_done c.numbers.numbers.items c.args.count c.numbers.counter c.numbers.r (numbers_at c.args.count c.args.r.now) c.numbers-test.false c.numbers.invariant

pub numbers-preserved : goal.numbers-preserved
numbers-preserved c =
    let one = number_is c.numbers.r c.in_ok-number.number c.u32.new.self c.in_ok-number.ensures.reads.0 c.in_ok-number.ensures.reads.1 c.in_ok-number.ensures.reads.2 in
    rw c.in_ok-push.ensures.items (goes_on c.numbers.numbers.items c.args.count c.numbers.counter c.numbers.r c.in_ok-number.number c.u32.new.self (numbers_at c.args.count c.args.r.now) c.numbers-test.true one c.numbers.invariant)
