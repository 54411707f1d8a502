use Rattle.std.proofs.Common.{arith}
use Rattle.std.proofs.lemmas.Result.{err_from_is_err_and}
use Rattle.m2_addr.specs.Vector.{mains_at}
use Rattle.m2_addr.proofs.Mains.{goes_on, ends, is_done}
use Rattle.m2_addr.proofs.vector.skim_addresses.Goals as goal

pub returns-in_err-address : goal.returns-in_err-address
returns-in_err-address c =
    let p = err_from_is_err_and c.from_residual.result c.from_residual.ensures.1 in
    rw (p.1, p.2) (ends c.in_err-address.field-0.0 c.addresses.main c.args.count c.addresses.counter c.addresses.r (mains_at c.args.count c.args.r.now) c.addresses-test.true c.in_err-address.ensures c.addresses.invariant.so_far)

pub addresses-preserved : goal.addresses-preserved
addresses-preserved c =
    record {
      so_far = rw c.main_with-main.ensures (goes_on c.addresses.main c.in_ok-address.address c.args.count c.addresses.counter c.addresses.r c.skim.new.r (mains_at c.args.count c.args.r.now) c.addresses-test.true c.in_ok-address.ensures c.addresses.invariant.so_far);
      within = omega (arith, c.addresses-test.true);
    }

pub returns : goal.returns
returns c = is_done c.addresses.main c.args.count c.addresses.counter c.addresses.r (mains_at c.args.count c.args.r.now) c.addresses-test.false c.addresses.invariant.so_far
