use Rattle.std.proofs.Common.{◌≡◌, ◌++◌, ◌∷◌, [], arith}
use Rattle.std.proofs.lemmas.Result.{err_from_is_err_and}
use Rattle.std.proofs.lemmas.List.{map_push, length-append}
use Rattle.m2_addr.specs.Addr.{IsSound, bare}
use Rattle.m2_addr.specs.Vector.{bares, addresses_at}
use Rattle.m2_addr.proofs.Addresses.{goes_on, ends, is_done}
use Rattle.m2_addr.proofs.vector.read_addresses.Goals as goal
use Rattle.m2_bytes.proofs.m2_lemmas.Lists.{all_last}

pub returns-in_err-address-clause-exact : goal.returns-in_err-address-clause-exact
returns-in_err-address-clause-exact c =
    let p = err_from_is_err_and c.from_residual.result c.from_residual.ensures.1 in
    rw (p.1, p.2) (ends c.in_err-address.field-0.0 (bares c.addresses.items.items) c.args.count c.addresses.counter c.addresses.r (addresses_at c.args.count c.args.r.now) c.addresses-test.true c.in_err-address.ensures.exact c.addresses.invariant.so_far)

pub addresses-preserved : goal.addresses-preserved
addresses-preserved c =
    let e : bares c.push.new.self.items ≡ bares c.addresses.items.items ++ bare c.in_ok-address.address ∷ [] = rw c.in_ok-push.ensures.items (map_push _ c.addresses.items.items c.in_ok-address.address) in
    record {
      so_far = rw e (goes_on (bares c.addresses.items.items) c.args.count c.addresses.counter c.addresses.r (bare c.in_ok-address.address) c.read_addr.new.r (addresses_at c.args.count c.args.r.now) c.addresses-test.true c.in_ok-address.ensures.exact c.addresses.invariant.so_far);
      within = omega (arith, c.addresses-test.true);
      count = rw c.in_ok-push.ensures.items (omega (arith, c.addresses.invariant.count, length-append c.addresses.items.items (c.in_ok-address.address ∷ [])));
      sound = rw c.in_ok-push.ensures.items (all_last IsSound c.addresses.items.items c.in_ok-address.address c.addresses.invariant.sound c.in_ok-address.ensures.sound);
    }

pub returns-clause-exact : goal.returns-clause-exact
returns-clause-exact c = is_done (bares c.addresses.items.items) c.args.count c.addresses.counter c.addresses.r (addresses_at c.args.count c.args.r.now) c.addresses-test.false c.addresses.invariant.so_far
