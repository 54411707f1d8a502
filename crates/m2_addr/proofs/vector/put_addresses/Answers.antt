use Rattle.m2_addr.proofs.Addresses.{no_room}
use Rattle.m2_addr.proofs.vector.put_addresses.Goals as goal

pub returns-in_err-write : goal.returns-in_err-write
returns-in_err-write c = absurd (no_room c.args.addresses.now c.addresses.address-index c.address-item.result c.args.out.now.room c.addresses.out.room c.addresses-test.true c.address-item.is c.requires c.addresses.invariant.room c.in_err-write.ensures.text.2)
