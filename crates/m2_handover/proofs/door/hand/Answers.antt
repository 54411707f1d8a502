use Rattle.std.proofs.Common.{◌≡◌, ◌<◌, length, refl, ap, arith}
use Rattle.std.proofs.lemmas.Option.{slice_get_read}
use Rattle.m2_handover.proofs.Handing.{goes_by_way}
use Rattle.m2_handover.proofs.door.hand.Goals as goal

-- src/door.rt:366:23
pub returns-in-Ok : goal.returns-in-Ok
returns-in-Ok g c =
    let ways = c.ways.ways.items in
    let same : length ways ≡ length c.args.ways.now.items = ap length c.ways.invariant.ways in
    let test = c.ways-test.true in
    let many = c.len-k-end.ensures in
    let within : c.ways.k < length ways = omega (arith, test, many, same) in
    goes_by_way c.ways.k c.args.handed c.ways.left c.args.ways.now.items ways c.index_mut.result.now c.hand.new.self c.ways.invariant.left c.ways.invariant.ways
    (slice_get_read ways (length ways) c.ways.k c.index_mut.result.now refl within c.index_mut.ensures.value) c.in-Ok.ensures.home c.in-Ok.ensures.put
