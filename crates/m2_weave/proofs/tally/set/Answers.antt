-- The flag at the socket's place is set, or there is none.
use Rattle.std.proofs.Common.{arith}
use Rattle.m2_weave.specs.Table.{names_of}
use Rattle.m2_weave.proofs.Tallies.{names_count, none_set, set_so}
use Rattle.m2_weave.proofs.tally.set.Goals as goal

pub returns-then-place-len-clause-set : goal.returns-then-place-len-clause-set
returns-then-place-len-clause-set c =
    set_so (names_of c.args.sockets.now) c.args.flags.now.items c.args.socket.now c.place_in-place.result c.place_in-place.ensures (omega (arith, c.len.ensures))

pub returns-else-place-len-clause-set : goal.returns-else-place-len-clause-set
returns-else-place-len-clause-set c =
    none_set (names_of c.args.sockets.now) c.args.flags.now.items c.args.socket.now
    (omega (arith, names_count c.args.sockets.now, c.place_in-place.ensures, c.len.ensures))
