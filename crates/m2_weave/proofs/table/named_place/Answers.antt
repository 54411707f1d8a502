-- A name has a place.
use Rattle.std.proofs.Common.{arith}
use Rattle.m2_weave.specs.Table.{names_of}
use Rattle.m2_weave.proofs.Tallies.{names_count, place_within}
use Rattle.m2_weave.proofs.table.named_place.Goals as goal

pub returns-clause-within : goal.returns-clause-within
returns-clause-within c =
    omega (arith, names_count c.args.sockets.now, place_within (names_of c.args.sockets.now) c.args.k.now c.requires.named, c.place_in.ensures)
