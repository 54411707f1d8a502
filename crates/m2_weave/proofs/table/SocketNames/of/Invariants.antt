use Rattle.std.proofs.Common.{◌-◌, length}
use Rattle.m2_weave.proofs.Places.{ArePlacedFrom}
use Rattle.m2_weave.proofs.table.SocketNames.of.Given as goal

-- the last names have their places
abbrev pub invariant-loop-n : goal.invariant-loop-n
invariant-loop-n l = ArePlacedFrom (length l.names.items - l.n) l.places.entries l.names.items
