use Rattle.std.proofs.Common.{◌≡◌, take}
use Rattle.m2_weave.specs.Table.{names_of}
use Rattle.m2_weave.proofs.table.names_of.Given as goal

-- those of the sockets so far
abbrev pub invariant-loop-s : goal.invariant-loop-s
invariant-loop-s l = l.names.items ≡ names_of (take l.s-index l.sockets)
