-- Where those that are left are, all are.
use Rattle.std.proofs.Common.{length}
use Rattle.std.specs.List.{IsDistinct}
use Rattle.m2_fabric.specs.Sockets.{same_socket}
use Rattle.m2_run.proofs.once.are_distinct.Given as goal

abbrev pub invariant-sockets : goal.invariant-sockets
invariant-sockets l = IsDistinct same_socket l.sockets.items → IsDistinct same_socket l.fn.sockets.items

abbrev pub decreases-sockets : goal.decreases-sockets
decreases-sockets l = length l.sockets.items
