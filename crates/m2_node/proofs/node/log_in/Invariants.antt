-- None of the centers so far has an end of the socket.
use Rattle.std.proofs.Common.{◌≡◌, drop}
use Rattle.m2_node.proofs.Each.{log_among}
use Rattle.m2_node.proofs.node.log_in.Given as goal

abbrev pub invariant-centers : goal.invariant-centers
invariant-centers g l = log_among (drop l.center-index l.centers) l.id ≡ log_among l.centers l.id
