-- Of those behind the ones that are left this is left, the last one first, and their halves are these; and there is room for what is left.
use Rattle.std.proofs.Common.{◌-◌, ◌≤◌, length}
use Rattle.std.specs.Prelude.{vec_capacity, vec_len}
use Rattle.m2_run.proofs.Lasts.{AreJoined}
use Rattle.m2_run.proofs.ending.join_halves.Given as goal

abbrev pub invariant-nodes : goal.invariant-nodes
invariant-nodes g l = record {
  joined : AreJoined l.fn.all.items l.all.items l.ends.items l.moved l.loose.items;
  room : length l.all.items ≤ vec_capacity l.ends - vec_len l.ends;
}

abbrev pub decreases-nodes : goal.decreases-nodes
decreases-nodes g l = length l.all.items
