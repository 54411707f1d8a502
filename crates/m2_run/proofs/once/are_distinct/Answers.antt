-- At the end none is left.
use Rattle.std.proofs.Common.{rules, ◌≡◌, []}
use Rattle.m2_run.proofs.Times.{distinct_none}
use Rattle.m2_run.proofs.once.are_distinct.Goals as goal

pub returns : goal.returns
returns c = let none : c.sockets.sockets.items ≡ [] = search rules in c.sockets.invariant (distinct_none c.sockets.sockets.items none)
