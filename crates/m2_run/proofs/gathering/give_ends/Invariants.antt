-- Whatever puts the ends that are left last, behind those so far, puts all of them last.
use Rattle.std.proofs.Common.{List, map}
use Rattle.m2_fabric.specs.End.{SeenEnd}
use Rattle.m2_node.specs.Ends.{seen_end}
use Rattle.m2_run.specs.Gathering.{Opens}
use Rattle.m2_run.proofs.gathering.give_ends.Given as goal

abbrev pub invariant-loop-end : goal.invariant-loop-end
invariant-loop-end g l =
    let seen = g.E.End.seen in
    (all : List SeenEnd) → Opens l.cuts l.made (map seen_end l.end-iterator.rest.items) (map seen l.into.items) all →
    Opens l.cuts l.made (map seen_end l.initial.end-iterator.rest.items) (map seen l.initial.into.items) all
