-- Whatever puts the ends of the halves that are to be given still last, behind those so far, puts those of all that are to be given last.
use Rattle.std.proofs.Common.{◌≡◌, ◌-◌, List, drop, map, take}
use Rattle.m2_fabric.specs.End.{SeenEnd}
use Rattle.m2_run.specs.Gathering.{OpensHalves}
use Rattle.m2_run.proofs.gathering.give_halves.Given as goal

abbrev pub invariant-loop : goal.invariant-loop
invariant-loop g l =
    let seen = g.E.End.seen in
    record {
      given : (all : List SeenEnd) → OpensHalves (take (l.count - l.counter) l.loose.rest.items) (map seen l.into.items) all →
          OpensHalves (take l.count l.initial.loose.rest.items) (map seen l.initial.into.items) all;
      left : drop (l.count - l.counter) l.loose.rest.items ≡ drop l.count l.initial.loose.rest.items;
    }
