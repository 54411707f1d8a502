use Rattle.std.proofs.Common.{◌≡◌, ◌++◌, map, drop}
use Rattle.m2_history.specs.Ends.{end_now}
use Rattle.m2_history.specs.Sockets.{end_by}
use Rattle.m2_history.proofs.parts.add_spent.Given as goal

-- those so far, and those that are left
abbrev pub invariant-loop-end : goal.invariant-loop-end
invariant-loop-end g l =
    map end_now l.ends.items ++ map (end_by l.opened) (map g.E.End.seen (drop l.end-index l.spent)) ≡ map end_now l.initial.ends.items ++ map (end_by l.opened) (map g.E.End.seen l.spent)
