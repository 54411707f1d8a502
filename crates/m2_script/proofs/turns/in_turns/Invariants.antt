-- What is merged so far, and what is left of both turn by turn, are all.
use Rattle.std.proofs.Common.{◌≡◌, ◌++◌, drop}
use Rattle.m2_script.specs.Outcome.{in_turns, of_node}
use Rattle.m2_script.proofs.turns.in_turns.Given as goal

abbrev pub invariant-loop-turn : goal.invariant-loop-turn
invariant-loop-turn l =
    l.merged.items ++ in_turns (of_node l.node (drop l.turn-index l.calls)) l.fast.rest.items l.queued.rest.items ≡ in_turns (of_node l.node l.calls) l.fn.both.fast.items l.fn.both.queued.items
