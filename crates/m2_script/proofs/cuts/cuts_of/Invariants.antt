-- The cuts so far are those of the lines so far.
use Rattle.std.proofs.Common.{◌≡◌, take}
use Rattle.m2_script.specs.Nodes.{cuts_of}
use Rattle.m2_script.proofs.cuts.cuts_of.Given as goal

abbrev pub invariant-loop-line : goal.invariant-loop-line
invariant-loop-line l = l.cuts.items ≡ cuts_of l.nodes (take l.line-index l.lines) l.number
