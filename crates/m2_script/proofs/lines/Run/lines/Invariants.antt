-- The lines that the iterator has still are left.
use Rattle.m2_dispatch.specs.Heard.{heard_by}
use Rattle.m2_script.specs.Script.{script_of}
use Rattle.m2_script.proofs.Deeds.{IsAmid}
use Rattle.m2_script.proofs.lines.Run.lines.Given as goal

abbrev pub invariant-loop-line : goal.invariant-loop-line
invariant-loop-line g l =
    IsAmid g.row.P-End.Denot heard_by (script_of l.links l.nodes l.line-iterator.rest.items) (script_of l.links l.nodes l.fn.lines.items) l.fn.self l.self
