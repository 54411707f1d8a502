-- So many rounds are left.
use Rattle.std.proofs.Common.{◌-◌}
use Rattle.m2_dispatch.specs.Heard.{heard_by}
use Rattle.m2_script.specs.Script.{rounds_of}
use Rattle.m2_script.proofs.Deeds.{IsAmid}
use Rattle.m2_script.proofs.lines.Run.settle.Given as goal

abbrev pub invariant-rounds : goal.invariant-rounds
invariant-rounds g l =
    IsAmid g.row.P-End.Denot heard_by (rounds_of l.links l.nodes (l.rounds - l.counter)) (rounds_of l.links l.nodes l.rounds) l.fn.self l.self
