-- What is left flows over the links from the place on.
use Rattle.std.proofs.Common.{drop}
use Rattle.std.specs.Prelude.{flat_map}
use Rattle.m2_dispatch.specs.Heard.{heard_by}
use Rattle.m2_script.specs.Script.{both_flow}
use Rattle.m2_script.proofs.Deeds.{IsAmid}
use Rattle.m2_script.proofs.lines.Run.flow_all.Given as goal

abbrev pub invariant-loop-link : goal.invariant-loop-link
invariant-loop-link g l =
    IsAmid g.row.P-End.Denot heard_by (flat_map both_flow (drop l.link-index l.links)) (flat_map both_flow l.links) l.fn.self l.self
