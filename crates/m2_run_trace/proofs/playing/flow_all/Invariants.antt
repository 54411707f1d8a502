-- The flows over the links from the place on are left.
use Rattle.std.proofs.Common.{drop}
use Rattle.std.specs.List.{flat_map}
use Rattle.m2_run_trace.proofs.Deeds.{DoesSome}
use Rattle.m2_run_trace.proofs.playing.flow_all.Given as goal
use Rattle.m2_promise.specs.m2_script.Script.{both_flow}

abbrev pub invariant-links : goal.invariant-links
invariant-links l = DoesSome (flat_map both_flow l.scene.links.now) (flat_map both_flow (drop l.place l.scene.links.now)) l.fn.run l.run
