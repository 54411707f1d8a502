-- The one flow, and then the other.
use Rattle.std.proofs.Common.{[], ◌∷◌}
use Rattle.m2_run_trace.proofs.Deeds.{can_behind, can_first, does_then}
use Rattle.m2_run_trace.proofs.playing.flow_over.Goals as goal
use Rattle.m2_promise.specs.m2_script.Script.{MOST}
use Rattle.m2_promise.specs.m2_script.Script as deed

pub flow-requires : goal.flow-requires
flow-requires c =
    let l = c.args.link.now in
    can_first (deed.flow l.a l.b 0 MOST ∷ []) (deed.flow l.b l.a 0 MOST ∷ []) c.args.run.now c.requires

pub flow-requires-2 : goal.flow-requires-2
flow-requires-2 c =
    let l = c.args.link.now in
    can_behind (deed.flow l.a l.b 0 MOST ∷ []) (deed.flow l.b l.a 0 MOST ∷ []) c.args.run.now c.flow.new.run c.in_ok-flow.ensures c.requires

pub returns : goal.returns
returns c =
    let l = c.args.link.now in
    does_then c.flow-2.result (deed.flow l.a l.b 0 MOST ∷ []) (deed.flow l.b l.a 0 MOST ∷ []) c.args.run.now c.flow.new.run c.flow-2.new.run c.in_ok-flow.ensures c.flow-2.ensures
