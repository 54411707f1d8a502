-- The deeds of the acts are those of the script.
use Rattle.std.proofs.Common.{List, sym, subst}
use Rattle.m2_run_trace.specs.Acts.{CanDo}
use Rattle.m2_run_trace.proofs.LineActs.{deeds_of_script}
use Rattle.m2_run_trace.proofs.tracing.can_be_played.Goals as goal
use Rattle.m2_promise.specs.m2_script.Script.{Deed}
use Rattle.m2_scenario.specs.Text.{pieces}

pub returns : goal.returns
returns c =
    let nodes = c.args.scene.now.nodes.now in
    let links = c.args.scene.now.links.now in
    subst (λ (ds : List Deed). CanDo ds c.args.run.now) (sym (deeds_of_script nodes links (pieces 10 c.args.text.now) c.args.lines.now))
    (c.first_can_be_done.ensures nodes links c.args.lines.now c.args.run.now c.requires.sound c.requires.first)
