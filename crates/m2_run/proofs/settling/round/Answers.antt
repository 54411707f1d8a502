-- One node more has taken its turn, or is off.
use Rattle.std.proofs.Common.{◌+◌, List, ap, length, refl, subst, sym, ◌∙◌}
use Rattle.std.proofs.lemmas.Option.{slice_get_read}
use Rattle.m2_node.specs.Nodes.{RunNodeNow}
use Rattle.m2_node.specs.declared.end.RunEnd.{RunEnd}
use Rattle.m2_node.specs.Way.{NodeTurnsSo}
use Rattle.m2_scenario.specs.declared.node.Node.{Node}
use Rattle.m2_run.proofs.Rounds.{HaveDone, all_turned, one_did, one_is_off}
use Rattle.m2_run.proofs.settling.round.Goals as goal
use Rattle.m2_run.proofs.settling.round.Goals.{then-nodes-k+in_ok-turn_node, else-nodes-k}

pub nodes-preserved : goal.nodes-preserved
nodes-preserved g c =
    let how = NodeTurnsSo (RunEnd g.row.P-End.Denot) c.args.now in
    let nodes = c.args.nodes.now in
    let old = c.args.all.now in
    let k = c.nodes.k in
    let y = c.index-nodes-k.result in
    let here = slice_get_read nodes (length nodes) k y refl c.nodes-test.true c.index-nodes-k.is in
    elim c.if-nodes-k.branch [
      | then-nodes-k+in_ok-turn_node w ↦
          subst (λ (x : List RunNodeNow). HaveDone how (k + 1) nodes old x) (sym w.all-is)
          (one_did how nodes old k c.nodes.all w.turn_node.new.all y here (ap (λ (z : Node). z.started) c.index-nodes-k.is ∙ w.if-nodes-k.true) c.nodes.invariant w.in_ok-turn_node.ensures)
      | else-nodes-k w ↦
          subst (λ (x : List RunNodeNow). HaveDone how (k + 1) nodes old x) (sym w.all-is)
          (one_is_off how nodes old k c.nodes.all y here (ap (λ (z : Node). z.started) c.index-nodes-k.is ∙ w.if-nodes-k.false) c.nodes.invariant)
    ]

pub returns : goal.returns
returns g c = all_turned (RunEnd g.row.P-End.Denot) c.args.now c.nodes.k c.args.nodes.now c.args.all.now c.nodes.all c.nodes-test.false c.nodes.invariant
