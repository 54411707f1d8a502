use Rattle.std.proofs.Common.{◌≡◌, ◌+◌, ◌≤◌, ◌++◌, [], ◌∷◌, length, map, sym, ap, ◌∙◌, arith, length-append, append-nil}
use Rattle.std.proofs.lemmas.Slice.Zip.{zip_turn, zip_end}
use Rattle.std.proofs.lemmas.Grind.{common_steps}
use Rattle.m2_scenario.specs.Report.{name_of}
use Rattle.m2_scenario.proofs.Appended.{one_done}
use Rattle.m2_scenario.proofs.ReportLines.{lines_more, none_left}
use Rattle.m2_scenario.proofs.reports.put_nodes.Goals as goal

pub loop-node-preserved : goal.loop-node-preserved
loop-node-preserved c =
    let nodes = c.args.nodes.now in
    let logs = c.args.logs.now in
    let names = map name_of nodes in
    let k = length c.loop-node.yielded in
    let turn = zip_turn nodes logs c.loop-node.yielded c.into_iter-node-iterator.result c.loop-node.node-iterator c.next.new.self c.next.result (grind (arith, common_steps)) (grind (arith, common_steps)) c.loop-node.yielded_by (c.in-Some.node, c.in-Some.log) c.in-Some.is c.next.ensures.steps in
    let next : length (c.loop-node.yielded ++ (c.in-Some.node, c.in-Some.log) ∷ []) ≡ k + 1 = length-append c.loop-node.yielded ((c.in-Some.node, c.in-Some.log) ∷ []) in
    let more = lines_more c.args.sorted names nodes logs k c.in-Some.node.now c.in-Some.log.now turn.0 turn.1 (turn.2 c.in-Some.node.now) (turn.3 c.in-Some.log.now) in
    rw next (one_done c.loop-node.text.bytes c.put_node.new.text.bytes _ _ _ _ (rw (c.as_slice.ensures.bytes, c.as_slice-in-loop-node.ensures) at c.in_ok-put_node.ensures) more c.loop-node.invariant)

pub returns : goal.returns
returns c =
    let nodes = c.args.nodes.now in
    let logs = c.args.logs.now in
    let done = zip_end nodes logs c.loop-node.yielded c.into_iter-node-iterator.result c.loop-node.node-iterator c.next.new.self c.next.result (grind (arith, common_steps)) (grind (arith, common_steps)) c.loop-node.yielded_by c.in-None.is c.next.ensures.steps in
    let all : length nodes ≤ length c.loop-node.yielded = omega (arith, done, c.requires.each) in
    let none = none_left c.args.sorted (map name_of nodes) nodes logs (length c.loop-node.yielded) all in
    sym (append-nil c.loop-node.text.bytes) ∙ ap (λ t. c.loop-node.text.bytes ++ t) (sym none) ∙ c.loop-node.invariant
