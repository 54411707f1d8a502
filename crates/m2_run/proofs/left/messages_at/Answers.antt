-- By what the dispatchers of the node that stands there were called with.
use Rattle.std.proofs.Common.{◌++◌, [], length, refl, ap, ◌∙◌}
use Rattle.std.proofs.lemmas.Option.{slice_get_read}
use Rattle.std.proofs.lemmas.Result.{IfOk-weaker}
use Rattle.m2_dispatch.specs.Heard.{heard_by}
use Rattle.m2_node.specs.m2_script.Outcome.{heard_of_node}
use Rattle.m2_run.proofs.Leaves.{at_node, at_none, fast_over, messages, queued_over}
use Rattle.m2_run.proofs.left.messages_at.Goals as goal

pub returns-in-None : goal.returns-in-None
returns-in-None g c = at_none c.args.all.now c.args.to (λ o. messages c.args.from (heard_of_node heard_by c.args.to [] o)) c.in-None.ensures.lookup.3

pub returns-in-Some : goal.returns-in-Some
returns-in-Some g c =
    let all = c.args.all.now in
    let n = c.in-Some.node.now in
    let there = slice_get_read all (length all) c.args.to n refl c.in-Some.ensures.lookup.3.0 c.in-Some.ensures.lookup.1 in
    IfOk-weaker c.messages_in.result _ _
    (λ count e. e ∙ ap (λ cs. messages c.args.from (heard_by (fast_over cs) ++ heard_by (queued_over cs))) c.centers.ensures
    ∙ at_node all c.args.to (λ o. messages c.args.from (heard_of_node heard_by c.args.to [] o)) n there) c.messages_in.ensures
