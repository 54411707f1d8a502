-- By the records of the node that stands there.
use Rattle.std.proofs.Common.{length, refl, ap, ◌∙◌}
use Rattle.std.specs.List.{list_any}
use Rattle.std.proofs.lemmas.Option.{slice_get_read}
use Rattle.m2_node.specs.m2_script.Outcome.{records_at}
use Rattle.m2_node.specs.m2_script.Ways.{is_down_to}
use Rattle.m2_run.proofs.Leaves.{at_node, at_none, records_over}
use Rattle.m2_run.proofs.left.is_down_at.Goals as goal

pub returns-in-None : goal.returns-in-None
returns-in-None g c = at_none c.args.all.now c.args.from (λ o. list_any (is_down_to c.args.to) (records_at o)) c.in-None.ensures.lookup.3

pub returns-in-Some : goal.returns-in-Some
returns-in-Some g c =
    let all = c.args.all.now in
    let n = c.in-Some.node.now in
    c.is_down_in.ensures ∙ ap (λ cs. list_any (is_down_to c.args.to) (records_over cs)) c.centers.ensures
    ∙ at_node all c.args.from (λ o. list_any (is_down_to c.args.to) (records_at o)) n (slice_get_read all (length all) c.args.from n refl c.in-Some.ensures.lookup.3.0 c.in-Some.ensures.lookup.1)
