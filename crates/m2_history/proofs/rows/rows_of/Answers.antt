-- One row more.
use Rattle.std.proofs.Common.{[], ◌∷◌, ◌++◌, map, refl, ap, ◌∙◌}
use Rattle.std.proofs.lemmas.List.{map-append}
use Rattle.m2_history.specs.Ends.{end_now}
use Rattle.m2_history.specs.Woven.{row_in, row_now}
use Rattle.m2_history.proofs.Gathering.{one_more}
use Rattle.m2_history.proofs.Sides.{row_is}
use Rattle.m2_history.proofs.rows.rows_of.Goals as goal

pub loop-e-preserved : goal.loop-e-preserved
loop-e-preserved c =
    let all = map end_now c.args.ends.now in
    one_more (λ es. map (row_in all) (map end_now es)) (λ e. row_in all (end_now e) ∷ []) (λ x xs. refl) c.args.ends.now c.loop-e.e-index c.e-item.result
    (map row_now c.loop-e.rows.items) (map row_now c.push.new.self.items) _ c.loop-e-test.true c.e-item.is c.loop-e.invariant
    (ap (map row_now) c.in_ok-push.ensures.items ∙ map-append row_now c.loop-e.rows.items (c.row_in.result ∷ [])
    ∙ ap (λ r. map row_now c.loop-e.rows.items ++ r ∷ [])
    (c.row_in.ensures ∙ row_is c.in_ok-openers.openers c.in_ok-acceptors.acceptors all (end_now c.e-item.result) c.in_ok-openers.ensures c.in_ok-acceptors.ensures))
