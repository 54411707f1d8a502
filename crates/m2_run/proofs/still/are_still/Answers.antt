use Rattle.std.proofs.Common.{length, sym, ◌∙◌}
use Rattle.std.specs.Prelude.{◌≢◌}
use Rattle.std.proofs.lemmas.Bool.{OnTrue_at}
use Rattle.m2_fabric.proofs.m2_lemmas.Booleans.{false_isnt_true}
use Rattle.m2_run.specs.Still.{AllBelow, IsIdleAt, IsMetAt}
use Rattle.m2_run.proofs.Stillness.{all_still}
use Rattle.m2_run.proofs.still.are_still.Goals as goal
use Rattle.m2_run.proofs.still.are_still.Goals.{then-are_idle, else-are_idle}

pub returns-then-are_met : goal.returns-then-are_met
returns-then-are_met g c =
    let nodes = c.args.nodes.now in
    let all = c.args.all.now in
    elim c.if-are_idle.branch [
      | then-are_idle w ↦
          all_still c.args.now nodes all (OnTrue_at {P = AllBelow (IsIdleAt c.args.now nodes all) (length all)} w.if-are_idle.true c.are_idle.ensures)
          (OnTrue_at {P = AllBelow (λ k. AllBelow (λ j. k ≢ j → IsMetAt nodes all k j) (length all)) (length all)} (sym w.value-is ∙ c.if-are_met.true) w.are_met.ensures)
          c.are_found.result c.are_found.ensures
      | else-are_idle w ↦ absurd (false_isnt_true (sym w.if-are_idle.false ∙ sym w.value-is ∙ c.if-are_met.true))
    ]
