-- The peers and the plans of records, which a turn leaves alone.
use Rattle.std.proofs.Common.{◌≡◌, ℕ, List, [], ◌∷◌, map, refl, sym, ap, ◌∙◌}
use Rattle.m2_weave.specs.m2_journal.declared.facts.PlanStep.{PlanStep}
use Rattle.m2_history.specs.m2_record.RecordNow.{RecordNow}
use Rattle.m2_cluster.proofs.m2_center.m2_turn.Steady.{StaySteady, StaysSteady, steady_of}

-- the place of its peer, and its plan
abbrev pub planned_of : RecordNow → ℕ × List PlanStep
planned_of r = (r.place, r.plan)

abbrev pub KeepsPlan : (old new : RecordNow) → Type 0
KeepsPlan old new = planned_of new ≡ planned_of old

-- each of all does
abbrev pub KeepPlans : (old new : List RecordNow) → Type 0
KeepPlans old new = map planned_of new ≡ map planned_of old

-- ---- where nothing is handed on either

abbrev first_two : ℕ × List PlanStep × ℕ → ℕ × List PlanStep
first_two x = (x.0, x.1)

pub steady_plan : (old new : RecordNow) → StaysSteady old new → KeepsPlan old new
steady_plan old new e = ap first_two e

pub steady_plans : (old new : List RecordNow) → StaySteady old new → KeepPlans old new
steady_plans old new e = sym (both new) ∙ ap (map first_two) e ∙ both old
  where
    both : (rs : List RecordNow) → map first_two (map steady_of rs) ≡ map planned_of rs
    both [] = refl
    both (r ∷ rs) = ap (λ l. planned_of r ∷ l) (both rs)
