-- An order as steps: which strand each entry is of, and which of its items.
use Rattle.std.specs.Prelude.{◌≡◌, ℕ, List, [], ◌∷◌, slice_index}
use Rattle.m2_weave.specs.Order.{Cut, come}
use Rattle.m2_history.specs.declared.history.HistoryStep.{HistoryStep}

-- from where so many items of each strand have come
abbrev pub steps_from : Cut → List ℕ → List HistoryStep
steps_from at [] = []
steps_from at (k ∷ order) = record { strand = k; place = slice_index at k } ∷ steps_from (come k at) order

-- one step
pub record IsStep (k : ℕ) (old new : Cut) (s : HistoryStep) : Type 0 where
  pub step : s ≡ record { strand = k; place = slice_index old k }
  pub at : new ≡ come k old
