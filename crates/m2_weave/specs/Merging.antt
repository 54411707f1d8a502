-- How far a merge by counters has come, and what one more entry changes.
use Rattle.std.specs.Prelude.{◌≡◌, ℕ, ◌+◌, ◌-◌, ◌<◌, ◌⊎◌, false, List, [], ◌∷◌, ◌++◌, length, replicate, slice_index, slice_set, Option, Some, None, MatchBool}
use Rattle.m2_weave.specs.declared.counted.CountedEntry.{CountedEntry}
use Rattle.m2_weave.specs.declared.merging.Progress.{Progress}
use Rattle.m2_weave.specs.declared.users.Users.{Users}
use Rattle.m2_weave.specs.Counted.{Strands, by_counters, is_met, lengths, value_at}
use Rattle.m2_weave.specs.Order.{AreNext, Cut, come, nothing, reached}
use Rattle.m2_weave.specs.Users.{IsIn, users_at}

-- one rank for all strands
abbrev pub even : ℕ → ℕ
even k = 0

-- One more entry of a strand has come; that strand and those that wait for the counter are to be looked at.
pub record Comes (k : ℕ) (e : CountedEntry) (users : List ℕ) (old new : Progress) : Type 0 where
  pub at : new.at.items ≡ come k old.at.items
  pub values : new.values.items ≡ slice_set old.values.items e.counter (slice_index old.values.items e.counter + e.amount)
  pub order : new.order.items ≡ old.order.items ++ k ∷ []
  pub todo : new.todo.items ≡ old.todo.items ++ k ∷ users

-- An entry comes where what it waits for is met; else nothing changes.
abbrev pub GoesOn : Option CountedEntry → (k : ℕ) → List Users → (old new : Progress) → Type 0
GoesOn (Some e) k users old new =
    MatchBool (is_met e.need (slice_index old.values.items)) (Comes k e (users_at users e.counter) old new) (new ≡ old)
GoesOn None k users old new = new ≡ old

-- no entry has come, and all strands are to be looked at
pub record IsNew (strands counters : ℕ) (p : Progress) : Type 0 where
  pub at : p.at.items ≡ replicate strands 0
  pub values : p.values.items ≡ replicate counters 0
  pub order : p.order.items ≡ []
  pub todo : (k : ℕ) → k < strands → IsIn k p.todo.items

-- Where a merge stands: as many entries of each strand have come as its order names, each when it might; the counters stand
-- as these have added; and a strand that isn't to be looked at can't go on.
pub record Stands (strands : Strands) (counters : ℕ) (p : Progress) : Type 0 where
  pub reached : p.at.items ≡ reached (lengths strands) p.order.items
  pub next : AreNext even (by_counters strands) (lengths strands) (nothing (lengths strands)) p.order.items
  pub count : length p.values.items ≡ counters
  pub values : (c : ℕ) → c < counters → slice_index p.values.items c ≡ value_at strands p.at.items c
  pub waits : (k : ℕ) → k < length strands → IsIn k p.todo.items ⊎ (by_counters strands p.at.items k ≡ false)

-- how many entries are still to come
abbrev pub still_left : Strands → Cut → ℕ
still_left [] at = 0
still_left (s ∷ ss) [] = 0
still_left (s ∷ ss) (n ∷ at) = (length s - n) + still_left ss at
