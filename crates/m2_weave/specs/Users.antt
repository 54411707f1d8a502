-- Which strands wait for which counter.
use Rattle.std.specs.Prelude.{◌≡◌, ℕ, ◌+◌, ◌<◌, ◌⊎◌, List, [], ◌∷◌, length, slice_get, All, Option, Some, None}
use Rattle.m2_weave.specs.declared.counted.CountedEntry.{CountedEntry}
use Rattle.m2_weave.specs.declared.counted.Need.{Need}
use Rattle.m2_weave.specs.declared.counted.Need.TheVariants.{Nothing, AtLeast, Never}
use Rattle.m2_weave.specs.declared.users.Users.{Users}
use Rattle.m2_weave.specs.Counted.{Strands}

-- ---- entries that name counters below a count

abbrev pub IsNeedWithin : (counters : ℕ) → Need → Type 0
IsNeedWithin counters (AtLeast counter least) = counter < counters
IsNeedWithin counters Nothing = Unit {0}
IsNeedWithin counters Never = Unit {0}

pub record IsWithin (counters : ℕ) (e : CountedEntry) : Type 0 where
  pub need : IsNeedWithin counters e.need
  pub counter : e.counter < counters

abbrev pub AreWithin : (counters : ℕ) → Strands → Type 0
AreWithin counters strands = All (All (IsWithin counters)) strands

-- ---- who waits

-- a number is one of a list
abbrev pub IsIn : ℕ → List ℕ → Type 0
IsIn k [] = ⊥
IsIn k (x ∷ xs) = (x ≡ k) ⊎ IsIn k xs

abbrev pub strands_of : Option Users → List ℕ
strands_of (Some u) = u.strands.items
strands_of None = []

-- the strands that are listed with a counter
abbrev pub users_at : List Users → ℕ → List ℕ
users_at users c = strands_of (slice_get users c)

-- how many are listed in all
abbrev pub listed : List Users → ℕ
listed [] = 0
listed (u ∷ us) = length u.strands.items + listed us

-- the strand is listed with the counter for which its entry waits
abbrev pub IsListed : List Users → (strand : ℕ) → Need → Type 0
IsListed users strand (AtLeast counter least) = IsIn strand (users_at users counter)
IsListed users strand Nothing = Unit {0}
IsListed users strand Never = Unit {0}

abbrev pub AreListed : List Users → (strand : ℕ) → List CountedEntry → Type 0
AreListed users strand entries = All (λ (e : CountedEntry). IsListed users strand e.need) entries

-- as many counters, and whoever was listed still is
pub record ListsMore (old new : List Users) : Type 0 where
  pub count : length new ≡ length old
  pub still : (c k : ℕ) → IsIn k (users_at old c) → IsIn k (users_at new c)
