-- Whether records have handed parcels out: code says so of counts that contracts alone see. This project's own.
use Rattle.std.specs.Prelude.{◌≡◌, ℕ, ◌+◌, ◌<◌, ◌||◌, Bool, true, false, List, [], ◌∷◌}
use Rattle.m2_record.specs.RecordNow.{RecordNow}

-- how many parcels these records have handed out by now
abbrev pub handed_in : List RecordNow → ℕ
handed_in [] = 0
handed_in (r ∷ rs) = r.handed + handed_in rs

-- there are more than before, or as many
abbrev pub AreMore : (more : Bool) → (before now : ℕ) → Type 0
AreMore true before now = before < now
AreMore false before now = now ≡ before

-- it is said exactly where there are more than before, or where it was said already
pub record SaysMore (was is : Bool) (before now : ℕ) : Type 0 where
  pub more : Bool
  pub said : is ≡ (was || more)
  pub counts : AreMore more before now
