-- What a thread of a run was told when it asked whether to go on, and that it did one thing each time. This project's own.
use Rattle.std.specs.Prelude.{◌≡◌, ℕ, zero, suc, ◌+◌, ◌%◌, ◌^◌, Bool, true, false}

-- how often it was told to go on, and how often to stop
pub record WatchNow : Type 0 where
  pub goes : ℕ
  pub stops : ℕ

abbrev pub new_watch : WatchNow
new_watch = record { goes = 0; stops = 0 }

-- one more, as a number of 64 bits counts them
abbrev pub one_more : ℕ → ℕ
one_more n = (n + 1) % 2 ^ 64

-- it was told once more: to go on, or to stop
abbrev pub told : (goes_on : Bool) → WatchNow → WatchNow
told true w = record w { goes = one_more w.goes }
told false w = record w { stops = one_more w.stops }

-- ---- what it did

-- so many steps, one behind the other
abbrev pub Steps : {X : Type 0} → (step : X → X → Type 0) → (count : ℕ) → (old new : X) → Type 0
Steps step zero old new = new ≡ old
Steps {X} step (suc n) old new = (mid : X) × Steps step n old mid × step mid new

-- steps, behind which it was told to stop
pub record UntilStop {X : Type 0} (step stop : X → X → Type 0) (old new : X) : Type 0 where
  pub count : ℕ
  pub last : X
  pub steps : Steps step count old last
  pub stopped : stop last new

-- Of a node that is on it has taken steps until it was told to stop; of one that is off it has done nothing.
pub record RunsSo {X : Type 0} (step stop : X → X → Type 0) (started : Bool) (old new : X) : Type 0 where
  pub on : started ≡ true → UntilStop step stop old new
  pub off : started ≡ false → new ≡ old
