-- The calls of a source or sink in memory, counted from 1, and which of them fail.
use Rattle.std.specs.Prelude.{◌≡◌, ℕ, ◌==◌, Bool, true, false, List, Result, Ok, Err}
use Rattle.std.specs.List.{list_any}
use Rattle.m2_edge.specs.Faults.{next_count}
use Rattle.m2_edge.specs.declared.failed.Failed.{Failed}

-- the numbers of the calls that are to fail, how many calls were made, and how many faults there were
pub record CallCounts : Type 0 where
  pub fails : List ℕ
  pub made : ℕ
  pub faults : ℕ

-- whether the next call is to fail
abbrev pub is_due : CallCounts → Bool
is_due c = list_any (λ number. number == next_count c.made) c.fails

-- after one more call
abbrev pub counted : CallCounts → CallCounts
counted c = record c { made = next_count c.made }

-- after one more fault
abbrev pub faulted : CallCounts → CallCounts
faulted c = record c { faults = next_count c.faults }

-- counting a call: it fails, and is a fault, exactly where its number is listed
abbrev pub Counts : Result (Unit {0}) Failed → CallCounts → CallCounts → Type 0
Counts (Ok _) old new = (is_due old ≡ false) × (new ≡ counted old)
Counts (Err _) old new = (is_due old ≡ true) × (new ≡ faulted (counted old))
