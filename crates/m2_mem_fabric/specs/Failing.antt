-- Which calls of one kind are to fail: by their places among all such calls, counted from 1.
use Rattle.std.specs.Prelude.{ℕ, ◌==◌, Bool, List, []}
use Rattle.std.specs.List.{list_any}
use Rattle.m2_edge.specs.Faults.{next_count}

-- the places of those that are to fail, and how many calls there were
pub record Failing : Type 0 where
  pub at : List ℕ
  pub calls : ℕ

abbrev pub none_fails : Failing
none_fails = record { at = []; calls = 0 }

-- the next call is to fail
abbrev pub is_to_fail : Failing → Bool
is_to_fail f = list_any (λ at. at == next_count f.calls) f.at

-- after one more call
abbrev pub after_call : Failing → Failing
after_call f = record f { calls = next_count f.calls }
