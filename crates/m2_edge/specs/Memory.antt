-- A source and a sink that are kept in memory: contracts see all of them.
use Rattle.std.specs.Prelude.{◌≡◌, ℕ, Bool, true, false, List, [], length, take, drop, ◌++◌, min, Option, None, Some, Result, Ok, Err, if◌then◌else◌, nat_eq, slice_get, find}
use Rattle.std.specs.List.{position_from}
use Rattle.std.specs.Option.{option_map}
use Rattle.std.specs.Cmp.Lexicographic.{pointwise}
use Rattle.m2_edge.specs.Calls.{CallCounts, is_due, counted, faulted, Counts}
use Rattle.m2_edge.specs.declared.failed.Failed.{Failed}
use Rattle.m2_edge.specs.Source.{finds_end}
use Rattle.m2_edge.specs.declared.input.Input.{Input}

-- the first input of a name
abbrev pub named : List Input → List ℕ → Option Input
named inputs name = find (λ i. pointwise nat_eq i.name.bytes name) inputs

-- the index of the first input of a name
abbrev pub place_in : List Input → List ℕ → Option ℕ
place_in inputs name = position_from (λ i. pointwise nat_eq i.name.bytes name) 0 inputs

-- what an input of a name holds
abbrev pub input_of : List Input → List ℕ → Option (List ℕ)
input_of inputs name = option_map (λ i. i.bytes.bytes) (named inputs name)

abbrev pub bytes_from : ℕ → Option Input → List ℕ
bytes_from place None = []
bytes_from place (Some i) = drop place i.bytes.bytes

-- what is left of the input at an index, from a place on; nothing where there is no such input
abbrev pub rest_of : List Input → ℕ → ℕ → List ℕ
rest_of inputs index place = bytes_from place (slice_get inputs index)

-- what was read of the input at an index, up to a place
abbrev pub given_of : List Input → ℕ → ℕ → List ℕ
given_of inputs index place = take place (rest_of inputs index 0)

-- a source in memory: its inputs, its calls, what the reads gave of the input that was begun last and what is left
-- of it, and whether the last read found its end
pub record Shelf : Type 0 where
  pub inputs : List Input
  pub calls : CallCounts
  pub given : List ℕ
  pub rest : List ℕ
  pub ended : Bool

-- what a begin finds: nothing where the call is to fail
abbrev pub found : List ℕ → Shelf → Option (List ℕ)
found name s = if is_due s.calls then None else input_of s.inputs name

-- a call that failed
abbrev pub failed_call : Shelf → Shelf
failed_call old = record old { calls = faulted (counted old.calls) }

-- Beginning an input fails, and is a fault, exactly where the call is to fail or no input has the name.
-- Else the rest is the first input of the name, from its start, and nothing was read yet.
abbrev pub BeginsNamed : Result (Unit {0}) Failed → List ℕ → Shelf → Shelf → Type 0
BeginsNamed (Ok _) name old new =
    (found name old ≡ Some new.rest)
    × (new ≡ record { inputs = old.inputs; calls = counted old.calls; given = []; rest = new.rest; ended = false })
BeginsNamed (Err _) name old new = (found name old ≡ None) × (new ≡ failed_call old)

-- Reading into a piece fails, and is a fault, exactly where the call is to fail. Else as much is read as
-- there is and as the piece holds.
abbrev pub ReadsRest : Result ℕ Failed → List ℕ → Shelf → Shelf → Type 0
ReadsRest (Ok n) piece old new =
    (is_due old.calls ≡ false) × (n ≡ min (length old.rest) (length piece)) × (take n piece ≡ take n old.rest)
    × (new ≡ record {
      inputs = old.inputs;
      calls = counted old.calls;
      given = old.given ++ take n piece;
      rest = drop n old.rest;
      ended = finds_end n piece;
    })
ReadsRest (Err _) piece old new = (is_due old.calls ≡ true) × (new ≡ failed_call old)

-- a sink in memory: what it took, what of that was flushed, and its calls
pub record Kept : Type 0 where
  pub taken : List ℕ
  pub flushed : List ℕ
  pub calls : CallCounts

-- A write takes its whole piece. It fails, and is a fault, where the call is to fail or there is no memory.
abbrev pub WritesAll : Result ℕ Failed → List ℕ → Kept → Kept → Type 0
WritesAll (Ok n) piece old new =
    (is_due old.calls ≡ false) × (n ≡ length piece)
    × (new ≡ record { taken = old.taken ++ piece; flushed = old.flushed; calls = counted old.calls })
WritesAll (Err _) piece old new = new ≡ record old { calls = faulted (counted old.calls) }

-- A flush fails, and is a fault, exactly where the call is to fail. Else all that was taken is flushed.
abbrev pub FlushesKept : Result (Unit {0}) Failed → Kept → Kept → Type 0
FlushesKept (Ok _) old new =
    (is_due old.calls ≡ false) × (new ≡ record { taken = old.taken; flushed = old.taken; calls = counted old.calls })
FlushesKept (Err _) old new = (is_due old.calls ≡ true) × (new ≡ record old { calls = faulted (counted old.calls) })
