-- Appending in room that was made before.
use Rattle.std.proofs.Common.{◌≡◌, ℕ, ◌+◌, ◌≤◌, List, ◌++◌, length, ap, ◌∙◌, arith, append_assoc, Result, Ok, Err, false, true, lt_of_not-le}
use Rattle.std.proofs.lemmas.Bool.{false≢true}
use Rattle.std.proofs.lemmas.List.{length-append}
use Rattle.m2_bytes.specs.declared.memory.NoMemory.{NoMemory}
use Rattle.m2_bytes.specs.Blob.{Contents, Appends}

-- what was appended, and then what the room holds for sure
pub Appends-then : (r : Result (Unit {0}) NoMemory) (old mid new : Contents) (x y : List ℕ)
    → mid.bytes ≡ old.bytes ++ x → old.room ≤ mid.room + length x → length y ≤ mid.room → Appends r mid new y → Appends r old new (x ++ y)
Appends-then (Ok _) old mid new x y bytes room fits given =
    (given.0 ∙ ap (λ (b : List ℕ). b ++ y) bytes ∙ append_assoc old.bytes x y, omega (arith, length-append x y, given.1))
Appends-then (Err _) old mid new x y bytes room fits given = absurd (omega (arith, given.2))

-- room that could not be made
pub Appends-no_room : (e : NoMemory) (old new : Contents) (x : List ℕ) (n : ℕ)
    → n ≡ length x → new.bytes ≡ old.bytes → old.room ≤ new.room → (n ≤ old.room → false ≡ true) → Appends (Err e) old new x
Appends-no_room e old new x n len bytes grows refused = (bytes, grows, omega (arith, len, lt_of_not-le (λ h. false≢true (refused h))))
