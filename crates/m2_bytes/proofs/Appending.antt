-- What was appended piece by piece was appended whole.
use Rattle.std.proofs.Common.{◌≡◌, ℕ, List, ◌++◌, Result, Ok, Err, OnOk, ap, ◌∙◌, append_assoc}
use Rattle.m2_bytes.specs.Blob.{Appends, Contents}
use Rattle.m2_bytes.specs.declared.memory.NoMemory.{NoMemory}

pub behind : (result : Result (Unit {0}) NoMemory) (old first more : List ℕ) (mid new : Contents) → mid.bytes ≡ old ++ first → Appends result mid new more
    → OnOk result (new.bytes ≡ old ++ (first ++ more))
behind (Ok u) old first more mid new before h = h.0 ∙ ap (λ text. text ++ more) before ∙ append_assoc old first more
behind (Err e) old first more mid new before h = tt
