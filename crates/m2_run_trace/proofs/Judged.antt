-- Where an ask was judged, entry by entry.
use Rattle.std.proofs.Common.{◌≡◌, ◌∙◌, ℕ, zero, suc, ◌+◌, ◌<◌, if◌then◌else◌, List, [], ◌∷◌, drop, length, Some, None, add-one, ap, arith}
use Rattle.std.specs.Prelude.{◌≢◌, Option, slice_get}
use Rattle.m2_fabric.specs.declared.socket.SocketId.{SocketId}
use Rattle.m2_journal.specs.declared.entry.Entry.{Entry}
use Rattle.m2_run_trace.specs.News.{is_judged_on, judged_by}

-- behind one entry more
pub one_more : (s : SocketId) (es : List Entry) (place : ℕ) (found new : Option ℕ) (e : Entry) → slice_get es place ≡ Some e → new ≡ (if is_judged_on s e then Some (place + 1) else found) →
    judged_by s (drop (place + 1) es) (place + 1) new ≡ judged_by s (drop place es) place found
one_more s es place found new e is so =
    ap (λ n. judged_by s (drop n es) (place + 1) new) (add-one place) ∙ ap (judged_by s (drop (suc place) es) (place + 1)) so ∙ go es place is
  where
    go : (xs : List Entry) (n : ℕ) → slice_get xs n ≡ Some e →
        judged_by s (drop (suc n) xs) (place + 1) (if is_judged_on s e then Some (place + 1) else found) ≡ judged_by s (drop n xs) place found
    go [] n is = absurd (cc is)
    go (x ∷ xs) zero is = let same : e ≡ x = cc is in ap (λ y. judged_by s xs (place + 1) (if is_judged_on s y then Some (place + 1) else found)) same
    go (x ∷ xs) (suc n) is = go xs n is

-- one stands at each place
pub is_there : (es : List Entry) (place : ℕ) → place < length es → slice_get es place ≢ None
is_there [] place h is = omega (arith, h)
is_there (e ∷ es) zero h is = cc is
is_there (e ∷ es) (suc n) h is = is_there es n (omega (arith, h)) is
