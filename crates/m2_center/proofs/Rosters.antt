-- Addresses that false_isnt_true from all before them.
use Rattle.std.proofs.Common.{◌≡◌, ℕ, zero, suc, ◌<◌, Bool, true, false, List, [], ◌∷◌, ◌++◌, length, map, take, drop, refl, sym, ap, subst, ◌∙◌, arith}
use Rattle.std.specs.Prelude.{slice_index_or}
use Rattle.std.specs.List.{AllByRecursion, IsDistinct, list_any}
use Rattle.std.proofs.lemmas.Map.Keys.{IsDistinct-head, IsDistinct-tail}
use Rattle.m2_addr.specs.declared.addr.Addr.{Addr}
use Rattle.m2_turn.specs.m2_handshake.Asks.{same_addr}
use Rattle.m2_turn.proofs.m2_handshake.Idents.{same_is, same_means}
use Rattle.m2_record.specs.RecordNow.{RecordNow}
use Rattle.m2_turn.specs.Sessions.{peer_of}
use Rattle.m2_bytes.proofs.m2_lemmas.Booleans.{false_isnt_true}

-- what isn't the same one way isn't the other way
turned_too : (a b : Addr) → same_addr a b ≡ false → same_addr b a ≡ false
turned_too a b other = at (same_addr b a) refl
  where
    at : (x : Bool) → same_addr b a ≡ x → x ≡ false
    at true same = absurd (false_isnt_true (sym other ∙ same_is a b (sym (same_means b a same))))
    at false e = refl

of_middle : (P : Addr → Type 0) (x : Addr) (xs ys : List Addr) → AllByRecursion P (xs ++ x ∷ ys) → P x
of_middle P x [] ys all = all.0
of_middle P x (z ∷ zs) ys all = of_middle P x zs ys all.1

pub not_before : (x : Addr) (xs ys : List Addr) → IsDistinct same_addr (xs ++ x ∷ ys) → list_any (same_addr x) xs ≡ false
not_before x [] ys apart = refl
not_before x (z ∷ zs) ys apart =
    rw (turned_too z x (of_middle (λ y. same_addr z y ≡ false) x zs ys (IsDistinct-head same_addr z (zs ++ x ∷ ys) apart)))
    (not_before x zs ys (IsDistinct-tail same_addr z (zs ++ x ∷ ys) apart))

-- ---- records, one after another

-- the peers of those before a record, its own, and those of the others
split_at : (side : RecordNow) (rs : List RecordNow) (i : ℕ) → i < length rs → slice_index_or rs i side ≡ side → map peer_of rs ≡ map peer_of (take i rs) ++ peer_of side ∷ map peer_of (drop (suc i) rs)
split_at side [] i within here = absurd (omega (arith, within))
split_at side (r ∷ rs) zero within here = ap (λ (x : RecordNow). peer_of x ∷ map peer_of rs) here
split_at side (r ∷ rs) (suc n) within here = ap (λ l. peer_of r ∷ l) (split_at side rs n (omega (arith, within)) here)

-- one more
pub one_more : (side : RecordNow) (rs : List RecordNow) (i : ℕ) → i < length rs → slice_index_or rs i side ≡ side → map peer_of (take (suc i) rs) ≡ map peer_of (take i rs) ++ peer_of side ∷ []
one_more side [] i within here = absurd (omega (arith, within))
one_more side (r ∷ rs) zero within here = ap (λ (x : RecordNow). peer_of x ∷ []) here
one_more side (r ∷ rs) (suc n) within here = ap (λ l. peer_of r ∷ l) (one_more side rs n (omega (arith, within)) here)

-- the peer of a record isn't among those before it
pub new_peer : (side : RecordNow) (rs : List RecordNow) (i : ℕ) → IsDistinct same_addr (map peer_of rs) → i < length rs → slice_index_or rs i side ≡ side → list_any (same_addr (peer_of side)) (map peer_of (take i rs)) ≡ false
new_peer side rs i apart within here =
    not_before (peer_of side) (map peer_of (take i rs)) (map peer_of (drop (suc i) rs)) (subst (IsDistinct same_addr) (split_at side rs i within here) apart)
