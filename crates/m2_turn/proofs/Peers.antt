-- The addresses of peers, and the record of one of them among the others.
use Rattle.std.proofs.Common.{◌≡◌, ℕ, zero, suc, ◌<◌, Bool, true, false, List, [], ◌∷◌, map, length, refl, sym, ap, subst, ◌∙◌, arith}
use Rattle.std.specs.Prelude.{slice_index_or, slice_set}
use Rattle.std.specs.List.{AllByRecursion, IsDistinct}
use Rattle.std.proofs.lemmas.Map.Keys.{IsDistinct-head, IsDistinct-tail}
use Rattle.m2_addr.specs.declared.addr.Addr.{Addr}
use Rattle.m2_handshake.specs.Asks.{same_addr}
use Rattle.m2_record.specs.RecordNow.{RecordNow}
use Rattle.m2_turn.specs.Sessions.{peer_of}
use Rattle.m2_bytes.proofs.m2_lemmas.Lists.{all_of_map}
use Rattle.m2_handshake.proofs.Idents.{same_means}
use Rattle.m2_bytes.proofs.m2_lemmas.Booleans.{false_isnt_true}

-- what is not the second isn't the first, where they are the same
pub differs_too : (a b c : Addr) → same_addr a b ≡ true → same_addr b c ≡ false → same_addr a c ≡ false
differs_too a b c same other = ap (λ x. same_addr x c) (same_means a b same) ∙ other

-- ---- facts of all records

pub each_of_two : {X : Type 0} (P R Q : X → Type 0) → ((x : X) → P x → R x → Q x) → (xs : List X) → AllByRecursion P xs → AllByRecursion R xs → AllByRecursion Q xs
each_of_two P R Q f [] all too = tt
each_of_two P R Q f (x ∷ xs) all too = (f x all.0 too.0, each_of_two P R Q f xs all.1 too.1)

-- that of the record at a place
pub at_place : (P : RecordNow → Type 0) (side : RecordNow) (rs : List RecordNow) (place : ℕ) → place < length rs → slice_index_or rs place side ≡ side → AllByRecursion P rs → P side
at_place P side [] place within here all = absurd (omega (arith, within))
at_place P side (r ∷ rs) zero within here all = subst P here all.0
at_place P side (r ∷ rs) (suc n) within here all = at_place P side rs n (omega (arith, within)) here all.1

-- a fact of the others, of one record that changed, and so of all
pub with_one : (P Q : RecordNow → Type 0) (peer : Addr) (side behind : RecordNow) (rs : List RecordNow) (place : ℕ) →
    IsDistinct same_addr (map peer_of rs) → place < length rs → slice_index_or rs place side ≡ side → same_addr peer (peer_of side) ≡ true →
    ((r : RecordNow) → same_addr peer (peer_of r) ≡ false → P r → Q r) → (P side → Q behind) → AllByRecursion P rs → AllByRecursion Q (slice_set rs place behind)
with_one P Q peer side behind [] place apart within here same others one all = absurd (omega (arith, within))
with_one P Q peer side behind (r ∷ rs) zero apart within here same others one all = (
  one (subst P here all.0),
  each_of_two P (λ s. same_addr (peer_of r) (peer_of s) ≡ false) Q
      (λ s p other. others s (differs_too peer (peer_of r) (peer_of s) (subst (λ t. same_addr peer (peer_of t) ≡ true) (sym here) same) other) p) rs all.1
      (all_of_map (λ a. same_addr (peer_of r) a ≡ false) peer_of rs (IsDistinct-head same_addr (peer_of r) (map peer_of rs) apart)),
)
with_one P Q peer side behind (r ∷ rs) (suc n) apart within here same others one all = (
  others r (before (same_addr peer (peer_of r)) refl) all.0,
  with_one P Q peer side behind rs n (IsDistinct-tail same_addr (peer_of r) (map peer_of rs) apart) (omega (arith, within)) here same others one all.1,
)
  where
    far : same_addr (peer_of r) (peer_of side) ≡ false
    far = at_place (λ s. same_addr (peer_of r) (peer_of s) ≡ false) side rs n (omega (arith, within)) here
        (all_of_map (λ a. same_addr (peer_of r) a ≡ false) peer_of rs (IsDistinct-head same_addr (peer_of r) (map peer_of rs) apart))

    before : (b : Bool) → same_addr peer (peer_of r) ≡ b → b ≡ false
    before true e = absurd (false_isnt_true (sym far ∙ ap (λ a. same_addr a (peer_of side)) (sym (same_means peer (peer_of r) e)) ∙ same))
    before false e = refl

-- ---- the peers stay

pub same_peers : (side behind : RecordNow) (rs : List RecordNow) (place : ℕ) → place < length rs → slice_index_or rs place side ≡ side → peer_of behind ≡ peer_of side →
    map peer_of (slice_set rs place behind) ≡ map peer_of rs
same_peers side behind [] place within here e = absurd (omega (arith, within))
same_peers side behind (r ∷ rs) zero within here e = ap (λ a. a ∷ map peer_of rs) (e ∙ ap peer_of (sym here))
same_peers side behind (r ∷ rs) (suc n) within here e = ap (λ l. peer_of r ∷ l) (same_peers side behind rs n (omega (arith, within)) here e)
