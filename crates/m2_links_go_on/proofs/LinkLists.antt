-- Lists of which no two are the same, put together of parts; and lists that go on.
use Rattle.std.proofs.Common.{◌≡◌, ℕ, zero, suc, ◌≤◌, ◌⊎◌, inl, inr, Bool, false, List, [], ◌∷◌, ◌++◌, length, take, refl, ap, arith}
use Rattle.std.specs.List.{AllByRecursion, IsDistinct}
use Rattle.m2_history.proofs.Halfway.{apart_from, distinct_join}
use Rattle.m2_fabric.proofs.m2_lemmas.Lists.{all_take, all_append, all_so}

-- ---- no two the same

-- of two lists, where any of one kind is apart from any of another
pub apart_by : {X : Type 0} (e : X → X → Bool) (P Q : X → Type 0) → ((x y : X) → P x → Q y → e x y ≡ false) → (xs ys : List X) → AllByRecursion P xs → AllByRecursion Q ys → apart_from e xs ys
apart_by e P Q h [] ys a b = tt
apart_by e P Q h (x ∷ xs) ys a b = (all_so Q (λ y. e x y ≡ false) (λ y q. h x y a.0 q) ys b, apart_by e P Q h xs ys a.1 b)

-- of two lists behind one another
apart_more : {X : Type 0} (e : X → X → Bool) (xs ys zs : List X) → apart_from e xs ys → apart_from e xs zs → apart_from e xs (ys ++ zs)
apart_more e [] ys zs a b = tt
apart_more e (x ∷ xs) ys zs a b = (all_append (λ y. e x y ≡ false) ys zs a.0 b.0, apart_more e xs ys zs a.1 b.1)

-- two lists of one kind, and two of another, in turn
pub four_apart : {X : Type 0} (e : X → X → Bool) (P Q : X → Type 0) → ((x y : X) → P x → Q y → e x y ≡ false) → ((x y : X) → Q x → P y → e x y ≡ false) → (xs ys ls ms : List X) →
    AllByRecursion P xs → AllByRecursion Q ys → AllByRecursion P ls → AllByRecursion Q ms → IsDistinct e xs → IsDistinct e ys → IsDistinct e ls → IsDistinct e ms →
    apart_from e xs ls → apart_from e ys ms → IsDistinct e ((xs ++ ys) ++ (ls ++ ms))
four_apart e P Q pq qp xs ys ls ms px qy pl qm dx dy dl dm al am =
    distinct_join e (xs ++ ys) (ls ++ ms) (distinct_join e xs ys dx dy (apart_by e P Q pq xs ys px qy)) (distinct_join e ls ms dl dm (apart_by e P Q pq ls ms pl qm))
    (all_append (λ x. AllByRecursion (λ y. e x y ≡ false) (ls ++ ms)) xs ys (apart_more e xs ls ms al (apart_by e P Q pq xs ms px qm)) (apart_more e ys ls ms (apart_by e Q P qp ys ls qy pl) am))

-- ---- the first of a list that goes on

pub take_all_of : {X : Type 0} (xs : List X) (n : ℕ) → length xs ≤ n → take n xs ≡ xs
take_all_of [] zero h = refl
take_all_of [] (suc n) h = refl
take_all_of (x ∷ xs) zero h = absurd (omega (arith, h))
take_all_of (x ∷ xs) (suc n) h = ap (λ l. x ∷ l) (take_all_of xs n (omega (arith, h)))

-- where it was counted to its end, or is not counted at all, it goes on by some of what came
pub record TakesMore {X : Type 0} (P : X → Type 0) (first now : List X) : Type 0 where
  pub more : List X
  pub is : now ≡ first ++ more
  pub each : AllByRecursion P more

pub take_more : {X : Type 0} (P : X → Type 0) (xs more : List X) (n m : ℕ) → n ≤ m → (m ≡ 0) ⊎ (length xs ≤ n) → AllByRecursion P more → TakesMore P (take n xs) (take m (xs ++ more))
take_more P xs more zero zero h c all = record { more = []; is = refl; each = tt }
take_more P xs more (suc n) zero h c all = absurd (omega (arith, h))
take_more P [] more zero (suc m) h c all = record { more = take (suc m) more; is = refl; each = all_take P (suc m) more all }
take_more P [] more (suc n) (suc m) h c all = record { more = take (suc m) more; is = refl; each = all_take P (suc m) more all }
take_more P (x ∷ xs) more zero (suc m) h (inl e) all = absurd (omega (arith, e))
take_more P (x ∷ xs) more zero (suc m) h (inr e) all = absurd (omega (arith, e))
take_more P (x ∷ xs) more (suc n) (suc m) h (inl e) all = absurd (omega (arith, e))
take_more P (x ∷ xs) more (suc n) (suc m) h (inr e) all =
    let rest = take_more P xs more n m (omega (arith, h)) (inr (omega (arith, e))) all in
    record { more = rest.more; is = ap (λ l. x ∷ l) rest.is; each = rest.each }
