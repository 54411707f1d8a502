-- Lists of which one is set, and lists of which each has its own in another.
use Rattle.std.proofs.Common.{◌≡◌, ◌⊎◌, inl, inr, ℕ, ◌==◌, zero, suc, false, List, [], ◌∷◌, length, Some, refl, ap, subst, arith}
use Rattle.std.specs.Prelude.{slice_get, slice_set}
use Rattle.std.specs.List.{AllByRecursion}
use Rattle.std.proofs.lemmas.Bool.{eqb-false, ne_eqb}
use Rattle.m2_links_go_on.specs.ClusterTold.{OneByOne}

module _ {X : Type 0} where
  pub some_same : (x y : X) → Some x ≡ Some y → x ≡ y
  some_same x y e = cc

  -- what is there then is what was set, or what was there
  pub set_at : (xs : List X) (k i : ℕ) (y n m : X) → slice_get xs i ≡ Some n → slice_get (slice_set xs k y) i ≡ Some m →
      ((k ≡ i) × (m ≡ y)) ⊎ (((k == i) ≡ false) × (m ≡ n))
  set_at [] k i y n m was is = absurd cc
  set_at (x ∷ xs) zero zero y n m was is = inl (refl, cc)
  set_at (x ∷ xs) zero (suc i) y n m was is = inr (ne_eqb zero (suc i) (λ e. omega (arith, e)), cc)
  set_at (x ∷ xs) (suc k) zero y n m was is = inr (ne_eqb (suc k) zero (λ e. omega (arith, e)), cc)
  set_at (x ∷ xs) (suc k) (suc i) y n m was is = at (set_at xs k i y n m was is)
    where
      at : ((k ≡ i) × (m ≡ y)) ⊎ (((k == i) ≡ false) × (m ≡ n)) → ((suc k ≡ suc i) × (m ≡ y)) ⊎ (((suc k == suc i) ≡ false) × (m ≡ n))
      at (inl (e, same)) = inl (ap suc e, same)
      at (inr (e, same)) = inr (ne_eqb (suc k) (suc i) (λ h. eqb-false k i e (omega (arith, h))), same)

  pub get_set : (xs : List X) (k : ℕ) (x y : X) → slice_get xs k ≡ Some x → slice_get (slice_set xs k y) k ≡ Some y
  get_set [] k x y e = absurd cc
  get_set (z ∷ zs) zero x y e = refl
  get_set (z ∷ zs) (suc k) x y e = get_set zs k x y e

  pub all_set : (P : X → Type 0) (xs : List X) (k : ℕ) (y : X) → AllByRecursion P xs → P y → AllByRecursion P (slice_set xs k y)
  all_set P [] k y all one = tt
  all_set P (x ∷ xs) zero y all one = (one, all.1)
  all_set P (x ∷ xs) (suc k) y all one = (all.0, all_set P xs k y all.1 one)

  pub all_at : (P : X → Type 0) (xs : List X) (k : ℕ) (x : X) → slice_get xs k ≡ Some x → AllByRecursion P xs → P x
  all_at P [] k x e all = absurd cc
  all_at P (y ∷ ys) zero x e all = let same : y ≡ x = cc in subst P same all.0
  all_at P (y ∷ ys) (suc k) x e all = all_at P ys k x e all.1

  -- ---- each and its own

  pub each_same : (how : X → X → Type 0) → ((x : X) → how x x) → (xs : List X) → OneByOne how xs xs
  each_same how so [] = tt
  each_same how so (x ∷ xs) = (so x, each_same how so xs)

  pub each_so : (f g : X → X → Type 0) → ((x y : X) → f x y → g x y) → (xs ys : List X) → OneByOne f xs ys → OneByOne g xs ys
  each_so f g so [] [] e = tt
  each_so f g so (x ∷ xs) (y ∷ ys) e = (so x y e.0, each_so f g so xs ys e.1)
  each_so f g so [] (y ∷ ys) e = absurd e
  each_so f g so (x ∷ xs) [] e = absurd e

  pub each_chain : (f g h : X → X → Type 0) → ((x y z : X) → f x y → g y z → h x z) → (xs ys zs : List X) → OneByOne f xs ys → OneByOne g ys zs → OneByOne h xs zs
  each_chain f g h so [] [] [] d e = tt
  each_chain f g h so (x ∷ xs) (y ∷ ys) (z ∷ zs) d e = (so x y z d.0 e.0, each_chain f g h so xs ys zs d.1 e.1)
  each_chain f g h so [] (y ∷ ys) zs d e = absurd d
  each_chain f g h so (x ∷ xs) [] zs d e = absurd d
  each_chain f g h so [] [] (z ∷ zs) d e = absurd e
  each_chain f g h so (x ∷ xs) (y ∷ ys) [] d e = absurd e

  -- what holds of each holds of its own
  pub all_over : (how : X → X → Type 0) (P Q : X → Type 0) → ((x y : X) → how x y → P x → Q y) → (xs ys : List X) → OneByOne how xs ys → AllByRecursion P xs →
      AllByRecursion Q ys
  all_over how P Q so [] [] e all = tt
  all_over how P Q so (x ∷ xs) (y ∷ ys) e all = (so x y e.0 all.0, all_over how P Q so xs ys e.1 all.1)
  all_over how P Q so [] (y ∷ ys) e all = absurd e
  all_over how P Q so (x ∷ xs) [] e all = absurd e

  pub each_at : (how : X → X → Type 0) (xs ys : List X) (k : ℕ) (x y : X) → slice_get xs k ≡ Some x → slice_get ys k ≡ Some y → OneByOne how xs ys → how x y
  each_at how [] ys k x y was is e = absurd cc
  each_at how (v ∷ vs) [] k x y was is e = absurd e
  each_at how (v ∷ vs) (w ∷ ws) zero x y was is e =
      let first : v ≡ x = cc in
      let other : w ≡ y = cc in
      subst (how x) other (subst (λ z. how z w) first e.0)
  each_at how (v ∷ vs) (w ∷ ws) (suc k) x y was is e = each_at how vs ws k x y was is e.1

  -- they are as many
  pub each_length : (how : X → X → Type 0) (xs ys : List X) → OneByOne how xs ys → length ys ≡ length xs
  each_length how [] [] e = refl
  each_length how (x ∷ xs) (y ∷ ys) e = let rest = each_length how xs ys e.1 in omega (arith, rest)
  each_length how [] (y ∷ ys) e = absurd e
  each_length how (x ∷ xs) [] e = absurd e
