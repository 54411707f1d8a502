-- Sums over what all passes know, when one of them changes.
use Rattle.std.proofs.Common.{◌≡◌, ◌≢◌, ℕ, zero, suc, ◌+◌, ◌≤◌, List, [], ◌∷◌, set, sum_by, refl, sym, ap, arith}
use mathlib.Core.Option.{some, some-injective, some-ne-none}
use lib.ListN.{get_elem?}
use Rattle.std.proofs.lemmas.List.Sums.{sum_by-cons}

module _ {X : Type 0} (f : X → ℕ) where
  pub total_set : (xs : List X) (i : ℕ) (x y : X) → get_elem? xs i ≡ some x → sum_by f (set xs i y) + f x ≡ sum_by f xs + f y
  total_set [] i x y at = absurd (some-ne-none x (sym at))
  total_set (z ∷ zs) zero x y at =
      let e : f z ≡ f x = ap f (some-injective z x at) in omega (arith, sum_by-cons f z zs, sum_by-cons f y zs, e)
  total_set (z ∷ zs) (suc i) x y at = let r = total_set zs i x y at in omega (arith, sum_by-cons f z zs, sum_by-cons f z (set zs i y), r)

  at_most : (xs : List X) (i : ℕ) (x : X) → get_elem? xs i ≡ some x → f x ≤ sum_by f xs
  at_most [] i x at = absurd (some-ne-none x (sym at))
  at_most (z ∷ zs) zero x at = let e : f z ≡ f x = ap f (some-injective z x at) in omega (arith, sum_by-cons f z zs, e)
  at_most (z ∷ zs) (suc i) x at = let r = at_most zs i x at in omega (arith, sum_by-cons f z zs, r)

  -- two of them add up to no more than all
  pub two_at : (xs : List X) (i j : ℕ) (x y : X) → j ≢ i → get_elem? xs i ≡ some x → get_elem? xs j ≡ some y → f x + f y ≤ sum_by f xs
  two_at [] i j x y apart at at' = absurd (some-ne-none x (sym at))
  two_at (z ∷ zs) zero zero x y apart at at' = absurd (apart refl)
  two_at (z ∷ zs) zero (suc j) x y apart at at' =
      let e : f z ≡ f x = ap f (some-injective z x at) in let r = at_most zs j y at' in omega (arith, sum_by-cons f z zs, e, r)
  two_at (z ∷ zs) (suc i) zero x y apart at at' =
      let e : f z ≡ f y = ap f (some-injective z y at') in let r = at_most zs i x at in omega (arith, sum_by-cons f z zs, e, r)
  two_at (z ∷ zs) (suc i) (suc j) x y apart at at' =
      let r = two_at zs i j x y (λ e. apart (ap suc e)) at at' in omega (arith, sum_by-cons f z zs, r)

module _ {X : Type 0} (g f : X → ℕ) where
  no_weight : (xs : List X) → ((j : ℕ) (u : X) → get_elem? xs j ≡ some u → g u ≡ 0 → f u ≡ 0) → sum_by g xs ≡ 0 → sum_by f xs ≡ 0
  no_weight [] light none = refl
  no_weight (z ∷ zs) light none =
      let here : f z ≡ 0 = light 0 z refl (omega (arith, sum_by-cons g z zs)) in
      let rest = no_weight zs (λ j u at. light (suc j) u at) (omega (arith, sum_by-cons g z zs)) in
      omega (arith, sum_by-cons f z zs)

  -- where one has all of g, and who has nothing of g has nothing of f, it has all of f
  pub has_all : (xs : List X) (i : ℕ) (x : X) → get_elem? xs i ≡ some x → ((j : ℕ) (u : X) → get_elem? xs j ≡ some u → g u ≡ 0 → f u ≡ 0) → sum_by g xs ≡ g x
      → sum_by f xs ≡ f x
  has_all [] i x at light all = absurd (some-ne-none x (sym at))
  has_all (z ∷ zs) zero x at light all =
      let e : f z ≡ f x = ap f (some-injective z x at) in let e' : g z ≡ g x = ap g (some-injective z x at) in
      let rest = no_weight zs (λ j u at'. light (suc j) u at') (omega (arith, sum_by-cons g z zs)) in
      omega (arith, sum_by-cons f z zs)
  has_all (z ∷ zs) (suc i) x at light all =
      let m = at_most g zs i x at in let c = sum_by-cons g z zs in
      let none : g z ≡ 0 = omega arith in
      let here : f z ≡ 0 = light 0 z refl none in
      let rest = has_all zs i x at (λ j u at'. light (suc j) u at') (omega arith) in
      omega (arith, sum_by-cons f z zs)
