-- What holds of each of a list, as a loop over it or over places in a slab has found.
use Rattle.std.proofs.Common.{◌≡◌, ℕ, ◌≤◌, List, [], ◌∷◌, ◌++◌, length, map, Option, Some, None, IfSome, ap, arith, subst, ◌∙◌}
use Rattle.std.specs.Prelude.{take}
use Rattle.std.specs.List.{All, AllByRecursion, cons_option}
use Rattle.std.proofs.Math.Seq.{take-length}
use Rattle.slab.specs.Slab.{Slab, get}
use Rattle.m2_turn.specs.Pending.{in_order}

module _ {T : Type 0} where
  -- the loop has come to the end
  pub all_of_them : (P : T → Type 0) (xs : List T) (n : ℕ) → length xs ≤ n → n ≤ length xs → All P (take n xs) → All P xs
  all_of_them P xs n least most all = subst (All P) (ap (λ i. take i xs) same ∙ take-length xs) all
    where
      same : n ≡ length xs
      same = omega (arith, least, most)

  by_first : (P : T → Type 0) (slot : Option T) (xs : List T) → IfSome slot P → AllByRecursion P xs → AllByRecursion P (cons_option slot xs)
  by_first P (Some x) xs here all = (here, all)
  by_first P None xs here all = all

  -- what holds at each place holds of each value
  pub all_in_order : (P : T → Type 0) (s : Slab T) (keys : List ℕ) → AllByRecursion (λ key. IfSome (get s key) P) keys → AllByRecursion P (in_order s keys)
  all_in_order P s [] all = tt
  all_in_order P s (k ∷ ks) all = by_first P (get s k) (in_order s ks) all.0 (all_in_order P s ks all.1)

  -- some of one kind, and then others
  pub all_behind : {S : Type 0} (P : T → Type 0) (f : S → T) (xs : List S) (ys : List T) → AllByRecursion (λ x. P (f x)) xs → AllByRecursion P ys → AllByRecursion P (map f xs ++ ys)
  all_behind P f [] ys all rest = rest
  all_behind P f (x ∷ xs) ys all rest = (all.0, all_behind P f xs ys all.1 rest)

  pub all_mapped : {S : Type 0} (P : T → Type 0) (f : S → T) (xs : List S) → AllByRecursion (λ x. P (f x)) xs → AllByRecursion P (map f xs)
  all_mapped P f [] all = tt
  all_mapped P f (x ∷ xs) all = (all.0, all_mapped P f xs all.1)
