-- Calls are counted one by one.
use Rattle.std.proofs.Common.{◌≡◌, ◌∙◌, ℕ, suc, ◌+◌, ◌<◌, ◌≤◌, min, Bool, true, false, List, ◌∷◌, drop, length, get_or, drop_of_length-le, ap, sym, subst, arith}
use Rattle.std.proofs.lemmas.List.{drop_more}
use Rattle.std.specs.Prelude.{filter, if◌then◌else◌}
use Rattle.m2_dispatch.specs.declared.logged.Logged.{Logged}
use Rattle.m2_node.specs.Counting.{count_on, does_count, most}

saturates : (count rest end : ℕ) → min (count + suc rest) end ≡ min (min (count + 1) end + rest) end
saturates count rest end = grind arith

least : (count end : ℕ) → count ≤ end → min (count + 0) end ≡ count
least count end below = grind (arith, below)

min_below : (count end : ℕ) → min (count + 1) end ≤ end
min_below count end = grind arith

pub still_most : (b : Bool) (count next : ℕ) → next ≡ count_on b count → count ≤ most → next ≤ most
still_most true count next is below = subst (λ n. n ≤ most) (sym is) (min_below count most)
still_most false count next is below = subst (λ n. n ≤ most) (sym is) below

module _ (counts : List Bool) (log : List Logged) (k count : ℕ) (whole : ℕ) where
  abbrev counted : List Logged → ℕ
  counted calls = length (filter (does_count counts) calls)

  -- those so far and those that are left are all
  abbrev pub CountedSoFar : Type 0
  CountedSoFar = min (count + counted (drop k log)) most ≡ whole

  pub one_counted : (next : ℕ) (x : Logged) → k < length log → x ≡ get_or log k x → next ≡ count_on (does_count counts x) count → CountedSoFar →
      min (next + counted (drop (k + 1) log)) most ≡ whole
  one_counted next x less read is so_far = go (does_count counts x) is (subst (λ (calls : List Logged). min (count + counted calls) most ≡ whole) here so_far)
    where
      here : drop k log ≡ x ∷ drop (k + 1) log
      here = drop_more log k x less ∙ ap (λ (y : Logged). y ∷ drop (k + 1) log) (sym read)

      go : (b : Bool) → next ≡ count_on b count → min (count + length (if b then x ∷ filter (does_count counts) (drop (k + 1) log) else filter (does_count counts) (drop (k + 1) log))) most ≡ whole →
          min (next + counted (drop (k + 1) log)) most ≡ whole
      go true e all = ap (λ n. min (n + counted (drop (k + 1) log)) most) e ∙ sym (saturates count (counted (drop (k + 1) log)) most) ∙ all
      go false e all = ap (λ n. min (n + counted (drop (k + 1) log)) most) e ∙ all

  pub all_counted : length log ≤ k → count ≤ most → CountedSoFar → count ≡ whole
  all_counted past below so_far =
      sym (least count most below) ∙ subst (λ (calls : List Logged). min (count + counted calls) most ≡ whole) (drop_of_length-le log past) so_far

pub none_counted : (n end : ℕ) → min (0 + n) end ≡ min n end
none_counted n end = (let same : 0 + n ≡ n = omega arith in ap (λ m. min m end) same)
