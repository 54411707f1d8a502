-- Merges of lists of which one gets more items, which are last in the whole as well; and what a merge keeps of one of its lists.
use Rattle.std.proofs.Common.{◌≡◌, ℕ, zero, suc, ◌+◌, ◌<◌, ◌==◌, Bool, true, false, not, if◌then◌else◌, inl, inr, List, [], ◌∷◌, ◌++◌, filter, length, map, sum_by, Some, refl, sym, ap, subst, ◌∙◌, arith, append-nil}
use Rattle.std.specs.Prelude.{◌⊎◌, slice_get, slice_set}
use Rattle.std.specs.List.{AllByRecursion}
use Rattle.std.proofs.lemmas.List.{map-append}
use Rattle.std.proofs.lemmas.Option.{none-some, same_Some}
use Rattle.std.proofs.lemmas.Bool.{eqb-false, eqb-true}
use Rattle.std.proofs.lemmas.List.Elements.{All-from_recursion, filter-append, recursion_from_All}
use Rattle.std.proofs.lemmas.List.Sums.{sum_by-append, sum_by-cons}
use Rattle.m2_bytes.proofs.m2_lemmas.Lists.{all_so}
use Rattle.m2_mailbox.specs.Merge.{IsMerge, IsSublist}
use Rattle.m2_mailbox.proofs.Sublists.{one_list, sub_nil}
use Rattle.m2_node.specs.Lists.{joined}

module _ {T : Type 0} where
  sub_same : (xs : List T) → IsSublist xs xs
  sub_same [] = refl
  sub_same (x ∷ xs) = inr (xs, refl, sub_same xs)

  -- what stands in a list stands in a longer one, and with the same behind both
  sub_more : (xs ys more : List T) → IsSublist xs ys → IsSublist xs (ys ++ more)
  sub_more xs [] more h = subst (λ l. IsSublist l more) (sym h) (sub_nil more)
  sub_more xs (y ∷ ys) more (inl h) = inl (sub_more xs ys more h)
  sub_more xs (y ∷ ys) more (inr (rest, e, h)) = inr (rest, e, sub_more rest ys more h)

  sub_behind : (xs ys more : List T) → IsSublist xs ys → IsSublist (xs ++ more) (ys ++ more)
  sub_behind xs [] more h = subst (λ l. IsSublist (l ++ more) more) (sym h) (sub_same more)
  sub_behind xs (y ∷ ys) more (inl h) = inl (sub_behind xs ys more h)
  sub_behind xs (y ∷ ys) more (inr (rest, e, h)) = inr (rest ++ more, ap (λ (l : List T). l ++ more) e, sub_behind rest ys more h)

  abbrev Stands : List T → List T → Type 0
  Stands whole list = IsSublist list whole

  weighs_more : (weight : T → ℕ) (before : List (List T)) (list : List T) (behind : List (List T)) (more : List T) →
      sum_by (sum_by weight) (before ++ (list ++ more) ∷ behind) ≡ sum_by (sum_by weight) (before ++ list ∷ behind) + sum_by weight more
  weighs_more weight [] list behind more = omega (arith, sum_by-cons (sum_by weight) (list ++ more) behind, sum_by-cons (sum_by weight) list behind, sum_by-append weight list more)
  weighs_more weight (l ∷ ls) list behind more =
      omega (arith, weighs_more weight ls list behind more, sum_by-cons (sum_by weight) l (ls ++ (list ++ more) ∷ behind), sum_by-cons (sum_by weight) l (ls ++ list ∷ behind))

  stand_more : (before : List (List T)) (list : List T) (behind : List (List T)) (whole more : List T) → AllByRecursion (Stands whole) (before ++ list ∷ behind) →
      AllByRecursion (Stands (whole ++ more)) (before ++ (list ++ more) ∷ behind)
  stand_more [] list behind whole more all = (sub_behind list whole more all.0, all_so (Stands whole) (Stands (whole ++ more)) (λ l h. sub_more l whole more h) behind all.1)
  stand_more (l ∷ ls) list behind whole more all = (sub_more l whole more all.0, stand_more ls list behind whole more all.1)

  -- one list gets more
  pub merge_more : (before : List (List T)) (list : List T) (behind : List (List T)) (whole more : List T) → IsMerge T (before ++ list ∷ behind) whole →
      IsMerge T (before ++ (list ++ more) ∷ behind) (whole ++ more)
  merge_more before list behind whole more m = record {
    weighs = λ weight. weighs_more weight before list behind more ∙ ap (λ n. n + sum_by weight more) (m.weighs weight) ∙ sym (sum_by-append weight whole more);
    in_order = All-from_recursion (Stands (whole ++ more)) (before ++ (list ++ more) ∷ behind)
        (stand_more before list behind whole more (recursion_from_All (Stands whole) (before ++ list ∷ behind) m.in_order));
  }

-- an item, and what stands before and behind it; and where another takes its place
pub record Around {X : Type 0} (xs : List X) (k : ℕ) (x : X) : Type 0 where
  pub before : List X
  pub behind : List X
  pub parts : xs ≡ before ++ x ∷ behind
  pub set : (y : X) → slice_set xs k y ≡ before ++ y ∷ behind

pub around : {X : Type 0} (xs : List X) (k : ℕ) (x : X) → slice_get xs k ≡ Some x → Around xs k x
around [] k x here = absurd (none-some x here)
around (z ∷ zs) zero x here = record { before = []; behind = zs; parts = ap (λ y. y ∷ zs) (same_Some z x here); set = λ y. refl }
around (z ∷ zs) (suc k) x here =
    let rest = around zs k x here in
    record { before = z ∷ rest.before; behind = rest.behind; parts = ap (λ l. z ∷ l) rest.parts; set = λ y. ap (λ l. z ∷ l) (rest.set y) }

-- what one item tells gets more
pub merge_at : {X T : Type 0} (f : X → List T) (xs : List X) (k : ℕ) (x y : X) (whole more : List T) → slice_get xs k ≡ Some x → f y ≡ f x ++ more → IsMerge T (map f xs) whole →
    IsMerge T (map f (slice_set xs k y)) (whole ++ more)
merge_at {T = T} f xs k x y whole more here longer m =
    let a = around xs k x here in
    let was : map f xs ≡ map f a.before ++ f x ∷ map f a.behind = ap (map f) a.parts ∙ map-append f a.before (x ∷ a.behind) in
    let is : map f (slice_set xs k y) ≡ map f a.before ++ (f x ++ more) ∷ map f a.behind =
    ap (map f) (a.set y) ∙ map-append f a.before (y ∷ a.behind) ∙ ap (λ (l : List T). map f a.before ++ l ∷ map f a.behind) longer in
    subst (λ ls. IsMerge T ls (whole ++ more)) (sym is) (merge_more (map f a.before) (f x) (map f a.behind) whole more (subst (λ ls. IsMerge T ls whole) was m))

-- ---- some items of a merge

module _ {T : Type 0} (q : T → Bool) where
  -- what an item weighs where it is one of these
  abbrev weight_if : (T → ℕ) → T → ℕ
  weight_if weight x = if q x then weight x else 0

  weighs_if : (weight : T → ℕ) (xs : List T) → sum_by (weight_if weight) xs ≡ sum_by weight (filter q xs)
  weighs_if weight [] = refl
  weighs_if weight (x ∷ xs) = go (q x) refl (weighs_if weight xs)
    where
      go : (b : Bool) → q x ≡ b → sum_by (weight_if weight) xs ≡ sum_by weight (filter q xs) → sum_by (weight_if weight) (x ∷ xs) ≡ sum_by weight (filter q (x ∷ xs))
      go true e more =
          let kept : filter q (x ∷ xs) ≡ x ∷ filter q xs = rw e refl in
          let its : weight_if weight x ≡ weight x = ap (λ (b : Bool). if b then weight x else 0) e in
          omega (arith, sum_by-cons (weight_if weight) x xs, ap (sum_by weight) kept, sum_by-cons weight x (filter q xs), more, its)
      go false e more =
          let gone : filter q (x ∷ xs) ≡ filter q xs = rw e refl in
          let none : weight_if weight x ≡ 0 = ap (λ (b : Bool). if b then weight x else 0) e in
          omega (arith, sum_by-cons (weight_if weight) x xs, ap (sum_by weight) gone, more, none)

  all_weigh_if : (weight : T → ℕ) (ls : List (List T)) → sum_by (sum_by (weight_if weight)) ls ≡ sum_by (sum_by weight) (map (filter q) ls)
  all_weigh_if weight [] = refl
  all_weigh_if weight (l ∷ ls) =
      omega (arith, sum_by-cons (sum_by (weight_if weight)) l ls, sum_by-cons (sum_by weight) (filter q l) (map (filter q) ls), weighs_if weight l, all_weigh_if weight ls)

  filter_cons : (x : T) (xs ys : List T) → IsSublist (filter q xs) (filter q ys) → IsSublist (filter q (x ∷ xs)) (filter q (x ∷ ys))
  filter_cons x xs ys h = go (q x) refl
    where
      go : (b : Bool) → q x ≡ b → IsSublist (filter q (x ∷ xs)) (filter q (x ∷ ys))
      go true e = rw e (inr (filter q xs, refl, h))
      go false e = rw e h

  filter_longer : (xs : List T) (y : T) (ys : List T) → IsSublist (filter q xs) (filter q ys) → IsSublist (filter q xs) (filter q (y ∷ ys))
  filter_longer xs y ys h = go (q y) refl
    where
      go : (b : Bool) → q y ≡ b → IsSublist (filter q xs) (filter q (y ∷ ys))
      go true e = rw e (inl h)
      go false e = rw e h

  filter_stands : (xs ys : List T) → IsSublist xs ys → IsSublist (filter q xs) (filter q ys)
  filter_stands xs [] h = subst (λ l. IsSublist (filter q l) []) (sym h) refl
  filter_stands xs (y ∷ ys) (inl h) = filter_longer xs y ys (filter_stands xs ys h)
  filter_stands xs (y ∷ ys) (inr (rest, e, h)) = subst (λ l. IsSublist (filter q l) (filter q (y ∷ ys))) (sym e) (filter_cons y rest ys (filter_stands rest ys h))

  all_filters_stand : (whole : List T) (ls : List (List T)) → AllByRecursion (Stands whole) ls → AllByRecursion (Stands (filter q whole)) (map (filter q) ls)
  all_filters_stand whole [] all = tt
  all_filters_stand whole (l ∷ ls) all = (filter_stands l whole all.0, all_filters_stand whole ls all.1)

  -- those of a merge are a merge of those of its lists
  pub merge_filter : (ls : List (List T)) (whole : List T) → IsMerge T ls whole → IsMerge T (map (filter q) ls) (filter q whole)
  merge_filter ls whole m = record {
    weighs = λ weight. sym (all_weigh_if weight ls) ∙ m.weighs (weight_if weight) ∙ weighs_if weight whole;
    in_order = All-from_recursion (Stands (filter q whole)) (map (filter q) ls) (all_filters_stand whole ls (recursion_from_All (Stands whole) ls m.in_order));
  }

-- at most one of these lists has any items
abbrev pub IsOneFull : {T : Type 0} → List (List T) → Type 0
IsOneFull [] = Unit {0}
IsOneFull (l ∷ ls) = ((l ≡ []) × IsOneFull ls) ⊎ AllByRecursion (λ k. k ≡ []) ls

module _ {T : Type 0} where
  empty_weighs : (weight : T → ℕ) (ls : List (List T)) → AllByRecursion (λ k. k ≡ []) ls → sum_by (sum_by weight) ls ≡ 0
  empty_weighs weight [] all = refl
  empty_weighs weight (l ∷ ls) all = omega (arith, sum_by-cons (sum_by weight) l ls, ap (sum_by weight) all.0, empty_weighs weight ls all.1)

  empty_joined : (ls : List (List T)) → AllByRecursion (λ k. k ≡ []) ls → joined ls ≡ []
  empty_joined [] all = refl
  empty_joined (l ∷ ls) all = ap (λ k. k ++ joined ls) all.0 ∙ empty_joined ls all.1

  weightless : (whole : List T) → 0 ≡ sum_by (λ (x : T). 1) whole → whole ≡ []
  weightless [] e = refl
  weightless (x ∷ xs) e = absurd (omega (arith, e, sum_by-cons (λ (x : T). 1) x xs))

  -- a merge of such lists is all of them
  pub one_full : (ls : List (List T)) (whole : List T) → IsOneFull ls → IsMerge T ls whole → whole ≡ joined ls
  one_full [] whole is m = weightless whole (m.weighs (λ x. 1))
  one_full (l ∷ ls) whole (inl (none, is)) m =
      one_full ls whole is (record {
        weighs = λ weight. omega (arith, m.weighs weight, sum_by-cons (sum_by weight) l ls, ap (sum_by weight) none);
        in_order = All-from_recursion (Stands whole) ls (recursion_from_All (Stands whole) (l ∷ ls) m.in_order).1;
      })
      ∙ ap (λ k. k ++ joined ls) (sym none)
  one_full (l ∷ ls) whole (inr none) m =
      one_list l whole (record {
        weighs = λ weight. omega (arith, m.weighs weight, sum_by-cons (sum_by weight) l ls, sum_by-cons (sum_by weight) l [], empty_weighs weight ls none);
        in_order = All-from_recursion (Stands whole) (l ∷ []) ((recursion_from_All (Stands whole) (l ∷ ls) m.in_order).0, tt);
      })
      ∙ sym (append-nil l) ∙ ap (λ k. l ++ k) (sym (empty_joined ls none))

-- ---- what holds of all items

module _ {T : Type 0} (P : T → Type 0) (p : T → Bool) (sound : (x : T) → P x → p x ≡ true) (whole_so : (x : T) → p x ≡ true → P x) where
  abbrev not_so : T → Bool
  not_so x = not (p x)

  none_not_so : (xs : List T) → AllByRecursion P xs → filter not_so xs ≡ []
  none_not_so [] all = refl
  none_not_so (x ∷ xs) all = let so : not_so x ≡ false = ap not (sound x all.0) in rw so (none_not_so xs all.1)

  none_in_each : (ls : List (List T)) → AllByRecursion (AllByRecursion P) ls → AllByRecursion (λ l. l ≡ []) (map (filter not_so) ls)
  none_in_each [] all = tt
  none_in_each (l ∷ ls) all = (none_not_so l all.0, none_in_each ls all.1)

  all_empty : (ls : List (List T)) → AllByRecursion (λ l. l ≡ []) ls → IsOneFull ls
  all_empty [] all = tt
  all_empty (l ∷ ls) all = inr all.1

  so_where_none : (xs : List T) → filter not_so xs ≡ [] → AllByRecursion P xs
  so_where_none [] e = tt
  so_where_none (x ∷ xs) e = go (p x) refl (so_where_none xs)
    where
      go : (b : Bool) → p x ≡ b → (filter not_so xs ≡ [] → AllByRecursion P xs) → AllByRecursion P (x ∷ xs)
      go true so more = let same : filter not_so (x ∷ xs) ≡ filter not_so xs = let isnt : not_so x ≡ false = ap not so in rw isnt refl in (whole_so x so, more (sym same ∙ e))
      go false so more = let first : filter not_so (x ∷ xs) ≡ x ∷ filter not_so xs = let is : not_so x ≡ true = ap not so in rw is refl in absurd (omega (arith, ap length (sym first ∙ e)))

  -- of all that is in a merge, where it does of all that is in its lists
  pub all_of_merge : (ls : List (List T)) (whole : List T) → AllByRecursion (AllByRecursion P) ls → IsMerge T ls whole → AllByRecursion P whole
  all_of_merge ls whole all m =
      let none = none_in_each ls all in
      so_where_none whole (one_full (map (filter not_so) ls) (filter not_so whole) (all_empty (map (filter not_so) ls) none) (merge_filter not_so ls whole m) ∙ empty_joined (map (filter not_so) ls) none)

-- ---- items that are at home in one list

-- the items of each list are at home there, from a place on
abbrev pub AreHomed : {T : Type 0} → (home : T → ℕ) → (j : ℕ) → List (List T) → Type 0
AreHomed home j [] = Unit {0}
AreHomed home j (l ∷ ls) = AllByRecursion (λ x. home x ≡ j) l × AreHomed home (suc j) ls

module _ {T : Type 0} (home : T → ℕ) (q : T → Bool) (at : ℕ) (only : (x : T) → q x ≡ true → home x ≡ at) where
  not_here : (j : ℕ) → (j ≡ at → ⊥) → (xs : List T) → AllByRecursion (λ x. home x ≡ j) xs → filter q xs ≡ []
  not_here j apart [] all = refl
  not_here j apart (x ∷ xs) all = go (q x) refl (not_here j apart xs all.1)
    where
      go : (b : Bool) → q x ≡ b → filter q xs ≡ [] → filter q (x ∷ xs) ≡ []
      go true e more = absurd (apart (sym all.0 ∙ only x e))
      go false e more = rw e more

  not_later : (j : ℕ) → at < j → (ls : List (List T)) → AreHomed home j ls → AllByRecursion (λ l. l ≡ []) (map (filter q) ls)
  not_later j less [] all = tt
  not_later j less (l ∷ ls) all = (not_here j (λ same. omega (arith, less, same)) l all.0, not_later (suc j) (omega (arith, less)) ls all.1)

  -- so what is so of those at one place is in one list at most
  pub homed_in_one : (j : ℕ) (ls : List (List T)) → AreHomed home j ls → IsOneFull (map (filter q) ls)
  homed_in_one j [] all = tt
  homed_in_one j (l ∷ ls) all = go (j == at) refl (homed_in_one (suc j) ls all.1)
    where
      go : (b : Bool) → (j == at) ≡ b → IsOneFull (map (filter q) ls) → IsOneFull (map (filter q) (l ∷ ls))
      go true e more = let same : j ≡ at = eqb-true j at e in inr (not_later (suc j) (omega (arith, same)) ls all.1)
      go false e more = inl (not_here j (eqb-false j at e) l all.0, more)

joined_filter : {T : Type 0} (q : T → Bool) (ls : List (List T)) → filter q (joined ls) ≡ joined (map (filter q) ls)
joined_filter q [] = refl
joined_filter q (l ∷ ls) = filter-append q l (joined ls) ∙ ap (λ xs. filter q l ++ xs) (joined_filter q ls)

-- of a merge of lists whose items are at home there, those at one place are as in the lists, one behind another
pub homed_alike : {T : Type 0} (home : T → ℕ) (q : T → Bool) (at : ℕ) → ((x : T) → q x ≡ true → home x ≡ at) → (ls : List (List T)) (whole : List T) → AreHomed home 0 ls → IsMerge T ls whole →
    filter q whole ≡ filter q (joined ls)
homed_alike home q at only ls whole homed m = one_full (map (filter q) ls) (filter q whole) (homed_in_one home q at only 0 ls homed) (merge_filter q ls whole m) ∙ sym (joined_filter q ls)
