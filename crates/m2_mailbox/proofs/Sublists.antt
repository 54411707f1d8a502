-- Sublists, and what a merge of lists is.
use Rattle.std.proofs.Common.{◌≡◌, ℕ, suc, ◌+◌, ◌≤◌, inl, inr, List, [], ◌∷◌, ◌++◌, length, sum_by, refl, sym, ap, ◌∙◌, arith}
use Rattle.std.specs.List.{All}
use Rattle.std.proofs.lemmas.List.Elements.{All-head, All-weaker}
use Rattle.std.proofs.lemmas.List.Sums.{sum_by-cons}
use Rattle.m2_mailbox.specs.Merge.{IsSublist, IsMerge}
use Rattle.m2_mailbox.specs.Laws.{IsCut}

module _ {T : Type 0} where
  pub sub_nil : (ys : List T) → IsSublist [] ys
  sub_nil [] = refl
  sub_nil (y ∷ ys) = inl (sub_nil ys)

  pub sub_longer : (xs ys : List T) (x : T) → IsSublist xs ys → IsSublist xs (ys ++ x ∷ [])
  sub_longer xs [] x h = inl h
  sub_longer xs (y ∷ ys) x (inl h) = inl (sub_longer xs ys x h)
  sub_longer xs (y ∷ ys) x (inr (rest, e, h)) = inr (rest, e, sub_longer rest ys x h)

  pub sub_push : (xs ys : List T) (x : T) → IsSublist xs ys → IsSublist (xs ++ x ∷ []) (ys ++ x ∷ [])
  sub_push xs [] x h = inr ([], ap (λ (l : List T). l ++ x ∷ []) h, refl)
  sub_push xs (y ∷ ys) x (inl h) = inl (sub_push xs ys x h)
  sub_push xs (y ∷ ys) x (inr (rest, e, h)) = inr (rest ++ x ∷ [], ap (λ (l : List T). l ++ x ∷ []) e, sub_push rest ys x h)

  sub_length : (xs ys : List T) → IsSublist xs ys → length xs ≤ length ys
  sub_length xs [] h = let e : length xs ≡ 0 = ap length h in omega arith
  sub_length xs (y ∷ ys) (inl h) = let l = sub_length xs ys h in omega arith
  sub_length xs (y ∷ ys) (inr (rest, e, h)) = let l = sub_length rest ys h in let n : length xs ≡ suc (length rest) = ap length e in omega arith

  -- a sublist of the same length is the list
  sub_whole : (xs ys : List T) → IsSublist xs ys → length xs ≡ length ys → ys ≡ xs
  sub_whole xs [] h n = sym h
  sub_whole xs (y ∷ ys) (inl h) n = let l = sub_length xs ys h in absurd (omega arith)
  sub_whole xs (y ∷ ys) (inr (rest, e, h)) n =
      let m : length xs ≡ suc (length rest) = ap length e in
      let k : length rest ≡ length ys = omega arith in
      ap (λ (l : List T). y ∷ l) (sub_whole rest ys h k) ∙ sym e

  sub_cut : (taken held list : List T) → IsSublist list (taken ++ held) → IsCut taken held list
  sub_cut [] held list h = ([], list, refl, refl, h)
  sub_cut (y ∷ ys) held list (inl h) = let r = sub_cut ys held list h in (r.0, r.1, r.2, inl r.3, r.4)
  sub_cut (y ∷ ys) held list (inr (rest, e, h)) =
      let r = sub_cut ys held rest h in (y ∷ r.0, r.1, e ∙ ap (λ (l : List T). y ∷ l) r.2, inr (r.0, refl, r.3), r.4)

  count_is_length : (xs : List T) → sum_by (λ (x : T). 1) xs ≡ length xs
  count_is_length [] = refl
  count_is_length (x ∷ xs) = let r = count_is_length xs in let c = sum_by-cons (λ (x : T). 1) x xs in omega arith

  pub one_list : (list whole : List T) → IsMerge T (list ∷ []) whole → whole ≡ list
  one_list list whole m =
      let one : T → ℕ = λ (x : T). 1 in
      let w : sum_by (sum_by one) (list ∷ []) ≡ sum_by one whole = m.weighs one in
      let first : sum_by (sum_by one) (list ∷ []) ≡ sum_by one list + 0 = sum_by-cons (sum_by one) list [] in
      let a : sum_by one list ≡ length list = count_is_length list in
      let b : sum_by one whole ≡ length whole = count_is_length whole in
      let same : length list ≡ length whole = omega (arith, w, first, a, b) in
      sub_whole list whole (All-head (λ l. IsSublist l whole) list [] m.in_order) same

  pub cut_lists : (lists : List (List T)) (taken held : List T) → IsMerge T lists (taken ++ held) → All (IsCut taken held) lists
  cut_lists lists taken held m = All-weaker (λ l. IsSublist l (taken ++ held)) (IsCut taken held) (λ l h. sub_cut taken held l h) lists m.in_order
