-- A list in brackets is read in one way, where each of its items is.
use Rattle.std.proofs.Common.{◌≡◌, ℕ, ◌<◌, ◌^◌, List, [], ◌∷◌, ◌++◌, length, drop, decimal, refl, sym, ap, ◌∙◌, arith, append_assoc}
use Rattle.std.specs.List.{AllByRecursion}
use Rattle.std.specs.Char.{is_ascii_digit}
use Rattle.std.proofs.lemmas.Fmt.{decimal_nonempty}
use Rattle.m2_frame_facts.specs.declared.style.Style.{Style}
use Rattle.m2_frame_facts.specs.declared.style.Style.TheVariants as style
use Rattle.m2_frame_facts.specs.Value.{Place, ipv4, ipv4_text, other, list_text, more_texts, quoted_place}
use Rattle.m2_frame_facts.specs.ReadOnce.{IsSmallPlace}
use Rattle.m2_frame_facts.proofs.Classes.{digits_of_decimal, is_inner}
use Rattle.m2_frame_facts.proofs.Cuts.{Once, Stops, cut_once, joined}
use Rattle.m2_frame_facts.proofs.TextsOnce.{HexIsReadAgain, begins, number_once, quoted_place_once, stops_digit, v4_begins}

-- an item is read in one way, and doesn't begin with the bracket behind the last
pub record AreItems (X : Type 0) (text : X → List ℕ) (P : X → Type 0) : Type 1 where
  pub once : (x y : X) → P x → P y → Once (x ≡ y) (text x) (text y)
  pub opens : (x : X) → P x → (r s : List ℕ) → Stops is_inner r → text x ++ r ≡ 93 ∷ s → ⊥

module _ {X : Type 0} (text : X → List ℕ) (P : X → Type 0) (items : AreItems X text P) where
  stops_more : (xs : List X) (r : List ℕ) → Stops is_inner (more_texts text xs ++ 93 ∷ r)
  stops_more [] r = refl
  stops_more (x ∷ xs) r = refl

  more_once : (xs ys : List X) → AllByRecursion P xs → AllByRecursion P ys → (r s : List ℕ)
      → more_texts text xs ++ 93 ∷ r ≡ more_texts text ys ++ 93 ∷ s → (xs ≡ ys) × (r ≡ s)
  more_once [] [] fit fit_too r s e = (refl, ap (drop 1) e)
  more_once [] (y ∷ ys) fit fit_too r s e = let first : 93 ≡ 44 = ap begins e in absurd (omega (arith, first))
  more_once (x ∷ xs) [] fit fit_too r s e = let first : 44 ≡ 93 = ap begins e in absurd (omega (arith, first))
  more_once (x ∷ xs) (y ∷ ys) fit fit_too r s e =
      let inner : (text x ++ more_texts text xs) ++ 93 ∷ r ≡ (text y ++ more_texts text ys) ++ 93 ∷ s = ap (drop 1) e in
      let first = items.once x y fit.0 fit_too.0 (more_texts text xs ++ 93 ∷ r) (more_texts text ys ++ 93 ∷ s) (stops_more xs r) (stops_more ys s)
      (joined (text x) (more_texts text xs) (text y) (more_texts text ys) (93 ∷ r) (93 ∷ s) inner) in
      let rest = more_once xs ys fit.1 fit_too.1 r s first.1 in
      (ap (λ z. z ∷ xs) first.0 ∙ ap (λ zs. y ∷ zs) rest.0, rest.1)

  opened : (x : X) (xs : List X) (r : List ℕ) → list_text text (x ∷ xs) ++ r ≡ 91 ∷ (text x ++ (more_texts text xs ++ 93 ∷ r))
  opened x xs r = ap (λ l. 91 ∷ l) (append_assoc (text x ++ more_texts text xs) (93 ∷ []) r ∙ append_assoc (text x) (more_texts text xs) (93 ∷ r))

  pub list_once : (xs ys : List X) → AllByRecursion P xs → AllByRecursion P ys → Once (xs ≡ ys) (list_text text xs) (list_text text ys)
  list_once [] [] fit fit_too r s stops stops_too e = (refl, ap (drop 2) e)
  list_once [] (y ∷ ys) fit fit_too r s stops stops_too e =
      let both : 91 ∷ 93 ∷ r ≡ 91 ∷ (text y ++ (more_texts text ys ++ 93 ∷ s)) = e ∙ opened y ys s in
      let inner : text y ++ (more_texts text ys ++ 93 ∷ s) ≡ 93 ∷ r = ap (drop 1) (sym both) in
      absurd (items.opens y fit_too.0 (more_texts text ys ++ 93 ∷ s) r (stops_more ys s) inner)
  list_once (x ∷ xs) [] fit fit_too r s stops stops_too e =
      let both : 91 ∷ (text x ++ (more_texts text xs ++ 93 ∷ r)) ≡ 91 ∷ 93 ∷ s = sym (opened x xs r) ∙ e in
      let inner : text x ++ (more_texts text xs ++ 93 ∷ r) ≡ 93 ∷ s = ap (drop 1) both in
      absurd (items.opens x fit.0 (more_texts text xs ++ 93 ∷ r) s (stops_more xs r) inner)
  list_once (x ∷ xs) (y ∷ ys) fit fit_too r s stops stops_too e =
      let both : 91 ∷ (text x ++ (more_texts text xs ++ 93 ∷ r)) ≡ 91 ∷ (text y ++ (more_texts text ys ++ 93 ∷ s)) = sym (opened x xs r) ∙ e ∙ opened y ys s in
      let inner : text x ++ (more_texts text xs ++ 93 ∷ r) ≡ text y ++ (more_texts text ys ++ 93 ∷ s) = ap (drop 1) both in
      let first = items.once x y fit.0 fit_too.0 (more_texts text xs ++ 93 ∷ r) (more_texts text ys ++ 93 ∷ s) (stops_more xs r) (stops_more ys s) inner in
      let rest = more_once xs ys fit.1 fit_too.1 r s first.1 in
      (ap (λ z. z ∷ xs) first.0 ∙ ap (λ zs. y ∷ zs) rest.0, rest.1)

-- ---- the two kinds of lists

no_decimal : (n : ℕ) → n < 2 ^ 64 → decimal n ≡ [] → ⊥
no_decimal n small e = let long = decimal_nonempty n small in let none : length (decimal n) ≡ 0 = ap length e in absurd (omega (arith, long, none))

abbrev IsWord : ℕ → Type 0
IsWord n = n < 2 ^ 64

number_items : AreItems ℕ decimal IsWord
number_items = record {
  once = number_once;
  opens = λ n small r s stops e.
      no_decimal n small (cut_once is_ascii_digit (decimal n) [] r (93 ∷ s) (digits_of_decimal n small) refl (stops_digit r stops) refl e).0;
}

place_begins : (form : Style) (p : Place) (r s : List ℕ) → quoted_place form p ++ r ≡ 93 ∷ s → ⊥
place_begins style.Json p r s e = let first : 34 ≡ 93 = ap begins e in absurd (omega (arith, first))
place_begins style.Line (ipv4 a) r s e =
    let first : 118 ≡ 93 = sym (v4_begins a r) ∙ ap begins (sym (append_assoc (ipv4_text a) [] r)) ∙ ap begins e in absurd (omega (arith, first))
place_begins style.Line (other x) r s e = let first : 111 ≡ 93 = ap begins e in absurd (omega (arith, first))

place_items : HexIsReadAgain → (form : Style) → AreItems Place (quoted_place form) IsSmallPlace
place_items again form = record {
  once = quoted_place_once again form;
  opens = λ p small r s stops e. place_begins form p r s e;
}

pub numbers_once : (xs ys : List ℕ) → AllByRecursion IsWord xs → AllByRecursion IsWord ys → Once (xs ≡ ys) (list_text decimal xs) (list_text decimal ys)
numbers_once = list_once decimal IsWord number_items

pub places_once : HexIsReadAgain → (form : Style) (xs ys : List Place) → AllByRecursion IsSmallPlace xs → AllByRecursion IsSmallPlace ys
    → Once (xs ≡ ys) (list_text (quoted_place form) xs) (list_text (quoted_place form) ys)
places_once again form = list_once (quoted_place form) IsSmallPlace (place_items again form)
