-- The place of the first input of a name, and what that input holds.
use Rattle.std.proofs.Common.{◌≡◌, ℕ, ◌+◌, ◌<◌, Bool, true, false, not, IsTrue, List, [], ◌++◌, length, min, take, drop, Option, None, Some, refl, sym, ◌∙◌, ap, subst, arith, cond, ltb, inl, inr, append-nil}
use Rattle.std.proofs.Math.Seq.{take-add, take-nil, drop-nil, take-append_seam}
use Rattle.std.specs.Prelude.{slice_get, MatchOption}
use Rattle.std.specs.Option.{option_map}
use Rattle.std.specs.List.{position_or_len}
use Rattle.std.proofs.lemmas.Bool.{eqb-false, eqb-true, ltb-false, ltb-true}
use Rattle.std.proofs.lemmas.List.{drop-drop, length-drop, nil_from_length}
use Rattle.std.proofs.lemmas.List.Folds.{find_at}
use Rattle.std.proofs.lemmas.Option.{slice_get_cases, slice_get_past}
use Rattle.std.proofs.lemmas.Iterator.Adapters.{position_from-zero}
use Rattle.std.specs.Cmp.Lexicographic.{pointwise}
use Rattle.std.specs.Prelude.{◌==◌, ◌&&◌, nat_eq}
use Rattle.m2_edge.specs.declared.input.Input.{Input}
use Rattle.m2_edge.specs.Calls.{CallCounts}
use Rattle.m2_edge.specs.Memory.{Shelf, named, input_of, place_in, bytes_from, given_of, rest_of}
use Rattle.m2_edge.specs.Source.{SeenSource, IsGivenFrom, finds_end}

-- what an input found at a place holds
held : (o : Option Input) (xs : List Input) (p : ℕ) → p < length xs → slice_get xs p ≡ o → option_map (λ (i : Input). i.bytes.bytes) o ≡ Some (bytes_from 0 o)
held None xs p h e = elim (slice_get_cases xs p).1 as (λ _. option_map (λ (i : Input). i.bytes.bytes) None ≡ Some (bytes_from 0 None))
    [ inl q ↦ let some = q.2 in cc | inr q ↦ let past = q.0 in absurd (omega arith) ]
held (Some i) xs p h e = refl

-- what is at a place that was found, or past the end
place_by : (xs : List Input) (f : Option Input) (p : ℕ) (b : Bool) (r : Option ℕ) → f ≡ slice_get xs p → ltb p (length xs) ≡ b
    → r ≡ cond b (Some p) None → MatchOption r (option_map (λ (i : Input). i.bytes.bytes) f ≡ None) (λ k. option_map (λ (i : Input). i.bytes.bytes) f ≡ Some (rest_of xs k 0))
place_by xs f p true r h t e =
    let P : Option ℕ → Type 0 = λ o. MatchOption o (option_map (λ (i : Input). i.bytes.bytes) f ≡ None) (λ k. option_map (λ (i : Input). i.bytes.bytes) f ≡ Some (rest_of xs k 0)) in
    subst P (sym e) (ap (option_map (λ (i : Input). i.bytes.bytes)) h ∙ held (slice_get xs p) xs p (ltb-true p (length xs) t) refl)
place_by xs f p false r h t e =
    let P : Option ℕ → Type 0 = λ o. MatchOption o (option_map (λ (i : Input). i.bytes.bytes) f ≡ None) (λ k. option_map (λ (i : Input). i.bytes.bytes) f ≡ Some (rest_of xs k 0)) in
    subst P (sym e) (ap (option_map (λ (i : Input). i.bytes.bytes)) (h ∙ slice_get_past xs p (ltb-false p (length xs) t)))

-- the input at the place that was found is the first of the name; none was found where none has it
pub place_found : (inputs : List Input) (name : List ℕ) (r : Option ℕ) → r ≡ place_in inputs name
    → MatchOption r (input_of inputs name ≡ None) (λ k. input_of inputs name ≡ Some (rest_of inputs k 0))
place_found xs name r e =
    let t : Input → Bool = λ i. pointwise nat_eq i.name.bytes name in
    place_by xs (named xs name) (position_or_len t xs) (ltb (position_or_len t xs) (length xs)) r (find_at t xs) refl (e ∙ sym (position_from-zero t xs))

-- ---- what was read, and what is left

given_from : (o : Option Input) (p n : ℕ) → take (p + n) (bytes_from 0 o) ≡ take p (bytes_from 0 o) ++ take n (bytes_from p o)
given_from None p n = take-nil (p + n) ∙ sym (ap (λ t. t ++ take n []) (take-nil p) ∙ take-nil n)
given_from (Some i) p n = take-add p n i.bytes.bytes

pub rest_from : (o : Option Input) (p n : ℕ) → bytes_from (p + n) o ≡ drop n (bytes_from p o)
rest_from None p n = sym (drop-nil n)
rest_from (Some i) p n = sym (drop-drop n p i.bytes.bytes)

-- a source that stands at a place
abbrev pub shelf_at : List Input → CallCounts → ℕ → ℕ → Bool → Shelf
shelf_at inputs calls index place ended =
    record { inputs = inputs; calls = calls; given = given_of inputs index place; rest = rest_of inputs index place; ended = ended }

-- after so many more bytes
pub shelf_after : (inputs : List Input) (calls calls' : CallCounts) (index place n : ℕ) (ended ended' : Bool) (into : List ℕ) (old : Shelf)
    → shelf_at inputs calls index place ended ≡ old → take n into ≡ take n old.rest
    → shelf_at inputs calls' index (place + n) ended'
    ≡ record { inputs = old.inputs; calls = calls'; given = old.given ++ take n into; rest = drop n old.rest; ended = ended' }
shelf_after inputs calls calls' index place n ended ended' into old e =
    let o = slice_get inputs index in
    let P : Shelf → Type 0 = λ s. take n into ≡ take n s.rest → shelf_at inputs calls' index (place + n) ended'
    ≡ record { inputs = s.inputs; calls = calls'; given = s.given ++ take n into; rest = drop n s.rest; ended = ended' } in
    subst P e (λ first.
    let g : given_of inputs index (place + n) ≡ given_of inputs index place ++ take n into = given_from o place n ∙ ap (λ t. given_of inputs index place ++ t) (sym first) in
    ap (λ (t : List ℕ). record { inputs = inputs; calls = calls'; given = t; rest = rest_of inputs index (place + n); ended = ended' }) g
    ∙ ap (λ (t : List ℕ). record { inputs = inputs; calls = calls'; given = given_of inputs index place ++ take n into; rest = t; ended = ended' }) (rest_from o place n))

-- a read that found the end left nothing
nothing_left : (rest : List ℕ) (n m : ℕ) (a b : Bool) → n ≡ min (length rest) m → (n == 0) ≡ a → (m == 0) ≡ b → IsTrue (a && not b) → drop n rest ≡ []
nothing_left rest n m true false e none some h =
    let zero : n ≡ 0 = eqb-true n 0 none in
    let room : m ≡ 0 → ⊥ = eqb-false m 0 some in
    nil_from_length (drop n rest) (omega (arith, e, zero, room, length-drop n rest))
nothing_left rest n m true true e none some h = absurd cc
nothing_left rest n m false b e none some h = absurd cc

-- what was given is a prefix of the input, and all of it where the end was found
pub gives_input : (n : ℕ) (piece rest rest' : List ℕ) (s : SeenSource) → n ≡ min (length rest) (length piece) → rest' ≡ drop n rest
    → s.ended ≡ finds_end n piece → IsGivenFrom (s.given ++ rest') s
gives_input n piece rest rest' s e left ended = record {
  prefix = (length s.given, sym (take-append_seam s.given rest'));
  whole = λ found.
      let none : rest' ≡ [] = left ∙ nothing_left rest n (length piece) (n == 0) (length piece == 0) e refl refl (subst IsTrue ended found) in
      sym (ap (λ t. s.given ++ t) none ∙ append-nil s.given);
}
