-- Fields of known names and sorts are read in one way, one after the other.
use Rattle.std.proofs.Common.{◌≡◌, ◌≢◌, ℕ, ℤ, Bool, true, List, [], ◌∷◌, ◌++◌, refl, sym, ap, ◌∙◌, append_assoc}
use Rattle.std.specs.List.{list_all}
use mathlib.Core.List.{append_cancel_left}
use Rattle.m2_frame_facts.specs.declared.style.Style.{Style}
use Rattle.m2_frame_facts.specs.declared.style.Style.TheVariants as style
use Rattle.m2_frame_facts.specs.Value.{Place, Said, number, signed, flag, bits, bytes, numbers, place, places, word, Told, field_text, fields_text, said_text}
use Rattle.m2_frame_facts.specs.FieldName.{before_name, behind_name}
use Rattle.m2_frame_facts.specs.Fields.{field}
use Rattle.m2_frame_facts.specs.ReadOnce.{IsSmall}
use Rattle.m2_frame_facts.proofs.Classes.{is_inner, is_of_name}
use Rattle.m2_frame_facts.proofs.Cuts.{Once, Stops, cut_once, quoted_once}
use Rattle.m2_frame_facts.proofs.TextsOnce.{HexIsReadAgain, begins, bits_once, flag_once, hex_once, number_once, quoted_place_once, signed_once}
use Rattle.m2_frame_facts.proofs.ListsOnce.{numbers_once, places_once}
use Rattle.m2_bytes.specs.Hexadecimal.{hex_text}
use Rattle.m2_frame_facts.specs.Value.{bits_text}

-- ---- the sorts of what a field says

pub data Sort : Type 0 where
  a_number : Sort
  a_signed : Sort
  a_flag : Sort
  some_bits : Sort
  some_bytes : Sort
  some_numbers : Sort
  a_place : Sort
  some_places : Sort
  a_word : Sort

abbrev pub ValueOf : Sort → Type 0
ValueOf a_number = ℕ
ValueOf a_signed = ℤ
ValueOf a_flag = Bool
ValueOf some_bits = ℕ
ValueOf some_bytes = List ℕ
ValueOf some_numbers = List ℕ
ValueOf a_place = Place
ValueOf some_places = List Place
ValueOf a_word = List ℕ

abbrev pub say : (s : Sort) → ValueOf s → Said
say a_number v = number v
say a_signed v = signed v
say a_flag v = flag v
say some_bits v = bits v
say some_bytes v = bytes v
say some_numbers v = numbers v
say a_place v = place v
say some_places v = places v
say a_word v = word v

-- it keeps its range, and a word has no byte that ends it
abbrev pub IsFit : (s : Sort) → ValueOf s → Type 0
IsFit a_number v = IsSmall (number v)
IsFit a_signed v = IsSmall (signed v)
IsFit a_flag v = IsSmall (flag v)
IsFit some_bits v = IsSmall (bits v)
IsFit some_bytes v = IsSmall (bytes v)
IsFit some_numbers v = IsSmall (numbers v)
IsFit a_place v = IsSmall (place v)
IsFit some_places v = IsSmall (places v)
IsFit a_word v = list_all is_inner v ≡ true

word_once : (v w : List ℕ) → list_all is_inner v ≡ true → list_all is_inner w ≡ true → Once (v ≡ w) v w
word_once v w fit fit_too r s stops stops_too e = cut_once is_inner v w r s fit fit_too stops stops_too e

pub value_once : HexIsReadAgain → (form : Style) (sort : Sort) (v w : ValueOf sort) → IsFit sort v → IsFit sort w
    → Once (v ≡ w) (said_text form (say sort v)) (said_text form (say sort w))
unfolding said_text
value_once again form a_number v w fit fit_too = number_once v w fit fit_too
value_once again form a_signed v w fit fit_too = signed_once v w fit.sfits fit_too.sfits
value_once again form a_flag v w fit fit_too = flag_once v w
value_once again form some_bits v w fit fit_too = quoted_once form (bits_text v) (bits_text w) (bits_once again v w fit fit_too)
value_once again form some_bytes v w fit fit_too = quoted_once form (hex_text v) (hex_text w) (hex_once again v w fit fit_too)
value_once again form some_numbers v w fit fit_too = numbers_once v w fit fit_too
value_once again form a_place v w fit fit_too = quoted_place_once again form v w fit fit_too
value_once again form some_places v w fit fit_too = places_once again form v w fit fit_too
value_once again form a_word v w fit fit_too = quoted_once form v w (word_once v w fit fit_too)

-- ---- rows of fields

-- the name and the sort of a field
abbrev pub Column : Type 0
Column = List ℕ × Sort

abbrev pub Row : List Column → Type 0
Row [] = Unit {0}
Row (c ∷ cs) = ValueOf c.1 × Row cs

abbrev pub tell : (cs : List Column) → Row cs → List Told
tell [] u = []
tell (c ∷ cs) u = field c.0 (say c.1 u.0) ∷ tell cs u.1

abbrev pub AreFit : (cs : List Column) → Row cs → Type 0
AreFit [] u = Unit {0}
AreFit (c ∷ cs) u = IsFit c.1 u.0 × AreFit cs u.1

-- a field before others: what stands before its name, the name, what stands behind it, and what it says
spread : (form : Style) (f : Told) (more r : List ℕ)
    → (field_text form f ++ more) ++ r ≡ before_name form ++ (f.name ++ (behind_name form ++ (said_text form f.said ++ (more ++ r))))
unfolding field_text
spread form f more r =
    let b = before_name form in
    let a = behind_name form in
    let t = said_text form f.said in
    append_assoc (b ++ f.name ++ a ++ t) more r ∙ append_assoc (b ++ f.name ++ a) t (more ++ r) ∙ append_assoc (b ++ f.name) a (t ++ (more ++ r)) ∙ append_assoc b f.name (a ++ (t ++ (more ++ r)))

pub stops_fields : (form : Style) (fs : List Told) (r : List ℕ) → Stops is_inner r → Stops is_inner (fields_text form fs ++ r)
unfolding field_text
stops_fields form [] r stops = stops
stops_fields style.Line (f ∷ fs) r stops = refl
stops_fields style.Json (f ∷ fs) r stops = refl

-- the first of two fields of one name and sort
pub field_once : HexIsReadAgain → (form : Style) (c : Column) (u v : ValueOf c.1) → IsFit c.1 u → IsFit c.1 v → (more others r s : List ℕ)
    → Stops is_inner (more ++ r) → Stops is_inner (others ++ s)
    → (field_text form (field c.0 (say c.1 u)) ++ more) ++ r ≡ (field_text form (field c.0 (say c.1 v)) ++ others) ++ s → (u ≡ v) × (more ++ r ≡ others ++ s)
field_once again form c u v fit fit_too more others r s stops stops_too e =
    let first = said_text form (say c.1 u) ++ (more ++ r) in
    let other = said_text form (say c.1 v) ++ (others ++ s) in
    let all = sym (spread form (field c.0 (say c.1 u)) more r) ∙ e ∙ spread form (field c.0 (say c.1 v)) others s in
    let named = append_cancel_left (before_name form) (c.0 ++ (behind_name form ++ first)) (c.0 ++ (behind_name form ++ other)) all in
    let behind = append_cancel_left c.0 (behind_name form ++ first) (behind_name form ++ other) named in
    let told = append_cancel_left (behind_name form) first other behind in
    value_once again form c.1 u v fit fit_too (more ++ r) (others ++ s) stops stops_too told

pub row_once : HexIsReadAgain → (form : Style) (cs : List Column) (u v : Row cs) → AreFit cs u → AreFit cs v
    → Once (u ≡ v) (fields_text form (tell cs u)) (fields_text form (tell cs v))
row_once again form [] u v fit fit_too r s stops stops_too e = (refl, e)
row_once again form (c ∷ cs) u v fit fit_too r s stops stops_too e =
    let first = field_once again form c u.0 v.0 fit.0 fit_too.0 (fields_text form (tell cs u.1)) (fields_text form (tell cs v.1)) r s
    (stops_fields form (tell cs u.1) r stops) (stops_fields form (tell cs v.1) s stops_too) e in
    let more = row_once again form cs u.1 v.1 fit.1 fit_too.1 r s stops stops_too first.1 in
    let same : u ≡ v = ap (λ x. (x, u.1)) first.0 ∙ ap (λ x. (v.0, x)) more.0 in
    (same, more.1)

-- ---- rows that differ at once

-- where the one is at its end and the other isn't, or their first names differ
abbrev pub DifferAtOnce : List Column → List Column → Type 0
DifferAtOnce [] [] = ⊥
DifferAtOnce [] (d ∷ ds) = Unit {0}
DifferAtOnce (c ∷ cs) [] = Unit {0}
DifferAtOnce (c ∷ cs) (d ∷ ds) = (c.0 ≢ d.0) × ((list_all is_of_name c.0 ≡ true) × (list_all is_of_name d.0 ≡ true))

-- what ends the fields of a line begins otherwise than a field
abbrev pub EndsFields : Style → List ℕ → Type 0
EndsFields form r = begins (before_name form) ≡ begins r → ⊥

pub field_begins : (form : Style) (f : Told) (more r : List ℕ) → begins ((field_text form f ++ more) ++ r) ≡ begins (before_name form)
unfolding field_text
field_begins style.Line f more r = refl
field_begins style.Json f more r = refl

behind_stops : (form : Style) (r : List ℕ) → Stops is_of_name (behind_name form ++ r)
behind_stops style.Line r = refl
behind_stops style.Json r = refl

pub no_row_is_both : (form : Style) (cs ds : List Column) (u : Row cs) (v : Row ds) → DifferAtOnce cs ds → (r s : List ℕ) → EndsFields form r → EndsFields form s
    → fields_text form (tell cs u) ++ r ≡ fields_text form (tell ds v) ++ s → ⊥
no_row_is_both form [] [] u v differ r s ends ends_too e = differ
no_row_is_both form [] (d ∷ ds) u v differ r s ends ends_too e =
    ends (sym (field_begins form (field d.0 (say d.1 v.0)) (fields_text form (tell ds v.1)) s) ∙ ap begins (sym e))
no_row_is_both form (c ∷ cs) [] u v differ r s ends ends_too e =
    ends_too (sym (field_begins form (field c.0 (say c.1 u.0)) (fields_text form (tell cs u.1)) r) ∙ ap begins e)
no_row_is_both form (c ∷ cs) (d ∷ ds) u v differ r s ends ends_too e =
    let behind_first = said_text form (say c.1 u.0) ++ (fields_text form (tell cs u.1) ++ r) in
    let behind_other = said_text form (say d.1 v.0) ++ (fields_text form (tell ds v.1) ++ s) in
    let all = sym (spread form (field c.0 (say c.1 u.0)) (fields_text form (tell cs u.1)) r) ∙ e ∙ spread form (field d.0 (say d.1 v.0)) (fields_text form (tell ds v.1)) s in
    let named = append_cancel_left (before_name form) (c.0 ++ (behind_name form ++ behind_first)) (d.0 ++ (behind_name form ++ behind_other)) all in
    differ.0 (cut_once is_of_name c.0 d.0 (behind_name form ++ behind_first) (behind_name form ++ behind_other) differ.1.0 differ.1.1
    (behind_stops form behind_first) (behind_stops form behind_other) named).0
