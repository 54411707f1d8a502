-- What a read tells stays told.
use Rattle.std.proofs.Common.{◌≡◌, ℕ, Bool, true, false, List, [], ◌++◌, Option, Some, None, refl, ap, sym, ◌∙◌, inl, inr}
use Rattle.std.specs.Prelude.{◌||◌, ◌==◌, if◌then◌else◌}
use Rattle.std.specs.List.{filter_map, list_any}
use Rattle.std.specs.Option.{option_to_list}
use Rattle.std.proofs.lemmas.List.Elements.{filter_map-append}
use Rattle.std.proofs.lemmas.List.Folds.{list_any-append}
use Rattle.m2_frame.specs.Reading.{Item}
use Rattle.m2_handshake.specs.Course as hand
use Rattle.m2_handshake.specs.Course.{course_of}
use Rattle.m2_handshake.specs.Moves.{is_authed}
use Rattle.m2_handshake.specs.Standing.{Standing, fed}
use Rattle.m2_journal.specs.Feeds.{greets, hears, hears_at, signs, split_into, told, told_by}
use Rattle.m2_journal.specs.Said.{said, split}
use Rattle.m2_journal.specs.State.{Feed}
use Rattle.m2_core.proofs.Agreeing.{IsResumed}

or_more : (a x y : Bool) → (a || x) ≡ true → (a || (x || y)) ≡ true
or_more true x y h = refl
or_more false true y h = refl
or_more false false y h = absurd (apart h)
  where
    apart : false ≡ true → ⊥
    apart z = cc

module _ (p : ℕ → Bool) where
  abbrev numbers : List Item → List ℕ
  numbers items = filter_map (λ item. told_by (said item)) items

  told_behind : (o : Option ℕ) (xs ys : List Item) → list_any p (option_to_list o ++ numbers xs) ≡ true → list_any p (option_to_list o ++ numbers (xs ++ ys)) ≡ true
  told_behind o xs ys h =
      let before : (list_any p (option_to_list o) || list_any p (numbers xs)) ≡ true = sym (list_any-append p (option_to_list o) (numbers xs)) ∙ h in
      list_any-append p (option_to_list o) (numbers (xs ++ ys))
      ∙ ap (λ (l : List ℕ). list_any p (option_to_list o) || list_any p l) (filter_map-append (λ item. told_by (said item)) xs ys)
      ∙ ap (λ (b : Bool). list_any p (option_to_list o) || b) (list_any-append p (numbers xs) (numbers ys))
      ∙ or_more (list_any p (option_to_list o)) (list_any p (numbers xs)) (list_any p (numbers ys)) before

  told_signed : (s : Standing) (d : Feed) → list_any p (told d) ≡ true → list_any p (told (signs s d)) ≡ true
  told_signed s d h = at (is_authed s.stage)
    where
      at : (b : Bool) → list_any p (told (if b then split_into (split s.rest) (record d { hand = None }) else record d { hand = Some s })) ≡ true
      at true = told_behind d.resumed d.got (split s.rest).items h
      at false = h

  told_at : (o : Option Standing) (bytes : List ℕ) (d : Feed) → list_any p (told d) ≡ true → list_any p (told (hears_at o bytes d)) ≡ true
  told_at (Some s) bytes d h =
      told_signed (course_of (fed s bytes) []).standing (record d { texts = greets (hand.text_of (course_of (fed s bytes) []).events) d.texts }) h
  told_at None bytes d h = told_behind d.resumed d.got (split (d.rest ++ bytes)).items h

pub resumed_still : (r : ℕ) (bytes : List ℕ) (d : Feed) → IsResumed r (Some d) → IsResumed r (Some (hears bytes d))
resumed_still r bytes d (inl e) = inl e
resumed_still r bytes d (inr t) = inr (told_at (λ n. n == r) d.hand bytes d t)
