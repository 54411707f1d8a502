-- When the asks of a trail were judged, as it goes on: numbers that rise, the replies to the first of its asks, and what was got
-- before each judgement.
use Rattle.std.proofs.Common.{◌≡◌, ℕ, zero, suc, ◌≤◌, ◌<◌, nat_lt, if◌then◌else◌, ◌⊎◌, inl, inr, Bool, true, false, List, [], ◌∷◌, ◌++◌, length, take, slice_index, Option, Some, None, refl, sym, ap, ◌∙◌, subst, arith, append_assoc, append-nil}
use Rattle.std.proofs.lemmas.Bool.{cases_lt, lt-ltb}
use Rattle.std.proofs.lemmas.List.{take-append-le, take_all, length-append}
use Rattle.m2_control.specs.declared.control.Control.{Control}
use Rattle.m2_fabric.specs.declared.log.Run.{Run}
use Rattle.m2_fabric.specs.Log.{Log}
use Rattle.m2_handshake.specs.Laws.{IsPrefix}
use Rattle.m2_journal.specs.declared.entry.JudgedItem.{JudgedItem}
use Rattle.m2_trail.specs.Replies.{reply_to, replies_to, refusal_of, all_replies, first_replies}
use Rattle.m2_trail.specs.Trails.{TrailNow, RisesWithin, how_many_below, got_by, IsAsked, IsCounted}
use Rattle.m2_trail.proofs.Points.{Longer, first_within, got_stays}

-- ---- numbers that rise

pub rises_more : (least : ℕ) (ns : List ℕ) (most more : ℕ) → most ≤ more → RisesWithin least ns most → RisesWithin least ns more
rises_more least [] most more h r = omega (arith, h, r)
rises_more least (n ∷ ns) most more h r = (r.0, rises_more n ns most more h r.1)

pub rises_push : (least : ℕ) (ns : List ℕ) (most : ℕ) → RisesWithin least ns most → RisesWithin least (ns ++ most ∷ []) most
rises_push least [] most r = (r, omega arith)
rises_push least (n ∷ ns) most r = (r.0, rises_push n ns most r.1)

pub least_first : (least : ℕ) (ns : List ℕ) (most : ℕ) → RisesWithin least ns most → least ≤ most
least_first least [] most r = r
least_first least (n ∷ ns) most r = omega (arith, r.0, least_first n ns most r.1)

pub at_most : (least : ℕ) (ns : List ℕ) (most i : ℕ) → i < length ns → RisesWithin least ns most → slice_index ns i ≤ most
at_most least [] most i h r = absurd (omega (arith, h))
at_most least (n ∷ ns) most zero h r = least_first n ns most r.1
at_most least (n ∷ ns) most (suc i) h r = at_most n ns most i (omega (arith, h)) r.1

-- ---- how many are below

below : (b : Bool) (x y : ℕ) → b ≡ true → (if b then x else y) ≡ x
below true x y e = refl
below false x y e = absurd cc

pub all_below : (least : ℕ) (ns : List ℕ) (most n : ℕ) → most < n → RisesWithin least ns most → how_many_below n ns ≡ length ns
all_below least [] most n h r = refl
all_below least (m ∷ ms) most n h r =
    below (nat_lt m n) (suc (how_many_below n ms)) 0 (lt-ltb m n (omega (arith, h, least_first m ms most r.1))) ∙ ap suc (all_below m ms most n h r.1)

-- one number more
pub below_grows : (n : ℕ) (ns : List ℕ) (m : ℕ) → how_many_below n ns ≤ how_many_below n (ns ++ m ∷ [])
below_grows n [] m = omega arith
below_grows n (k ∷ ns) m = by_first (nat_lt k n) (below_grows n ns m)
  where
    by_first : (b : Bool) → how_many_below n ns ≤ how_many_below n (ns ++ m ∷ []) →
        (if b then suc (how_many_below n ns) else 0) ≤ (if b then suc (how_many_below n (ns ++ m ∷ [])) else 0)
    by_first true h = omega (arith, h)
    by_first false h = omega arith

-- ---- the replies to the first asks

pub none_is_first : {A : Type 0} (xs : List A) → IsPrefix (let none : List A = [] in none) xs
none_is_first xs = (xs, refl)

pub behind : {A : Type 0} (front xs ys : List A) → IsPrefix xs ys → IsPrefix (front ++ xs) (front ++ ys)
behind front xs ys p = (p.0, ap (λ l. front ++ l) p.1 ∙ sym (append_assoc front xs p.0))

-- behind all of them
pub all_first : (is : List JudgedItem) (n : ℕ) (refused : Option ℕ) → length is ≤ n → first_replies is n refused ≡ all_replies is refused
all_first [] n refused h = refl
all_first (i ∷ is) zero refused h = absurd (omega (arith, h))
all_first (i ∷ is) (suc n) refused h =
    ap (λ l. reply_to i.answer ++ l) (all_first is n refused (omega (arith, h))) ∙ sym (append_assoc (reply_to i.answer) (replies_to is) (refusal_of refused))

-- one ask more
pub first_grows : (is : List JudgedItem) (item : JudgedItem) (n m : ℕ) → n ≤ m → IsPrefix (first_replies is n None) (first_replies (is ++ item ∷ []) m None)
first_grows [] item n m h = none_is_first (first_replies (item ∷ []) m None)
first_grows (i ∷ is) item zero m h = none_is_first (first_replies ((i ∷ is) ++ item ∷ []) m None)
first_grows (i ∷ is) item (suc n) zero h = absurd (omega (arith, h))
first_grows (i ∷ is) item (suc n) (suc m) h =
    behind (reply_to i.answer) (first_replies is n None) (first_replies (is ++ item ∷ []) m None) (first_grows is item n m (omega (arith, h)))

-- the refusal
pub first_refused : (is : List JudgedItem) (n bits : ℕ) → IsPrefix (first_replies is n None) (first_replies is n (Some bits))
first_refused [] n bits = none_is_first (refusal_of (Some bits))
first_refused (i ∷ is) zero bits = none_is_first []
first_refused (i ∷ is) (suc n) bits = behind (reply_to i.answer) (first_replies is n None) (first_replies is n (Some bits)) (first_refused is n bits)

-- ---- what was got before each judgement

-- each was judged among the first runs
pub runs_before : (after : List ℕ) (place : ℕ) (rs more : List Run) → place < length after → RisesWithin 0 after (length rs) →
    take (slice_index after place) (rs ++ more) ≡ take (slice_index after place) rs
runs_before after place rs more h r = take-append-le (slice_index after place) rs more (at_most 0 after (length rs) place h r)

pub asked_stays : (t : TrailNow) (old new : Log) (place : ℕ) (more : List Run) → IsCounted old → Longer old new → new.runs ≡ old.runs ++ more →
    place < length t.judged_after → RisesWithin 0 t.judged_after (length old.runs) →
    IsAsked t old place (take (slice_index t.judged_after place) old.runs) → IsAsked t new place (take (slice_index t.judged_after place) new.runs)
asked_stays t old new place more c l e h r a =
    let n = slice_index t.judged_after place in
    let same : take n new.runs ≡ take n old.runs = ap (take n) e ∙ runs_before t.judged_after place old.runs more h r in
    let got : got_by (take n old.runs) new ≡ got_by (take n old.runs) old = got_stays (take n old.runs) old new (first_within n old c) l in
    record {
      exchange = a.exchange;
      standing = a.standing;
      comes = a.comes;
      fed = a.fed ∙ (sym got ∙ ap (λ rs. got_by rs new) (sym same));
      given = a.given;
      first = a.first;
    }
