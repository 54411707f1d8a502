-- The rule says of each item whether it may come.
use Rattle.std.proofs.Common.{◌≡◌, ℕ, zero, suc, ◌+◌, ◌<◌, ◌≤◌, Bool, true, false, List, [], ◌∷◌, take, refl, sym, ap, ◌∙◌, subst, arith, Option, Some, None}
use Rattle.std.specs.Prelude.{◌==◌, nat_le, nat_lt, if◌then◌else◌}
use Rattle.std.specs.Option.{is_none}
use Rattle.std.proofs.lemmas.Bool.Decides.{nat_tests}
use Rattle.m2_journal.specs.declared.entry.Entry.TheVariants as entry
use Rattle.m2_weave.specs.Order.{Cut}
use Rattle.m2_weave.specs.declared.unfit.Unfit.{Unfit}
use Rattle.m2_weave.specs.declared.strand.StrandItem.{StrandItem}
use Rattle.m2_weave.specs.declared.strand.StrandItem.TheVariants.{Noted, Handed}
use Rattle.m2_weave.specs.Strands.{EndOf, StrandNow, other, end_in, total, handed_by, handed_at, judged_by, judged_at, place_of}
use Rattle.m2_weave.specs.Rule.{Woven, MayCome, AreThere, byte_at, unfit_byte, first_unfit, comes}
use Rattle.m2_weave.specs.WeaveLaws.{RuleDecides}

-- ---- reads

same-byte : (x y : ℕ) (f : Unfit) (r : Option Unfit) → is_none (if x == y then r else Some f) ≡ true → (x ≡ y) × (is_none r ≡ true)
same-byte x y f r h = at (x == y) refl h
  where
    at : (b : Bool) → (x == y) ≡ b → is_none (if b then r else Some f) ≡ true → (x ≡ y) × (is_none r ≡ true)
    at true e g = (grind (arith, nat_tests), g)
    at false e g = absurd (cc)

-- the first byte is there, and the others are
there-first : (e : EndOf) (x : ℕ) (o : Option ℕ) (p : ℕ) (r : Option Unfit) → is_none (unfit_byte e p x o r) ≡ true → (o ≡ Some x) × (is_none r ≡ true)
there-first e x None p r h = absurd (cc)
there-first e x (Some y) p r h = let s : (x ≡ y) × (is_none r ≡ true) = same-byte x y _ r h in (ap Some (sym s.0), s.1)

pub read-sound : (e : EndOf) (t : ℕ → Option ℕ) (p : ℕ) (xs : List ℕ) → is_none (first_unfit e t p xs) ≡ true → AreThere t p xs
read-sound e t p [] h i l = absurd (omega (arith, l))
read-sound e t p (x ∷ xs) h zero l =
    let f : (t p ≡ Some x) × (is_none (first_unfit e t (p + 1) xs) ≡ true) = there-first e x (t p) p (first_unfit e t (p + 1) xs) h in
    let same : p + 0 ≡ p = omega arith in
    ap t same ∙ f.0
read-sound e t p (x ∷ xs) h (suc i) l =
    let f : (t p ≡ Some x) × (is_none (first_unfit e t (p + 1) xs) ≡ true) = there-first e x (t p) p (first_unfit e t (p + 1) xs) h in
    let same : p + suc i ≡ p + 1 + i = omega arith in
    ap t same ∙ read-sound e t (p + 1) xs f.1 i (omega (arith, l))

if-same : (x : ℕ) (f : Unfit) (r : Option Unfit) → (if x == x then r else Some f) ≡ r
if-same x f r = let e : (x == x) ≡ true = grind (arith, nat_tests) in ap (λ b. if b then r else Some f) e

pub read-complete : (e : EndOf) (t : ℕ → Option ℕ) (p : ℕ) (xs : List ℕ) → AreThere t p xs → is_none (first_unfit e t p xs) ≡ true
read-complete e t p [] h = refl
read-complete e t p (x ∷ xs) h =
    let here : p ≡ p + 0 = omega arith in
    let first : t p ≡ Some x = ap t here ∙ h 0 (omega arith) in
    let rest : is_none (first_unfit e t (p + 1) xs) ≡ true = read-complete e t (p + 1) xs (λ i l.
    let same : p + 1 + i ≡ p + suc i = omega arith in ap t same ∙ h (suc i) (omega (arith, l))) in
    subst (λ o. is_none (unfit_byte e p x o (first_unfit e t (p + 1) xs)) ≡ true) (sym first)
    (ap is_none (if-same x _ (first_unfit e t (p + 1) xs)) ∙ rest)

-- ---- all items

below : (a b : ℕ) → nat_lt a b ≡ true → a < b
below a b e = grind (arith, nat_tests)

is-below : (a b : ℕ) → a < b → nat_lt a b ≡ true
is-below a b e = grind (arith, nat_tests)

most : (a b : ℕ) → nat_le a b ≡ true → a ≤ b
most a b e = grind (arith, nat_tests)

is-most : (a b : ℕ) → a ≤ b → nat_le a b ≡ true
is-most a b e = grind (arith, nat_tests)

sound : (w : Woven) (at : Cut) (s : StrandNow) (n : ℕ) (i : StrandItem) → comes w at s n (Some i) ≡ true → MayCome w at s n i
sound w at s n (Noted (entry.Read k count)) h =
    read-sound (end_in s k) (byte_at w at (other (end_in s k))) (place_of w.strands s n k) _ h
sound w at s n (Noted (entry.Judged k ask number answer)) h = below (total (judged_by k) (take n s.items)) (handed_at w.strands at k) h
sound w at s n (Noted (entry.Wrote k count)) h = most (total (handed_by k) (take n s.items)) (judged_at w.strands at k) h
sound w at s n (Noted _) h = tt
sound w at s n (Handed k) h = tt

complete : (w : Woven) (at : Cut) (s : StrandNow) (n : ℕ) (i : StrandItem) → MayCome w at s n i → comes w at s n (Some i) ≡ true
complete w at s n (Noted (entry.Read k count)) h =
    read-complete (end_in s k) (byte_at w at (other (end_in s k))) (place_of w.strands s n k) _ h
complete w at s n (Noted (entry.Judged k ask number answer)) h = is-below (total (judged_by k) (take n s.items)) (handed_at w.strands at k) h
complete w at s n (Noted (entry.Wrote k count)) h = is-most (total (handed_by k) (take n s.items)) (judged_at w.strands at k) h
complete w at s n (Noted _) h = refl
complete w at s n (Handed k) h = refl

pub decides : RuleDecides
decides = record { sound = sound; complete = complete }
