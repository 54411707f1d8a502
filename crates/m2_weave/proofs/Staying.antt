-- What may come may still come later.
use Rattle.std.proofs.Common.{◌≡◌, ℕ, zero, suc, ◌+◌, ◌≤◌, Bool, true, false, List, [], ◌∷◌, take, refl, sym, subst, arith, Option, Some, None}
use Rattle.std.specs.Prelude.{◌==◌, nat_le, nat_lt, if◌then◌else◌, slice_get, slice_index}
use Rattle.std.specs.Option.{is_none}
use Rattle.std.proofs.lemmas.Bool.Decides.{nat_tests}
use Rattle.m2_journal.specs.declared.entry.Entry.TheVariants as entry
use Rattle.m2_weave.specs.Order.{Cut, AtMost}
use Rattle.m2_weave.specs.declared.unfit.Unfit.{Unfit}
use Rattle.m2_weave.specs.declared.unfit.Why.TheVariants.{Differs}
use Rattle.m2_weave.specs.declared.strand.StrandItem.{StrandItem}
use Rattle.m2_weave.specs.declared.strand.StrandItem.TheVariants.{Noted, Handed}
use Rattle.m2_weave.specs.Strands.{EndOf, StrandNow, other, end_in, total, total_at, written_in, written_at, handed_by, handed_at, judged_by, judged_at, place_of}
use Rattle.m2_weave.specs.Rule.{Woven, byte_at, unfit, unfit_byte, first_unfit, comes, strand_at}
use Rattle.m2_weave.specs.WeaveLaws.{RuleStaysMet}

-- ---- sums rise

pub total-rises : (f : StrandItem → ℕ) (m n : ℕ) (is : List StrandItem) → m ≤ n → total f (take m is) ≤ total f (take n is)
total-rises f zero n is h = omega arith
total-rises f (suc m) zero is h = absurd (omega (arith, h))
total-rises f (suc m) (suc n) [] h = omega arith
total-rises f (suc m) (suc n) (i ∷ is) h =
    let r : total f (take m is) ≤ total f (take n is) = total-rises f m n is (omega (arith, h)) in omega arith

pub total-at-rises : (f : StrandNow → StrandItem → ℕ) (ss : List StrandNow) (a b : Cut) → AtMost a b → total_at f ss a ≤ total_at f ss b
total-at-rises f [] a b most = omega arith
total-at-rises f (s ∷ ss) [] b most = omega arith
total-at-rises f (s ∷ ss) (m ∷ a) [] most = absurd (omega (arith, most.count))
total-at-rises f (s ∷ ss) (m ∷ a) (n ∷ b) most =
    let here : total (f s) (take m s.items) ≤ total (f s) (take n s.items) = total-rises (f s) m n s.items (most.each 0) in
    let rest : total_at f ss a ≤ total_at f ss b =
    total-at-rises f ss a b (record { count = omega (arith, most.count); each = λ k. most.each (suc k) }) in
    omega arith

-- ---- bytes stay written

kept : (b c : Bool) (x : Option ℕ) (y : ℕ) → (b ≡ true → c ≡ true) → (if b then x else None) ≡ Some y → (if c then x else None) ≡ Some y
kept true c x y h e = subst (λ d. (if d then x else None) ≡ Some y) (sym (h refl)) e
kept false c x y h e = absurd (cc)

below-stays : (p m n : ℕ) → m ≤ n → nat_lt p m ≡ true → nat_lt p n ≡ true
below-stays p m n h e = grind (arith, nat_tests)

pub byte-stays : (w : Woven) (a b : Cut) (e : EndOf) (p y : ℕ) → AtMost a b → byte_at w a e p ≡ Some y → byte_at w b e p ≡ Some y
byte-stays w a b e p y most is =
    kept (nat_lt p (written_at w.strands a e)) (nat_lt p (written_at w.strands b e)) (slice_get (w.bytes.put e) p) y
    (below-stays p (written_at w.strands a e) (written_at w.strands b e) (total-at-rises (written_in e) w.strands a b most)) is

-- ---- reads stay fit

same-case : (b : Bool) (f : Unfit) (s r : Option Unfit) → (is_none s ≡ true → is_none r ≡ true) → is_none (if b then s else Some f) ≡ true →
    is_none (if b then r else Some f) ≡ true
same-case true f s r on h = on h
same-case false f s r on h = h

byte-case : (e : EndOf) (p x : ℕ) (o v : Option ℕ) (s r : Option Unfit) → ((y : ℕ) → o ≡ Some y → v ≡ Some y) → (is_none s ≡ true → is_none r ≡ true) →
    is_none (unfit_byte e p x o s) ≡ true → is_none (unfit_byte e p x v r) ≡ true
byte-case e p x None v s r stays on h = absurd (cc)
byte-case e p x (Some y) v s r stays on h =
    subst (λ z. is_none (unfit_byte e p x z r) ≡ true) (sym (stays y refl)) (same-case (x == y) (unfit e p (Differs x y)) s r on h)

unfit-stays : (e : EndOf) (t u : ℕ → Option ℕ) → ((p y : ℕ) → t p ≡ Some y → u p ≡ Some y) → (p : ℕ) (xs : List ℕ) →
    is_none (first_unfit e t p xs) ≡ true → is_none (first_unfit e u p xs) ≡ true
unfit-stays e t u on p [] h = refl
unfit-stays e t u on p (x ∷ xs) h =
    byte-case e p x (t p) (u p) (first_unfit e t (p + 1) xs) (first_unfit e u (p + 1) xs) (on p) (unfit-stays e t u on (p + 1) xs) h

-- ---- the rule

more-below : (a b c : ℕ) → b ≤ c → nat_lt a b ≡ true → nat_lt a c ≡ true
more-below a b c h e = grind (arith, nat_tests)

more-least : (a b c : ℕ) → b ≤ c → nat_le a b ≡ true → nat_le a c ≡ true
more-least a b c h e = grind (arith, nat_tests)

comes-stays : (w : Woven) (a b : Cut) (s : StrandNow) (n : ℕ) (i : Option StrandItem) → AtMost a b → comes w a s n i ≡ true → comes w b s n i ≡ true
comes-stays w a b s n (Some (Noted (entry.Read k count))) most h =
    unfit-stays (end_in s k) (byte_at w a (other (end_in s k))) (byte_at w b (other (end_in s k)))
    (λ p y. byte-stays w a b (other (end_in s k)) p y most) (place_of w.strands s n k) _ h
comes-stays w a b s n (Some (Noted (entry.Judged k ask number answer))) most h =
    more-below (total (judged_by k) (take n s.items)) (handed_at w.strands a k) (handed_at w.strands b k)
    (total-at-rises (λ s i. handed_by k i) w.strands a b most) h
comes-stays w a b s n (Some (Noted (entry.Wrote k count))) most h =
    more-least (total (handed_by k) (take n s.items)) (judged_at w.strands a k) (judged_at w.strands b k)
    (total-at-rises (λ s i. judged_by k i) w.strands a b most) h
comes-stays w a b s n (Some (Noted _)) most h = refl
comes-stays w a b s n (Some (Handed k)) most h = refl
comes-stays w a b s n None most h = h

pub stays_met : RuleStaysMet
stays_met w a b k most same met =
    comes-stays w a b (strand_at w k) (slice_index b k) (slice_get (strand_at w k).items (slice_index b k)) most
    (subst (λ n. comes w a (strand_at w k) n (slice_get (strand_at w k).items n) ≡ true) same met)
