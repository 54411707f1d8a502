-- A read fits by then exactly where its bytes are those that the other end writes there at all, and it has written the last
-- one by then.
use Rattle.std.proofs.Common.{◌≡◌, ℕ, zero, suc, ◌+◌, ◌<◌, ◌≤◌, Bool, true, false, List, [], ◌∷◌, length, refl, sym, ap, ◌∙◌, arith, Option, Some, None}
use Rattle.std.specs.Prelude.{nat_lt, if◌then◌else◌, slice_get, slice_index}
use Rattle.std.specs.Option.{is_none}
use Rattle.std.proofs.lemmas.Option.{slice_get-get_or}
use Rattle.std.proofs.lemmas.Bool.Decides.{nat_tests}
use Rattle.m2_weave.specs.Counted.{is_met}
use Rattle.m2_weave.specs.Strands.{EndOf}
use Rattle.m2_weave.specs.Rule.{AreThere, first_unfit}
use Rattle.m2_weave.specs.Counting.{fit_need}
use Rattle.m2_weave.proofs.Deciding.{read-sound, read-complete}

-- the bytes that are written by then
abbrev pub by_then : ℕ → List ℕ → ℕ → Option ℕ
by_then written put place = if nat_lt place written then slice_get put place else None

-- two truth values of which each follows from the other
pub same-bool : (a b : Bool) → (a ≡ true → b ≡ true) → (b ≡ true → a ≡ true) → a ≡ b
same-bool true b f g = sym (f refl)
same-bool false true f g = g refl
same-bool false false f g = refl

-- a byte that is written by then is written, before the end of what is written
some-by : (b : Bool) (x : Option ℕ) (y : ℕ) → (if b then x else None) ≡ Some y → (b ≡ true) × (x ≡ Some y)
some-by true x y e = (refl, e)
some-by false x y e = absurd (cc)

then-there : (written : ℕ) (put : List ℕ) (p : ℕ) (xs : List ℕ) → AreThere (by_then written put) p xs → AreThere (slice_get put) p xs
then-there written put p xs h i l =
    let is : slice_get xs i ≡ Some (slice_index xs i) = slice_get-get_or xs i 0 l in
    (some-by (nat_lt (p + i) written) (slice_get put (p + i)) (slice_index xs i) (h i l ∙ is)).1 ∙ sym is

then-below : (written : ℕ) (put : List ℕ) (p : ℕ) (xs : List ℕ) → AreThere (by_then written put) p xs → (i : ℕ) → i < length xs → p + i < written
then-below written put p xs h i l =
    let is : slice_get xs i ≡ Some (slice_index xs i) = slice_get-get_or xs i 0 l in
    let below : nat_lt (p + i) written ≡ true = (some-by (nat_lt (p + i) written) (slice_get put (p + i)) (slice_index xs i) (h i l ∙ is)).0 in
    grind (arith, nat_tests)

there-then : (written : ℕ) (put : List ℕ) (p : ℕ) (xs : List ℕ) → p + length xs ≤ written → AreThere (slice_get put) p xs → AreThere (by_then written put) p xs
there-then written put p xs w h i l =
    let below : nat_lt (p + i) written ≡ true = grind (arith, nat_tests) in
    ap (λ b. if b then slice_get put (p + i) else None) below ∙ h i l

-- ---- as a test

need-met : (b : Bool) (c p : ℕ) (xs : List ℕ) (v : ℕ → ℕ) → is_met (fit_need b c p xs) v ≡ true → (b ≡ true) × ((i : ℕ) → i < length xs → p + length xs ≤ v c)
need-met true c p [] v m = (refl, λ i l. absurd (omega (arith, l)))
need-met true c p (x ∷ xs) v m = (refl, λ i l. grind (arith, nat_tests, m))
need-met false c p xs v m = absurd (cc)

met-need : (b : Bool) (c p : ℕ) (xs : List ℕ) (v : ℕ → ℕ) → b ≡ true → ((i : ℕ) → i < length xs → p + length xs ≤ v c) → is_met (fit_need b c p xs) v ≡ true
met-need true c p [] v e h = refl
met-need true c p (x ∷ xs) v e h = let all : p + length (x ∷ xs) ≤ v c = h 0 (omega arith) in grind (arith, nat_tests)
met-need false c p xs v e h = absurd (cc)

all-below : (p n w : ℕ) → ((i : ℕ) → i < n → p + i < w) → (i : ℕ) → i < n → p + n ≤ w
all-below p zero w h i l = absurd (omega (arith, l))
all-below p (suc n) w h i l = let last : p + n < w = h n (omega arith) in omega arith

none-then : (e : EndOf) (put : List ℕ) (c p : ℕ) (xs : List ℕ) (v : ℕ → ℕ) (at : ℕ) → v c ≡ at → is_none (first_unfit e (by_then at put) p xs) ≡ true →
    (i : ℕ) → i < length xs → p + length xs ≤ v c
none-then e put c p xs v at is h i l =
    let there : AreThere (by_then at put) p xs = read-sound e (by_then at put) p xs h in
    let all : p + length xs ≤ at = all-below p (length xs) at (then-below at put p xs there) i l in
    omega (arith, all, is)

most-then : (e : EndOf) (put : List ℕ) (c p : ℕ) (xs : List ℕ) (v : ℕ → ℕ) (at : ℕ) → v c ≡ at → AreThere (slice_get put) p xs →
    ((i : ℕ) → i < length xs → p + length xs ≤ v c) → AreThere (by_then at put) p xs
most-then e put c p xs v at is there most i l =
    there-then at put p xs (let all : p + length xs ≤ v c = most i l in omega (arith, is)) there i l

pub fits_by_count : (e : EndOf) (put : List ℕ) (c p : ℕ) (xs : List ℕ) (v : ℕ → ℕ) (at : ℕ) → v c ≡ at →
    is_met (fit_need (is_none (first_unfit e (slice_get put) p xs)) c p xs) v ≡ is_none (first_unfit e (by_then at put) p xs)
fits_by_count e put c p xs v at is = same-bool _ _
    (λ m. let n = need-met (is_none (first_unfit e (slice_get put) p xs)) c p xs v m in
    read-complete e (by_then at put) p xs (most-then e put c p xs v at is (read-sound e (slice_get put) p xs n.0) n.1))
    (λ h. met-need (is_none (first_unfit e (slice_get put) p xs)) c p xs v
    (read-complete e (slice_get put) p xs (then-there at put p xs (read-sound e (by_then at put) p xs h)))
    (none-then e put c p xs v at is h))
