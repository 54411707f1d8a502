-- Wherever a lawful order leads, what was read was written before.
use Rattle.std.proofs.Common.{◌≡◌, ℕ, zero, suc, ◌+◌, ◌-◌, ◌<◌, ◌≤◌, ◌⊎◌, inl, inr, Bool, true, false, List, [], ◌∷◌, length, take, drop, refl, sym, ap, ◌∙◌, subst, arith, add-one, Option, Some, None}
use Rattle.std.specs.Prelude.{if◌then◌else◌, slice_get, slice_index}
use Rattle.std.proofs.lemmas.List.{length-set, length-map, length-take, length-drop, get_or-set_same, get_or-set_other}
use Rattle.std.proofs.lemmas.Option.{slice_get-get_or}
use Rattle.std.proofs.lemmas.Bool.{cases_eq}
use Rattle.m2_fabric.specs.declared.socket.SocketId.{SocketId}
use Rattle.m2_fabric.specs.Sockets.{same_socket}
use Rattle.m2_journal.specs.declared.entry.Entry.TheVariants as entry
use Rattle.m2_weave.specs.Order.{Cut, AtMost, AreLawful, come, come_all, nothing}
use Rattle.m2_weave.specs.declared.strand.StrandItem.{StrandItem}
use Rattle.m2_weave.specs.declared.strand.StrandItem.TheVariants.{Noted, Handed}
use Rattle.m2_weave.specs.Strands.{StrandNow, other, end_in, read_by, total, place_of}
use Rattle.m2_weave.specs.Rule.{Woven, byte_at, by_bytes, comes, strand_at}
use Rattle.m2_weave.specs.Stops.{sizes}
use Rattle.m2_weave.specs.WeaveLaws.{IsRead, ReadWasWritten}
use Rattle.m2_weave.proofs.Staying.{byte-stays}
use Rattle.m2_weave.proofs.Deciding.{read-sound}
use Rattle.m2_bytes.proofs.m2_lemmas.Lists.{index_in_range}
use Rattle.m2_weave.proofs.Furthest.{zero-at}
use Rattle.m2_fabric.proofs.Sockets.{same_equal}

-- ---- lists and cuts

pub total-suc : (f : StrandItem → ℕ) (n : ℕ) (is : List StrandItem) (i : StrandItem) → slice_get is n ≡ Some i → total f (take (suc n) is) ≡ total f (take n is) + f i
total-suc f n [] i h = absurd (cc)
total-suc f zero (x ∷ is) i h = let same : x ≡ i = cc in subst (λ y. f x + 0 ≡ 0 + f y) same (omega arith)
total-suc f (suc n) (x ∷ is) i h =
    let r : total f (take (suc n) is) ≡ total f (take n is) + f i = total-suc f n is i h in omega (arith, r)

pub total-more : (f : StrandItem → ℕ) (n : ℕ) (is : List StrandItem) (i : StrandItem) → slice_get is n ≡ Some i → total f (take (n + 1) is) ≡ total f (take n is) + f i
total-more f n is i h = subst (λ m. total f (take m is) ≡ total f (take n is) + f i) (sym (add-one n)) (total-suc f n is i h)

pub get_take : (c i : ℕ) (xs : List ℕ) → i < c → slice_get (take c xs) i ≡ slice_get xs i
get_take zero i xs h = absurd (omega (arith, h))
get_take (suc c) i [] h = refl
get_take (suc c) zero (x ∷ xs) h = refl
get_take (suc c) (suc i) (x ∷ xs) h = get_take c i xs (omega (arith, h))

pub get_drop : (p i : ℕ) (xs : List ℕ) → slice_get (drop p xs) i ≡ slice_get xs (p + i)
get_drop zero i xs = let same : i ≡ 0 + i = omega arith in ap (slice_get xs) same
get_drop (suc p) i [] = refl
get_drop (suc p) i (x ∷ xs) =
    let same : suc (p + i) ≡ suc p + i = omega arith in get_drop p i xs ∙ ap (slice_get (x ∷ xs)) same

come-each : (at : Cut) (k j : ℕ) → k < length at → (j ≡ k) ⊎ (j ≡ k → ⊥) → slice_index at j ≤ slice_index (come k at) j
come-each at k j h (inl e) =
    let P : ℕ → Type 0 = λ x. slice_index at x ≤ slice_index (come k at) x in
    let at_k : slice_index at k ≤ slice_index (come k at) k = omega (arith, get_or-set_same at k (slice_index at k + 1) 0 h) in
    subst P (sym e) at_k
come-each at k j h (inr n) = omega (arith, get_or-set_other at k j (slice_index at k + 1) 0 n)

pub come-most : (at : Cut) (k : ℕ) → k < length at → AtMost at (come k at)
come-most at k h = record {
  count = sym (length-set at k (slice_index at k + 1));
  each = λ j. come-each at k j h (cases_eq j k);
}

-- ---- one read

read-here : (w : Woven) (at : Cut) (s : StrandNow) (n : ℕ) (k : SocketId) (count p : ℕ) → comes w at s n (Some (Noted (entry.Read k count))) ≡ true →
    place_of w.strands s n k ≤ p → p < place_of w.strands s n k + count → p < length (w.bytes.got (end_in s k)) →
    byte_at w at (other (end_in s k)) p ≡ slice_get (w.bytes.got (end_in s k)) p
read-here w at s n k count p h low high within =
    let from = place_of w.strands s n k in
    let got = w.bytes.got (end_in s k) in
    let there = byte_at w at (other (end_in s k)) in
    let same : from + (p - from) ≡ p = omega (arith, low) in
    let short : p - from < count = omega (arith, low, high) in
    let inside : p - from < length (take count (drop from got)) = omega (arith, length-take count (drop from got), length-drop from got, low, short, within) in
    let read : there (from + (p - from)) ≡ slice_get (take count (drop from got)) (p - from) =
    read-sound (end_in s k) there from (take count (drop from got)) h (p - from) inside in
    ap there (sym same) ∙ read ∙ get_take count (p - from) (drop from got) short ∙ get_drop from (p - from) got ∙ ap (slice_get got) same

-- of a read on this socket or another
read-if : (w : Woven) (at : Cut) (s : StrandNow) (n : ℕ) (k x : SocketId) (count p : ℕ) (b : Bool) → same_socket k x ≡ b →
    comes w at s n (Some (Noted (entry.Read x count))) ≡ true → place_of w.strands s n k ≤ p →
    p < place_of w.strands s n k + (if b then count else 0) → p < length (w.bytes.got (end_in s k)) →
    byte_at w at (other (end_in s k)) p ≡ slice_get (w.bytes.got (end_in s k)) p
read-if w at s n k x count p true is h low high within =
    read-here w at s n k count p (subst (λ y. comes w at s n (Some (Noted (entry.Read y count))) ≡ true) (sym (same_equal k x is)) h) low high within
read-if w at s n k x count p false is h low high within = absurd (omega (arith, low, high))

item-here : (w : Woven) (at : Cut) (s : StrandNow) (n : ℕ) (k : SocketId) (p : ℕ) (i : StrandItem) → comes w at s n (Some i) ≡ true →
    place_of w.strands s n k ≤ p → p < place_of w.strands s n k + read_by k i → p < length (w.bytes.got (end_in s k)) →
    byte_at w at (other (end_in s k)) p ≡ slice_get (w.bytes.got (end_in s k)) p
item-here w at s n k p (Noted (entry.Read x count)) h low high within = read-if w at s n k x count p (same_socket k x) refl h low high within
item-here w at s n k p (Noted _) h low high within = absurd (omega (arith, low, high))
item-here w at s n k p (Handed _) h low high within = absurd (omega (arith, low, high))

-- ---- one more item of a strand

either : (p m : ℕ) → (p < m) ⊎ (m ≤ p)
either zero zero = inr (omega arith)
either zero (suc m) = inl (omega arith)
either (suc p) zero = inr (omega arith)
either (suc p) (suc m) = elim (either p m) [ inl h ↦ inl (omega (arith, h)) | inr h ↦ inr (omega (arith, h)) ]

-- what was read stays written
read-stays : (w : Woven) (at to : Cut) (s : StrandNow) (n : ℕ) → AtMost at to → IsRead w at s n → IsRead w to s n
read-stays w at to s n most r k p low high within =
    let got = w.bytes.got (end_in s k) in
    let is : slice_get got p ≡ Some (slice_index got p) = slice_get-get_or got p 0 within in
    byte-stays w at to (other (end_in s k)) p (slice_index got p) most (r k p low high within ∙ is) ∙ sym is

own-read : (w : Woven) (at to : Cut) (s : StrandNow) (n : ℕ) (i : Option StrandItem) → slice_get s.items n ≡ i → comes w at s n i ≡ true → AtMost at to →
    IsRead w at s n → IsRead w to s (n + 1)
own-read w at to s n None is h most r k p low high within = absurd (cc)
own-read w at to s n (Some i) is h most r k p low high within =
    let more : total (read_by k) (take (n + 1) s.items) ≡ total (read_by k) (take n s.items) + read_by k i = total-more (read_by k) n s.items i is in
    let got = w.bytes.got (end_in s k) in
    let shows : slice_get got p ≡ Some (slice_index got p) = slice_get-get_or got p 0 within in
    elim (either p (place_of w.strands s n k)) [
      | inl before ↦ read-stays w at to s n most r k p low before within
      | inr behind ↦
          byte-stays w at to (other (end_in s k)) p (slice_index got p) most
          (item-here w at s n k p i h behind (omega (arith, more, high)) within ∙ shows) ∙ sym shows
    ]

-- ---- along an order

AllRead : Woven → Cut → Type 0
AllRead w at = (j : ℕ) → IsRead w at (strand_at w j) (slice_index at j)

one-more : (w : Woven) (at : Cut) (k j : ℕ) → k < length at → by_bytes w at k ≡ true → AllRead w at → (j ≡ k) ⊎ (j ≡ k → ⊥) →
    IsRead w (come k at) (strand_at w j) (slice_index (come k at) j)
unfolding AllRead
one-more w at k j within met r (inl e) =
    let P : ℕ → Type 0 = λ x. IsRead w (come k at) (strand_at w x) (slice_index (come k at) x) in
    let Q : ℕ → Type 0 = λ n. IsRead w (come k at) (strand_at w k) n in
    let own : IsRead w (come k at) (strand_at w k) (slice_index at k + 1) =
    own-read w at (come k at) (strand_at w k) (slice_index at k) (slice_get (strand_at w k).items (slice_index at k)) refl met
    (come-most at k within) (r k) in
    subst P (sym e) (subst Q (sym (get_or-set_same at k (slice_index at k + 1) 0 within)) own)
one-more w at k j within met r (inr other) =
    subst (λ n. IsRead w (come k at) (strand_at w j) n) (sym (get_or-set_other at k j (slice_index at k + 1) 0 other))
    (read-stays w at (come k at) (strand_at w j) (slice_index at j) (come-most at k within) (r j))

all-read : (w : Woven) (at : Cut) (order : List ℕ) → length at ≡ length (sizes w) → AreLawful (by_bytes w) (sizes w) at order → AllRead w at →
    AllRead w (come_all order at)
unfolding AllRead
all-read w at [] n l r = r
all-read w at (k ∷ ks) n (may, l) r =
    let within : k < length at = omega (arith, n, index_in_range (sizes w) k (slice_index at k) may.more) in
    all-read w (come k at) ks (length-set at k (slice_index at k + 1) ∙ n) l (λ j. one-more w at k j within may.met r (cases_eq j k))

none-read : (w : Woven) (j : ℕ) → IsRead w (nothing (sizes w)) (strand_at w j) (slice_index (nothing (sizes w)) j)
none-read w j =
    subst (λ n. IsRead w (nothing (sizes w)) (strand_at w j) n) (sym (zero-at (sizes w) j)) (λ k p low high within. absurd (omega (arith, low, high)))

pub all_read : ReadWasWritten
unfolding AllRead
all_read w order l = all-read w (nothing (sizes w)) order (length-map (sizes w) (λ n. 0)) l (none-read w)
