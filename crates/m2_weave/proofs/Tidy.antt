-- Where the weaving of tidy strands stops, a strand stands at a read that may not come.
use Rattle.std.proofs.Common.{◌≡◌, ℕ, zero, suc, ◌+◌, ◌<◌, ◌≤◌, ◌⊎◌, inl, inr, Bool, true, false, if◌then◌else◌, List, [], ◌∷◌, length, map, take, refl, sym, ap, ◌∙◌, subst, arith, Option, Some, None}
use Rattle.std.specs.Prelude.{slice_get, slice_index, slice_index_or}
use Rattle.std.specs.List.{AllByRecursion}
use Rattle.std.specs.Option.{is_none}
use Rattle.std.proofs.lemmas.Bool.{leb-false, ltb-false}
use Rattle.m2_fabric.specs.declared.socket.SocketId.{SocketId}
use Rattle.m2_fabric.specs.Sockets.{same_socket}
use Rattle.m2_journal.specs.declared.entry.Entry.TheVariants as entry
use Rattle.m2_weave.specs.Order.{Cut, AtMost, nothing, reached}
use Rattle.m2_weave.proofs.Furthest.{are-lawful, begins, reached-count, within}
use Rattle.m2_weave.specs.declared.strand.StrandItem.{StrandItem}
use Rattle.m2_weave.specs.declared.strand.StrandItem.TheVariants.{Noted, Handed}
use Rattle.m2_weave.specs.declared.unfit.Unfit.{Unfit}
use Rattle.m2_weave.specs.Strands.{StrandNow, other, end_in, handed_at, handed_by, judged_at, judged_by, place_of, total, total_at}
use Rattle.m2_weave.specs.Rule.{Woven, by_bytes, byte_at, comes, nothing_at_all, strand_at}
use Rattle.m2_weave.specs.Stops.{first_stop, or_else, sizes, unfit_item, unfit_next}
use Rattle.m2_weave.specs.Tidy.{AreTidy, IsAtRead, IsOfHalf, IsOfJournal, IsTidyStrand, TidyStopsAreReads}
use Rattle.m2_weave.proofs.Naming.{is_the_first}
use Rattle.m2_weave.proofs.Written.{total-more}
use Rattle.m2_bytes.proofs.m2_lemmas.Booleans.{not_true_is_false}
use Rattle.m2_bytes.proofs.m2_lemmas.Numbers.{below_or_not}
use Rattle.m2_fabric.proofs.Sockets.{same_equal, same_refl}

-- ---- sums

whole : (f : StrandItem → ℕ) (m : ℕ) (is : List StrandItem) → total f (take m is) ≤ total f is
whole f zero is = omega arith
whole f (suc m) [] = omega arith
whole f (suc m) (i ∷ is) = omega (arith, whole f m is)

pub all-taken : (f : StrandItem → ℕ) (is : List StrandItem) → total f (take (length is) is) ≡ total f is
all-taken f [] = refl
all-taken f (i ∷ is) = ap (λ n. f i + n) (all-taken f is)

-- one strand's part of a sum
part : (f : StrandItem → ℕ) (ss : List StrandNow) (at : Cut) (j : ℕ) → length at ≡ length ss →
    total f (take (slice_index at j) (slice_index_or ss j nothing_at_all).items) ≤ total_at (λ s i. f i) ss at
part f [] at j n = whole f (slice_index at j) []
part f (s ∷ ss) [] j n = absurd (omega (arith, n))
part f (s ∷ ss) (m ∷ at) zero n = omega arith
part f (s ∷ ss) (m ∷ at) (suc j) n = let more = part f ss at j (omega (arith, n)) in omega (arith, more)

-- where a sum isn't all there is, one strand's part isn't
record IsLess (f : StrandItem → ℕ) (ss : List StrandNow) (at : Cut) : Type 0 where
  strand : ℕ
  less : total f (take (slice_index at strand) (slice_index_or ss strand nothing_at_all).items) < total f (slice_index_or ss strand nothing_at_all).items

less-of : (f : StrandItem → ℕ) (s : StrandNow) (ss : List StrandNow) (m : ℕ) (at : Cut) → (total f (take m s.items) < total f s.items) ⊎ (total f s.items ≤ total f (take m s.items)) →
    (total_at (λ s i. f i) ss at < total_at (λ s i. f i) ss (map (λ (s : StrandNow). length s.items) ss) → IsLess f ss at) →
    total f (take m s.items) + total_at (λ s i. f i) ss at < total f s.items + total_at (λ s i. f i) ss (map (λ (s : StrandNow). length s.items) ss) → IsLess f (s ∷ ss) (m ∷ at)
less-of f s ss m at (inl l) rest h = record { strand = 0; less = l }
less-of f s ss m at (inr l) rest h = let more = rest (omega (arith, l, h)) in record { strand = suc more.strand; less = more.less }

some-less : (f : StrandItem → ℕ) (ss : List StrandNow) (at : Cut) → length at ≡ length ss →
    total_at (λ s i. f i) ss at < total_at (λ s i. f i) ss (map (λ (s : StrandNow). length s.items) ss) → IsLess f ss at
some-less f [] at n h = absurd (omega (arith, h))
some-less f (s ∷ ss) [] n h = absurd (omega (arith, n))
some-less f (s ∷ ss) (m ∷ at) n h =
    less-of f s ss m at (below_or_not (total f (take m s.items)) (total f s.items)) (some-less f ss at (omega (arith, n))) (omega (arith, h, all-taken f s.items))

-- a sum that isn't whole has items left
taken-all : (m : ℕ) (is : List StrandItem) → length is ≤ m → take m is ≡ is
taken-all zero [] h = refl
taken-all zero (i ∷ is) h = absurd (omega (arith, h))
taken-all (suc m) [] h = refl
taken-all (suc m) (i ∷ is) h = ap (λ l. i ∷ l) (taken-all m is (omega (arith, h)))

left : (f : StrandItem → ℕ) (m : ℕ) (is : List StrandItem) → total f (take m is) < total f is → m < length is
left f m is h = elim (below_or_not m (length is)) [
  | inl l ↦ l
  | inr l ↦ absurd (omega (arith, h, ap (total f) (taken-all m is l)))
]

-- ---- items

pub next-there : (n : ℕ) (is : List StrandItem) → n < length is → (i : StrandItem) × (slice_get is n ≡ Some i)
next-there n [] h = absurd (omega (arith, h))
next-there zero (i ∷ is) h = (i, refl)
next-there (suc n) (i ∷ is) h = next-there n is (omega (arith, h))

all-at : (P : StrandItem → Type 0) (n : ℕ) (is : List StrandItem) (i : StrandItem) → AllByRecursion P is → slice_get is n ≡ Some i → P i
all-at P n [] i h e = absurd (cc)
all-at P zero (x ∷ is) i h e = let same : x ≡ i = cc in subst P same h.0
all-at P (suc n) (x ∷ is) i h e = all-at P n is i h.1 e

-- a journal hands on nothing, and a half judges nothing
none-handed : (k : SocketId) (is : List StrandItem) → AllByRecursion IsOfJournal is → total (handed_by k) is ≡ 0
none-handed k [] h = refl
none-handed k (Noted x ∷ is) h = omega (arith, none-handed k is h.1)
none-handed k (Handed x ∷ is) h = absurd h.0

none-judged : (k x : SocketId) (is : List StrandItem) → AllByRecursion (IsOfHalf x) is → total (judged_by k) is ≡ 0
none-judged k x [] h = refl
none-judged k x (Noted (entry.Judged y ask number answer) ∷ is) h = absurd h.0
none-judged k x (Noted _ ∷ is) h = omega (arith, none-judged k x is h.1)
none-judged k x (Handed y ∷ is) h = omega (arith, none-judged k x is h.1)

-- and what it hands on is on its socket
on-socket : (k x y : SocketId) (n : ℕ) (b : Bool) → same_socket k y ≡ b → same_socket x y ≡ true → 0 < (if b then 1 else 0) + n → (0 < n → k ≡ x) → k ≡ x
on-socket k x y n true e is h rest = same_equal k y e ∙ sym (same_equal x y is)
on-socket k x y n false e is h rest = rest (omega (arith, h))

handed-there : (k x : SocketId) (is : List StrandItem) → AllByRecursion (IsOfHalf x) is → 0 < total (handed_by k) is → k ≡ x
handed-there k x [] h some = absurd (omega (arith, some))
handed-there k x (Handed y ∷ is) h some = on-socket k x y (total (handed_by k) is) (same_socket k y) refl h.0 some (handed-there k x is h.1)
handed-there k x (Noted y ∷ is) h some = handed-there k x is h.1 (omega (arith, some))

-- ---- where nothing may come

-- every strand that isn't at its end waits, and none of them for bytes
record IsWaiting (w : Woven) (at : Cut) : Type 0 where
  count : length at ≡ length w.strands
  waits : (j : ℕ) → slice_index at j < length (strand_at w j).items → by_bytes w at j ≡ false
  reads : (j : ℕ) → unfit_next w at (strand_at w j) (slice_index at j) ≡ None

tidy-at : (ss : List StrandNow) (j : ℕ) → AllByRecursion (λ (s : StrandNow). IsTidyStrand s.of_half s.items) ss →
    IsTidyStrand (slice_index_or ss j nothing_at_all).of_half (slice_index_or ss j nothing_at_all).items
tidy-at [] j h = tt
tidy-at (s ∷ ss) zero h = h.0
tidy-at (s ∷ ss) (suc j) h = tidy-at ss j h.1

module _ (w : Woven) (at : Cut) (tidy : AreTidy w) (stuck : IsWaiting w at) where
  abbrev items : ℕ → List StrandItem
  items j = (strand_at w j).items

  abbrev place : ℕ → ℕ
  place j = slice_index at j

  -- of the next item of a strand
  waiting : (j : ℕ) (i : StrandItem) → place j < length (items j) → slice_get (items j) (place j) ≡ Some i → comes w at (strand_at w j) (place j) (Some i) ≡ false
  waiting j i l e = ap (comes w at (strand_at w j) (place j)) (sym e) ∙ stuck.waits j l

  -- it is no read, and nothing that may come at any time
  unread : (j : ℕ) (k : SocketId) (count : ℕ) → slice_get (items j) (place j) ≡ Some (Noted (entry.Read k count)) → comes w at (strand_at w j) (place j) (Some (Noted (entry.Read k count))) ≡ true
  unread j k count e = ap is_none (ap (unfit_item w at (strand_at w j) (place j)) (sym e) ∙ stuck.reads j)

  clash : (b : Bool) → b ≡ true → b ≡ false → ⊥
  clash true e f = cc
  clash false e f = cc

  -- a half waits for a judgement on its socket
  half-waits : (j : ℕ) (x : SocketId) → AllByRecursion (IsOfHalf x) (items j) → place j < length (items j) →
      (count : ℕ) × (slice_get (items j) (place j) ≡ Some (Noted (entry.Wrote x count))) × (judged_at w.strands at x < total (handed_by x) (take (place j) (items j)))
  half-waits j x of l =
      let next = next-there (place j) (items j) l in
      by_kind next.0 next.1 (all-at (IsOfHalf x) (place j) (items j) next.0 of next.1) (waiting j next.0 l next.1)
    where
      by_kind : (i : StrandItem) → slice_get (items j) (place j) ≡ Some i → IsOfHalf x i → comes w at (strand_at w j) (place j) (Some i) ≡ false →
          (count : ℕ) × (slice_get (items j) (place j) ≡ Some (Noted (entry.Wrote x count))) × (judged_at w.strands at x < total (handed_by x) (take (place j) (items j)))
      by_kind (Noted (entry.Read k count)) e is h = absurd (clash _ (unread j k count e) h)
      by_kind (Noted (entry.Judged k ask number answer)) e is h = absurd is
      by_kind (Noted (entry.Wrote y count)) e is h =
          let same : y ≡ x = sym (same_equal x y is) in (
            count,
            subst (λ z. slice_get (items j) (place j) ≡ Some (Noted (entry.Wrote z count))) same e,
            subst (λ z. judged_at w.strands at z < total (handed_by z) (take (place j) (items j))) same (leb-false _ _ h),
          )
      by_kind (Noted _) e is h = absurd (clash true refl h)
      by_kind (Handed y) e is h = absurd (clash true refl h)

  -- a journal waits for an ask to be handed on
  journal-waits : (j : ℕ) → AllByRecursion IsOfJournal (items j) → place j < length (items j) →
      (k : SocketId) × (handed_at w.strands at k ≤ total (judged_by k) (take (place j) (items j))) × (total (judged_by k) (take (place j) (items j)) < total (judged_by k) (items j))
  journal-waits j of l =
      let next = next-there (place j) (items j) l in
      by_kind next.0 next.1 (all-at IsOfJournal (place j) (items j) next.0 of next.1) (waiting j next.0 l next.1)
    where
      by_kind : (i : StrandItem) → slice_get (items j) (place j) ≡ Some i → IsOfJournal i → comes w at (strand_at w j) (place j) (Some i) ≡ false →
          (k : SocketId) × (handed_at w.strands at k ≤ total (judged_by k) (take (place j) (items j))) × (total (judged_by k) (take (place j) (items j)) < total (judged_by k) (items j))
      by_kind (Noted (entry.Read k count)) e is h = absurd (clash _ (unread j k count e) h)
      by_kind (Noted (entry.Judged k ask number answer)) e is h =
          let one : judged_by k (Noted (entry.Judged k ask number answer)) ≡ 1 = ap (λ b. if b then 1 else 0) (same_refl k) in
          let more = total-more (judged_by k) (place j) (items j) (Noted (entry.Judged k ask number answer)) e in
          (k, ltb-false _ _ h, omega (arith, one, more, whole (judged_by k) (place j + 1) (items j)))
      by_kind (Noted (entry.Wrote k count)) e is h =
          let wants = leb-false (total (handed_by k) (take (place j) (items j))) (judged_at w.strands at k) h in
          absurd (omega (arith, wants, whole (handed_by k) (place j) (items j), none-handed k (items j) of))
      by_kind (Noted _) e is h = absurd (clash true refl h)
      by_kind (Handed y) e is h = absurd is

  -- the half for whose ask a journal waits would wait for that journal
  journal-done : (j : ℕ) → AllByRecursion IsOfJournal (items j) → place j < length (items j) → ⊥
  journal-done j of l =
      let mine = journal-waits j of l in
      let k = mine.0 in
      let less = some-less (handed_by k) w.strands at stuck.count (omega (arith, mine.1, mine.2, tidy.judged j k)) in
      at_half k mine.1 less.strand less.less (strand_at w less.strand).of_half refl (tidy-at w.strands less.strand tidy.strands)
    where
      at_half : (k : SocketId) → handed_at w.strands at k ≤ total (judged_by k) (take (place j) (items j)) → (h : ℕ) →
          total (handed_by k) (take (place h) (items h)) < total (handed_by k) (items h) → (b : Bool) → (strand_at w h).of_half ≡ b → IsTidyStrand (strand_at w h).of_half (items h) → ⊥
      at_half k more h less false e t = omega (arith, less, none-handed k (items h) (subst (λ b. IsTidyStrand b (items h)) e t))
      at_half k more h less true e t =
          let its = subst (λ b. IsTidyStrand b (items h)) e t in
          let same : k ≡ its.0 = handed-there k its.0 (items h) its.1 (omega (arith, less)) in
          let waits = (half-waits h its.0 its.1 (left (handed_by k) (place h) (items h) less)).2 in
          let there : judged_at w.strands at k < total (handed_by k) (take (place h) (items h)) =
          subst (λ z. judged_at w.strands at z < total (handed_by z) (take (place h) (items h))) (sym same) waits in
          omega (arith, there, more, part (handed_by k) w.strands at h stuck.count, part (judged_by k) w.strands at j stuck.count)

  half-done : (j : ℕ) (x : SocketId) → AllByRecursion (IsOfHalf x) (items j) → place j < length (items j) → ⊥
  half-done j x of l =
      let mine = half-waits j x of l in
      let answer = tidy.answered j (place j) mine.0 x mine.1 in
      let less = some-less (judged_by x) w.strands at stuck.count (omega (arith, mine.2, answer)) in
      at_journal less.strand less.less (strand_at w less.strand).of_half refl (tidy-at w.strands less.strand tidy.strands)
    where
      at_journal : (h : ℕ) → total (judged_by x) (take (place h) (items h)) < total (judged_by x) (items h) → (b : Bool) → (strand_at w h).of_half ≡ b →
          IsTidyStrand (strand_at w h).of_half (items h) → ⊥
      at_journal h less true e t =
          let its = subst (λ b. IsTidyStrand b (items h)) e t in
          omega (arith, less, none-judged x its.0 (items h) its.1)
      at_journal h less false e t = journal-done h (subst (λ b. IsTidyStrand b (items h)) e t) (left (judged_by x) (place h) (items h) less)

  -- so all strands are at their ends
  all-done : (j : ℕ) → place j < length (items j) → ⊥
  all-done j l = by_kind (strand_at w j).of_half refl (tidy-at w.strands j tidy.strands)
    where
      by_kind : (b : Bool) → (strand_at w j).of_half ≡ b → IsTidyStrand (strand_at w j).of_half (items j) → ⊥
      by_kind true e t = let its = subst (λ b. IsTidyStrand b (items j)) e t in half-done j its.0 its.1 l
      by_kind false e t = journal-done j (subst (λ b. IsTidyStrand b (items j)) e t) l

-- ---- the byte

-- no strand stands at a read that may not come
none-reads : (w : Woven) (at : Cut) (ss : List StrandNow) (places : Cut) (j : ℕ) → length places ≡ length ss → first_stop w at ss places ≡ None →
    unfit_next w at (slice_index_or ss j nothing_at_all) (slice_index places j) ≡ None
none-reads w at [] places j n e = refl
none-reads w at (s ∷ ss) [] j n e = absurd (omega (arith, n))
none-reads w at (s ∷ ss) (m ∷ places) j n e = by_first (unfit_next w at s m) refl (λ j. none-reads w at ss places j (omega (arith, n))) j e
  where
    by_first : (o : Option Unfit) → unfit_next w at s m ≡ o →
        ((j : ℕ) → first_stop w at ss places ≡ None → unfit_next w at (slice_index_or ss j nothing_at_all) (slice_index places j) ≡ None) →
        (j : ℕ) → or_else o (first_stop w at ss places) ≡ None → unfit_next w at (slice_index_or (s ∷ ss) j nothing_at_all) (slice_index (m ∷ places) j) ≡ None
    by_first (Some u) q later j e = absurd (cc)
    by_first None q later zero e = q
    by_first None q later (suc j) e = later j e

-- or one of them does
some-reads : (w : Woven) (at : Cut) (ss : List StrandNow) (places : Cut) (u : Unfit) → first_stop w at ss places ≡ Some u →
    (j : ℕ) × (unfit_next w at (slice_index_or ss j nothing_at_all) (slice_index places j) ≡ Some u)
some-reads w at [] places u e = absurd (cc)
some-reads w at (s ∷ ss) [] u e = absurd (cc)
some-reads w at (s ∷ ss) (m ∷ places) u e = by_first (unfit_next w at s m) refl (some-reads w at ss places u) e
  where
    by_first : (o : Option Unfit) → unfit_next w at s m ≡ o →
        (first_stop w at ss places ≡ Some u → (j : ℕ) × (unfit_next w at (slice_index_or ss j nothing_at_all) (slice_index places j) ≡ Some u)) →
        or_else o (first_stop w at ss places) ≡ Some u → (j : ℕ) × (unfit_next w at (slice_index_or (s ∷ ss) j nothing_at_all) (slice_index (m ∷ places) j) ≡ Some u)
    by_first (Some v) q later e = (0, q ∙ e)
    by_first None q later e = let more = later e in (suc more.0, more.1)

at-read : (w : Woven) (at : Cut) (u : Unfit) (j : ℕ) (i : Option StrandItem) → slice_get (strand_at w j).items (slice_index at j) ≡ i →
    unfit_item w at (strand_at w j) (slice_index at j) i ≡ Some u → IsAtRead w at (Some u)
at-read w at u j (Some (Noted (entry.Read k count))) e is = record {
  byte = u;
  named = refl;
  strand = j;
  socket = k;
  count = count;
  next = e;
  first = is_the_first (end_in (strand_at w j) k) (byte_at w at (other (end_in (strand_at w j) k))) (place_of w.strands (strand_at w j) (slice_index at j) k) _ u is;
}
at-read w at u j (Some (Noted _)) e is = absurd (cc)
at-read w at u j (Some (Handed k)) e is = absurd (cc)
at-read w at u j None e is = absurd (cc)

-- ---- the stop

-- cuts that differ differ at a strand
differ-at : (at all : Cut) → length at ≡ length all → ((j : ℕ) → slice_index all j ≤ slice_index at j) → ((j : ℕ) → slice_index at j ≤ slice_index all j) → at ≡ all
differ-at [] [] n low high = refl
differ-at [] (m ∷ all) n low high = absurd (omega (arith, n))
differ-at (m ∷ at) [] n low high = absurd (omega (arith, n))
differ-at (m ∷ at) (k ∷ all) n low high =
    let first : m ≡ k = omega (arith, low 0, high 0) in
    ap (λ x. x ∷ at) first ∙ ap (λ l. k ∷ l) (differ-at at all (omega (arith, n)) (λ j. low (suc j)) (λ j. high (suc j)))

pub size-at : (ss : List StrandNow) (j : ℕ) → slice_index (map (λ (s : StrandNow). length s.items) ss) j ≡ length (slice_index_or ss j nothing_at_all).items
size-at [] j = refl
size-at (s ∷ ss) zero = refl
size-at (s ∷ ss) (suc j) = size-at ss j

pub count-of : (ss : List StrandNow) → length (map (λ (s : StrandNow). length s.items) ss) ≡ length ss
count-of [] = refl
count-of (s ∷ ss) = ap suc (count-of ss)

pub stops_are_reads : TidyStopsAreReads
stops_are_reads w u tidy stop = by_byte (first_stop w at w.strands at) refl
  where
    at : Cut
    at = reached (sizes w) stop.order

    counted : length at ≡ length (sizes w)
    counted = reached-count (sizes w) stop.order

    among : length at ≡ length w.strands
    among = counted ∙ count-of w.strands

    most : AtMost at (sizes w)
    most =
        within (by_bytes w) (sizes w) (nothing (sizes w)) stop.order (begins (sizes w) (sizes w) refl)
        (are-lawful stop.rank (by_bytes w) (sizes w) (nothing (sizes w)) stop.order stop.greedy.each)

    by_byte : (o : Option Unfit) → first_stop w at w.strands at ≡ o → IsAtRead w at u
    by_byte (Some v) e =
        let its = some-reads w at w.strands at v e in
        subst (IsAtRead w at) (sym e ∙ stop.byte) (at-read w at v its.0 (slice_get (strand_at w its.0).items (slice_index at its.0)) refl its.1)
    by_byte None e =
        let waits : IsWaiting w at = record {
          count = among;
          waits = λ j l. not_true_is_false (by_bytes w at j) (λ met. stop.greedy.stuck j (record { more = omega (arith, l, size-at w.strands j); met = met }));
          reads = λ j. none-reads w at w.strands at j among e;
        } in
        absurd (stop.short (differ-at at (sizes w) counted
        (λ j. elim (below_or_not (slice_index at j) (slice_index (sizes w) j)) [
          | inl l ↦ absurd (all-done w at tidy waits j (omega (arith, l, size-at w.strands j)))
          | inr l ↦ l
        ])
        most.each))
