-- Strands counted item by item, and a greedy order by counters as one by bytes.
use Rattle.std.proofs.Common.{◌≡◌, ℕ, zero, suc, ◌+◌, ◌*◌, ◌<◌, ◌≤◌, Bool, true, false, List, [], ◌∷◌, ◌++◌, length, take, drop, map, not, refl, sym, ap, ◌∙◌, subst, arith, add-one, append_assoc}
use Rattle.std.specs.Prelude.{◌||◌, if◌then◌else◌, slice_get, slice_index, slice_index_or, All}
use Rattle.std.specs.List.{AllByRecursion}
use Rattle.std.proofs.lemmas.List.{length-map, drop_more, take_more, take_all}
use Rattle.m2_fabric.specs.declared.socket.SocketId.{SocketId}
use Rattle.m2_fabric.specs.Sockets.{is_among, same_socket}
use Rattle.m2_journal.specs.declared.entry.Entry.TheVariants as entry
use Rattle.m2_weave.specs.declared.counted.CountedEntry.{CountedEntry}
use Rattle.m2_weave.specs.declared.counted.CountedStrand.{CountedStrand}
use Rattle.m2_weave.specs.declared.counted.Need.TheVariants.{AtLeast}
use Rattle.m2_weave.specs.Order.{Cut, Rule, MayCome, AreNext, IsGreedy, come, nothing, reached}
use Rattle.m2_weave.specs.Counted.{Strands, entries_of}
use Rattle.m2_weave.specs.Users.{IsNeedWithin, IsWithin, AreWithin}
use Rattle.m2_weave.specs.declared.counts.Counts.{Counts}
use Rattle.m2_weave.specs.declared.strand.Strand.{Strand}
use Rattle.m2_weave.specs.declared.strand.StrandItem.{StrandItem}
use Rattle.m2_weave.specs.declared.strand.StrandItem.TheVariants.{Noted, Handed}
use Rattle.m2_weave.specs.declared.table.SocketBytes.{SocketBytes}
use Rattle.m2_weave.specs.Strands.{EndOf, StrandNow, strand_now, end_in, handed_by, has_opened, judged_by, place_of, read_by}
use Rattle.m2_weave.specs.Rule.{Woven, nothing_at_all, strand_at}
use Rattle.m2_weave.specs.Counting.{AreNamed, IsNamed, bytes_need, counted, counted_item, counted_items, fit_need, hands, judges, place_in, side_number, writes}
use Rattle.m2_weave.specs.Table.{got_at, lengths_of, names_of, woven_of}
use Rattle.m2_weave.specs.Stops.{sizes}
use Rattle.m2_weave.specs.Tally.{CountsAre, IsCounted, end_at, from_at, item_by, number_at}
use Rattle.m2_weave.proofs.Tallies.{names_count, total_more}
use Rattle.m2_weave.proofs.Counting.{named-strand}

-- ---- an item as it is counted

end-is : (sockets : List SocketBytes) (w : Woven) (s : StrandNow) (n : ℕ) (c : Counts) (k : SocketId) → CountsAre sockets w s n c → is_among k (names_of sockets) ≡ true →
    end_at sockets c k ≡ end_in s k
end-is sockets w s n c k are among = ap (λ b. let e : EndOf = record { socket = k; opener = b } in e) (are.opened k among)

from-at : (b d f g : Bool) (m r x y p : ℕ) → b ≡ d → f ≡ g → m ≡ r → x ≡ y → (if b || f then 0 else m) + x ≡ (if d || g then 0 else r) + y
from-at true true f g m r x y p e h i j = omega (arith, j)
from-at true false f g m r x y p e h i j = absurd (cc)
from-at false true f g m r x y p e h i j = absurd (cc)
from-at false false true true m r x y p e h i j = omega (arith, j)
from-at false false true false m r x y p e h i j = absurd (cc)
from-at false false false true m r x y p e h i j = absurd (cc)
from-at false false false false m r x y p e h i j = omega (arith, i, j)

from-is : (sockets : List SocketBytes) (w : Woven) (s : StrandNow) (n : ℕ) (c : Counts) (k : SocketId) → CountsAre sockets w s n c → is_among k (names_of sockets) ≡ true →
    from_at sockets c k ≡ place_of w.strands s n k
from-is sockets w s n c k are among = from-at c.of_half s.of_half _ _ _ _ _ _ 0 are.of_half (are.opened k among) (are.halves k among) (are.reads k among)

pub item_is : (strands : List Strand) (sockets : List SocketBytes) (s : StrandNow) (n : ℕ) (c : Counts) (i : StrandItem) →
    CountsAre sockets (woven_of strands sockets) s n c → IsNamed (names_of sockets) i →
    item_by sockets c i ≡ counted_item (names_of sockets) (woven_of strands sockets) s n i
item_is strands sockets s n c (Noted (entry.Read k count)) are named =
    let w = woven_of strands sockets in
    let need : EndOf → ℕ → CountedEntry = λ e p. record {
      need = bytes_need (names_of sockets) w e p (take count (drop p (got_at (slice_get sockets (place_in (names_of sockets) k)) e.opener)));
      counter = 0;
      amount = 0;
    } in
    ap (λ e. need e (from_at sockets c k)) (end-is sockets w s n c k are named)
    ∙ ap (λ p. need (end_in s k) p) (from-is sockets w s n c k are named)
item_is strands sockets s n c (Noted (entry.Wrote k count)) are named =
    let w = woven_of strands sockets in
    let item : EndOf → ℕ → CountedEntry = λ e h. record { need = AtLeast (judges (names_of sockets) k) h; counter = writes (names_of sockets) e; amount = count } in
    ap (λ e. item e (number_at sockets c.handed.items k)) (end-is sockets w s n c k are named)
    ∙ ap (λ h. item (end_in s k) h) (are.handed k named)
item_is strands sockets s n c (Noted (entry.Judged k ask number answer)) are named =
    let item : ℕ → CountedEntry = λ j. record { need = AtLeast (hands (names_of sockets) k) (j + 1); counter = judges (names_of sockets) k; amount = 1 } in
    ap item (are.judged k named)
item_is strands sockets s n c (Noted _) are named = refl
item_is strands sockets s n c (Handed k) are named = refl

-- the counts behind it
pub counts_on : (sockets : List SocketBytes) (w : Woven) (s : StrandNow) (n : ℕ) (c next : Counts) (d : StrandItem) (e : CountedEntry) → n < length s.items →
    CountsAre sockets w s n c → IsCounted sockets (slice_index_or s.items n d) c next e → CountsAre sockets w s (n + 1) next
counts_on sockets w s n c next d e h are one = record {
  sizes = one.sizes;
  of_half = one.of_half ∙ are.of_half;
  halves = λ k among. ap (λ (fs : Counts). slice_index fs.halves.items (place_in (names_of sockets) k)) (ap (λ o. record next { halves = o }) one.halves) ∙ are.halves k among;
  opened = λ k among. ap (λ (fs : Counts). slice_index_or fs.opened.items (place_in (names_of sockets) k) false) (ap (λ o. record next { opened = o }) one.opened) ∙ are.opened k among;
  reads = λ k among. omega (arith, one.reads k among, are.reads k among, total_more (read_by k) n s.items d h);
  handed = λ k among. omega (arith, one.handed k among, are.handed k among, total_more (handed_by k) n s.items d h);
  judged = λ k among. omega (arith, one.judged k among, are.judged k among, total_more (judged_by k) n s.items d h);
}

-- ---- all items of a strand

pub items_more : (names : List SocketId) (w : Woven) (s : StrandNow) (n : ℕ) (is : List StrandItem) (d : StrandItem) (es : List CountedEntry) (e : CountedEntry) →
    n < length is → e ≡ counted_item names w s n (slice_index_or is n d) → es ++ counted_items names w s n (drop n is) ≡ counted_items names w s 0 is →
    (es ++ e ∷ []) ++ counted_items names w s (n + 1) (drop (n + 1) is) ≡ counted_items names w s 0 is
items_more names w s n is d es e h this before =
    append_assoc es (e ∷ []) (counted_items names w s (n + 1) (drop (n + 1) is))
    ∙ ap (λ x. es ++ x ∷ counted_items names w s (n + 1) (drop (n + 1) is)) this
    ∙ ap (λ m. es ++ counted_item names w s n (slice_index_or is n d) ∷ counted_items names w s m (drop (n + 1) is)) (add-one n)
    ∙ ap (λ l. es ++ counted_items names w s n l) (sym (drop_more is n d h)) ∙ before

strand-get : (strands : List Strand) (k : ℕ) (s : Strand) → k < length strands → s ≡ slice_index_or strands k s →
    slice_index_or (map strand_now strands) k nothing_at_all ≡ strand_now s
strand-get [] k s h e = absurd (omega (arith, h))
strand-get (x ∷ strands) zero s h e = ap strand_now (sym e)
strand-get (x ∷ strands) (suc k) s h e = strand-get strands k s (omega (arith, h)) e

pub strand_is : (strands : List Strand) (sockets : List SocketBytes) (k : ℕ) (s : Strand) → k < length strands → s ≡ slice_index_or strands k s →
    strand_at (woven_of strands sockets) k ≡ strand_now s
strand_is strands sockets k s h e = strand-get strands k s h e

named-get : (names : List SocketId) (is : List StrandItem) (n : ℕ) (d : StrandItem) → AllByRecursion (IsNamed names) is → n < length is → IsNamed names (slice_index_or is n d)
named-get names [] n d h l = absurd (omega (arith, l))
named-get names (x ∷ is) zero d h l = h.0
named-get names (x ∷ is) (suc n) d h l = named-get names is n d h.1 (omega (arith, l))

pub item_named : (strands : List Strand) (sockets : List SocketBytes) (k n : ℕ) (d : StrandItem) → AreNamed (names_of sockets) (woven_of strands sockets) →
    n < length (strand_at (woven_of strands sockets) k).items →
    IsNamed (names_of sockets) (slice_index_or (strand_at (woven_of strands sockets) k).items n d)
item_named strands sockets k n d named h =
    named-get (names_of sockets) (strand_at (woven_of strands sockets) k).items n d (named-strand (names_of sockets) (map strand_now strands) k named) h

-- ---- all strands

counted-get : (names : List SocketId) (w : Woven) (ss : List StrandNow) (k : ℕ) (d : List CountedEntry) → k < length ss →
    slice_index_or (map (λ (s : StrandNow). counted_items names w s 0 s.items) ss) k d
    ≡ counted_items names w (slice_index_or ss k nothing_at_all) 0 (slice_index_or ss k nothing_at_all).items
counted-get names w [] k d h = absurd (omega (arith, h))
counted-get names w (s ∷ ss) zero d h = refl
counted-get names w (s ∷ ss) (suc k) d h = counted-get names w ss k d (omega (arith, h))

entries-append : (xs : List CountedStrand) (x : CountedStrand) → entries_of (xs ++ x ∷ []) ≡ entries_of xs ++ x.entries.items ∷ []
entries-append [] x = refl
entries-append (y ∷ xs) x = ap (λ l. y.entries.items ∷ l) (entries-append xs x)

pub all_more : (strands : List Strand) (sockets : List SocketBytes) (k : ℕ) (xs : List CountedStrand) (x : CountedStrand) → k < length strands →
    x.entries.items ≡ counted_items (names_of sockets) (woven_of strands sockets) (strand_at (woven_of strands sockets) k) 0 (strand_at (woven_of strands sockets) k).items →
    entries_of xs ≡ take k (counted (names_of sockets) (woven_of strands sockets)) →
    entries_of (xs ++ x ∷ []) ≡ take (k + 1) (counted (names_of sockets) (woven_of strands sockets))
all_more strands sockets k xs x h this before =
    let w = woven_of strands sockets in
    let names = names_of sockets in
    let count : length (map strand_now strands) ≡ length strands = length-map strands strand_now in
    let all : length (counted names w) ≡ length (map strand_now strands) = length-map (map strand_now strands) (λ (s : StrandNow). counted_items names w s 0 s.items) in
    entries-append xs x
    ∙ ap (λ l. l ++ x.entries.items ∷ []) before
    ∙ ap (λ l. take k (counted names w) ++ l ∷ []) (this ∙ sym (counted-get names w (map strand_now strands) k [] (omega (arith, h, count))))
    ∙ sym (take_more (counted names w) k [] (omega (arith, h, count, all)))

-- ---- counters that are there

most-place : (names : List SocketId) (k : SocketId) → place_in names k ≤ length names
most-place [] k = omega arith
most-place (x ∷ names) k = at (same_socket k x) (most-place names k)
  where
    at : (b : Bool) → place_in names k ≤ length names → (if b then 0 else suc (place_in names k)) ≤ suc (length names)
    at true h = omega arith
    at false h = omega (arith, h)

side-most : (b : Bool) → side_number b ≤ 1
side-most true = omega arith
side-most false = omega arith

fit-within : (n : ℕ) (b : Bool) (c p : ℕ) (xs : List ℕ) → c < n → IsNeedWithin n (fit_need b c p xs)
fit-within n true c p [] h = tt
fit-within n true c p (x ∷ xs) h = h
fit-within n false c p xs h = tt

item-within : (names : List SocketId) (w : Woven) (s : StrandNow) (n : ℕ) (i : StrandItem) → IsWithin (4 * length names + 4) (counted_item names w s n i)
item-within names w s n (Noted (entry.Read k count)) = record {
  need = fit-within _ _ _ _ _ (omega (arith, most-place names k, side-most (not (has_opened s k))));
  counter = omega arith;
}
item-within names w s n (Noted (entry.Wrote k count)) = record {
  need = omega (arith, most-place names k);
  counter = omega (arith, most-place names k, side-most (has_opened s k));
}
item-within names w s n (Noted (entry.Judged k ask number answer)) = record {
  need = omega (arith, most-place names k);
  counter = omega (arith, most-place names k);
}
item-within names w s n (Noted _) = record { need = tt; counter = omega arith }
item-within names w s n (Handed k) = record { need = tt; counter = omega (arith, most-place names k) }

items-within : (names : List SocketId) (w : Woven) (s : StrandNow) (n : ℕ) (is : List StrandItem) → All (IsWithin (4 * length names + 4)) (counted_items names w s n is)
items-within names w s n [] k d h = absurd (omega (arith, h))
items-within names w s n (i ∷ is) zero d h = item-within names w s n i
items-within names w s n (i ∷ is) (suc k) d h = items-within names w s (suc n) is k d (omega (arith, h))

strands-within : (names : List SocketId) (w : Woven) (ss : List StrandNow) →
    AreWithin (4 * length names + 4) (map (λ (s : StrandNow). counted_items names w s 0 s.items) ss)
strands-within names w [] k d h = absurd (omega (arith, h))
strands-within names w (s ∷ ss) zero d h = items-within names w s 0 s.items
strands-within names w (s ∷ ss) (suc k) d h = strands-within names w ss k d (omega (arith, h))

pub counters_are_there : (sockets : List SocketBytes) (w : Woven) (es : Strands) (n : ℕ) → es ≡ counted (names_of sockets) w → n ≡ 4 * length sockets + 4 → AreWithin n es
counters_are_there sockets w es n e count =
    let same : 4 * length (names_of sockets) + 4 ≡ n = omega (arith, names_count sockets, count) in
    subst (λ m. AreWithin m es) same (subst (λ l. AreWithin (4 * length (names_of sockets) + 4) l) (sym e) (strands-within (names_of sockets) w w.strands))

-- ---- the same rule

may-same : (r q : Rule) (all at : Cut) (k : ℕ) → ((at : Cut) (k : ℕ) → r at k ≡ q at k) → MayCome r all at k → MayCome q all at k
may-same r q all at k same m = record { more = m.more; met = sym (same at k) ∙ m.met }

next-same : (rank : ℕ → ℕ) (r q : Rule) (all at : Cut) (order : List ℕ) → ((at : Cut) (k : ℕ) → r at k ≡ q at k) → AreNext rank r all at order → AreNext rank q all at order
next-same rank r q all at [] same n = tt
next-same rank r q all at (k ∷ order) same (n, rest) = (
  record { may = may-same r q all at k same n.may; first = λ j h m. n.first j h (may-same q r all at j (λ a i. sym (same a i)) m) },
  next-same rank r q all (come k at) order same rest,
)

greedy-same : (rank : ℕ → ℕ) (r q : Rule) (all : Cut) (order : List ℕ) → ((at : Cut) (k : ℕ) → r at k ≡ q at k) → IsGreedy rank r all order → IsGreedy rank q all order
greedy-same rank r q all order same g = record {
  each = next-same rank r q all (nothing all) order same g.each;
  stuck = λ k m. g.stuck k (may-same q r all (reached all order) k (λ a i. sym (same a i)) m);
}

pub greedy_by : (rank : ℕ → ℕ) (r q : Rule) (all cut : Cut) (order : List ℕ) → ((at : Cut) (k : ℕ) → r at k ≡ q at k) → all ≡ cut → IsGreedy rank r all order → IsGreedy rank q cut order
greedy_by rank r q all cut order same sizes g = subst (λ c. IsGreedy rank q c order) sizes (greedy-same rank r q all order same g)

-- ---- one item more of a strand

-- the item that is counted
pub counts_next : (strands : List Strand) (sockets : List SocketBytes) (k n : ℕ) (c next : Counts) (d : StrandItem) (e : CountedEntry) (is : List StrandItem) →
    (strand_at (woven_of strands sockets) k).items ≡ is → n < length is →
    CountsAre sockets (woven_of strands sockets) (strand_at (woven_of strands sockets) k) n c → IsCounted sockets (slice_index_or is n d) c next e →
    CountsAre sockets (woven_of strands sockets) (strand_at (woven_of strands sockets) k) (n + 1) next
counts_next strands sockets k n c next d e is same h are one =
    counts_on sockets (woven_of strands sockets) (strand_at (woven_of strands sockets) k) n c next d e (subst (λ xs. n < length xs) (sym same) h) are
    (subst (λ xs. IsCounted sockets (slice_index_or xs n d) c next e) (sym same) one)

pub entries_next : (strands : List Strand) (sockets : List SocketBytes) (k n : ℕ) (c next : Counts) (d : StrandItem) (e : CountedEntry) (is : List StrandItem)
    (old new : List CountedEntry) → (strand_at (woven_of strands sockets) k).items ≡ is → n < length is → AreNamed (names_of sockets) (woven_of strands sockets) →
    CountsAre sockets (woven_of strands sockets) (strand_at (woven_of strands sockets) k) n c → IsCounted sockets (slice_index_or is n d) c next e →
    new ≡ old ++ e ∷ [] →
    old ++ counted_items (names_of sockets) (woven_of strands sockets) (strand_at (woven_of strands sockets) k) n
    (drop n (strand_at (woven_of strands sockets) k).items)
    ≡ counted_items (names_of sockets) (woven_of strands sockets) (strand_at (woven_of strands sockets) k) 0 (strand_at (woven_of strands sockets) k).items →
    new ++ counted_items (names_of sockets) (woven_of strands sockets) (strand_at (woven_of strands sockets) k) (n + 1)
    (drop (n + 1) (strand_at (woven_of strands sockets) k).items)
    ≡ counted_items (names_of sockets) (woven_of strands sockets) (strand_at (woven_of strands sockets) k) 0 (strand_at (woven_of strands sockets) k).items
entries_next strands sockets k n c next d e is old new same h named are one grown before =
    let w = woven_of strands sockets in
    let s = strand_at w k in
    let within : n < length s.items = subst (λ xs. n < length xs) (sym same) h in
    let counted_so : IsCounted sockets (slice_index_or s.items n d) c next e = subst (λ xs. IsCounted sockets (slice_index_or xs n d) c next e) (sym same) one in
    let this : e ≡ counted_item (names_of sockets) w s n (slice_index_or s.items n d) =
    counted_so.entry ∙ item_is strands sockets s n c (slice_index_or s.items n d) are (item_named strands sockets k n d named within) in
    ap (λ l. l ++ counted_items (names_of sockets) w s (n + 1) (drop (n + 1) s.items)) grown
    ∙ items_more (names_of sockets) w s n s.items d old e within this before

pub all_counted : (strands : List Strand) (sockets : List SocketBytes) (k : ℕ) (es : Strands) → length strands ≤ k →
    es ≡ take k (counted (names_of sockets) (woven_of strands sockets)) → es ≡ counted (names_of sockets) (woven_of strands sockets)
all_counted strands sockets k es h e =
    let w = woven_of strands sockets in
    let names = names_of sockets in
    let count : length (map strand_now strands) ≡ length strands = length-map strands strand_now in
    let all : length (counted names w) ≡ length (map strand_now strands) = length-map (map strand_now strands) (λ (s : StrandNow). counted_items names w s 0 s.items) in
    e ∙ take_all k (counted names w) (omega (arith, h, count, all))

-- ---- all of them

pub lengths_are : (strands : List Strand) (sockets : List SocketBytes) → lengths_of strands ≡ sizes (woven_of strands sockets)
lengths_are [] sockets = refl
lengths_are (s ∷ strands) sockets = ap (λ ns. length (strand_now s).items ∷ ns) (lengths_are strands sockets)

pub lengths_count : (strands : List Strand) → length (lengths_of strands) ≡ length strands
lengths_count strands = length-map strands (λ (s : Strand). length (strand_now s).items)

pub length_get : (strands : List Strand) (k : ℕ) (s : Strand) → k < length strands → s ≡ slice_index_or strands k s → slice_index (lengths_of strands) k ≡ length (strand_now s).items
length_get [] k s h e = absurd (omega (arith, h))
length_get (x ∷ strands) zero s h e = ap (λ (y : Strand). length (strand_now y).items) (sym e)
length_get (x ∷ strands) (suc k) s h e = length_get strands k s (omega (arith, h)) e

-- ---- names, an item at a time

pub all_get : {X : Type 0} (P : X → Type 0) (xs : List X) (n : ℕ) (d : X) → n < length xs → AllByRecursion P xs → P (slice_index_or xs n d)
all_get P [] n d h all = absurd (omega (arith, h))
all_get P (x ∷ xs) zero d h all = all.0
all_get P (x ∷ xs) (suc n) d h all = all_get P xs n d (omega (arith, h)) all.1
