-- Counters say the same as the bytes.
use Rattle.std.proofs.Common.{◌≡◌, ℕ, zero, suc, ◌+◌, true, List, [], ◌∷◌, length, take, map, refl, sym, ap, ◌∙◌, subst, arith, add-one, Option, Some, None}
use Rattle.std.specs.Prelude.{◌==◌, nat_le, nat_lt, slice_get, slice_index, slice_index_or}
use Rattle.std.specs.List.{AllByRecursion}
use Rattle.std.specs.Option.{option_map}
use Rattle.m2_fabric.specs.declared.socket.SocketId.{SocketId}
use Rattle.m2_fabric.specs.Sockets.{is_among}
use Rattle.m2_journal.specs.declared.entry.Entry.TheVariants as entry
use Rattle.m2_weave.specs.Order.{Cut}
use Rattle.m2_weave.specs.Counted.{adds, sum_added, value_at, is_met, may_come, next_of, by_counters, lengths}
use Rattle.m2_weave.specs.declared.strand.StrandItem.{StrandItem}
use Rattle.m2_weave.specs.declared.strand.StrandItem.TheVariants.{Noted, Handed}
use Rattle.m2_weave.specs.Strands.{EndOf, StrandNow, other, end_in, has_opened, same_side, written_in, written_at, handed_by, handed_at, judged_by, judged_at, total, total_at, place_of}
use Rattle.m2_weave.specs.Rule.{Woven, by_bytes, comes, strand_at, nothing_at_all}
use Rattle.m2_weave.specs.Counting.{place_in, writes, hands, judges, counted_item, counted_items, counted, IsNamed, AreNamed}
use Rattle.m2_weave.specs.WeaveLaws.{CountersDecide}
use Rattle.m2_weave.proofs.Fitting.{fits_by_count}
use Rattle.m2_bytes.proofs.m2_lemmas.Numbers.{zero_if}
use Rattle.m2_weave.proofs.Numbering.{wrote_adds, counts_add, side_hand, side_judge, hand_side, judge_side, hand_judge, judge_hand}

-- ---- what an item adds

adds-written : (names : List SocketId) (w : Woven) (e : EndOf) → is_among e.socket names ≡ true → (s : StrandNow) (n : ℕ) (i : StrandItem) →
    adds (writes names e) (counted_item names w s n i) ≡ written_in e s i
adds-written names w e among s n (Noted (entry.Wrote k count)) = wrote_adds names s e k count among
adds-written names w e among s n (Noted (entry.Judged k ask number answer)) =
    judge_side (place_in names k) (place_in names e.socket) 1 e.opener ∙ sym (zero_if (same_side (has_opened s e.socket) e.opener))
adds-written names w e among s n (Noted _) = zero_if (0 == writes names e) ∙ sym (zero_if (same_side (has_opened s e.socket) e.opener))
adds-written names w e among s n (Handed k) =
    hand_side (place_in names k) (place_in names e.socket) 1 e.opener ∙ sym (zero_if (same_side (has_opened s e.socket) e.opener))

adds-handed : (names : List SocketId) (w : Woven) (x : SocketId) → is_among x names ≡ true → (s : StrandNow) (n : ℕ) (i : StrandItem) →
    adds (hands names x) (counted_item names w s n i) ≡ handed_by x i
adds-handed names w x among s n (Noted (entry.Wrote k count)) = side_hand (place_in names k) (place_in names x) count (has_opened s k)
adds-handed names w x among s n (Noted (entry.Judged k ask number answer)) = judge_hand (place_in names k) (place_in names x) 1
adds-handed names w x among s n (Noted _) = zero_if (0 == hands names x)
adds-handed names w x among s n (Handed k) = counts_add names k x 2 1 among

adds-judged : (names : List SocketId) (w : Woven) (x : SocketId) → is_among x names ≡ true → (s : StrandNow) (n : ℕ) (i : StrandItem) →
    adds (judges names x) (counted_item names w s n i) ≡ judged_by x i
adds-judged names w x among s n (Noted (entry.Wrote k count)) = side_judge (place_in names k) (place_in names x) count (has_opened s k)
adds-judged names w x among s n (Noted (entry.Judged k ask number answer)) = counts_add names k x 3 1 among
adds-judged names w x among s n (Noted _) = zero_if (0 == judges names x)
adds-judged names w x among s n (Handed k) = hand_judge (place_in names k) (place_in names x) 1

-- ---- what counters stand at

sum-is : (names : List SocketId) (w : Woven) (c : ℕ) (s : StrandNow) (f : StrandItem → ℕ) → ((n : ℕ) (i : StrandItem) → adds c (counted_item names w s n i) ≡ f i) →
    (m n : ℕ) (is : List StrandItem) → sum_added c (take m (counted_items names w s n is)) ≡ total f (take m is)
sum-is names w c s f each zero n is = refl
sum-is names w c s f each (suc m) n [] = refl
sum-is names w c s f each (suc m) n (i ∷ is) = omega (arith, each n i, sum-is names w c s f each m (suc n) is)

value-is : (names : List SocketId) (w : Woven) (c : ℕ) (f : StrandNow → StrandItem → ℕ) →
    ((s : StrandNow) (n : ℕ) (i : StrandItem) → adds c (counted_item names w s n i) ≡ f s i) → (ss : List StrandNow) (at : Cut) →
    value_at (map (λ (s : StrandNow). counted_items names w s 0 s.items) ss) at c ≡ total_at f ss at
value-is names w c f each [] at = refl
value-is names w c f each (s ∷ ss) [] = refl
value-is names w c f each (s ∷ ss) (n ∷ at) = omega (arith, sum-is names w c s (f s) (each s) n 0 s.items, value-is names w c f each ss at)

written-is : (names : List SocketId) (w : Woven) (at : Cut) (e : EndOf) → is_among e.socket names ≡ true →
    value_at (counted names w) at (writes names e) ≡ written_at w.strands at e
written-is names w at e among = value-is names w (writes names e) (written_in e) (adds-written names w e among) w.strands at

handed-is : (names : List SocketId) (w : Woven) (at : Cut) (x : SocketId) → is_among x names ≡ true →
    value_at (counted names w) at (hands names x) ≡ handed_at w.strands at x
handed-is names w at x among = value-is names w (hands names x) (λ s i. handed_by x i) (adds-handed names w x among) w.strands at

judged-is : (names : List SocketId) (w : Woven) (at : Cut) (x : SocketId) → is_among x names ≡ true →
    value_at (counted names w) at (judges names x) ≡ judged_at w.strands at x
judged-is names w at x among = value-is names w (judges names x) (λ s i. judged_by x i) (adds-judged names w x among) w.strands at

-- ---- one item

least-below : (j v : ℕ) → nat_le (j + 1) v ≡ nat_lt j v
least-below j v = ap (λ m. nat_le m v) (add-one j)

item-met : (names : List SocketId) (w : Woven) (at : Cut) (s : StrandNow) (n : ℕ) (i : StrandItem) → IsNamed names i →
    is_met (counted_item names w s n i).need (value_at (counted names w) at) ≡ comes w at s n (Some i)
item-met names w at s n (Noted (entry.Read k count)) named =
    fits_by_count (end_in s k) (w.bytes.put (other (end_in s k))) (writes names (other (end_in s k))) (place_of w.strands s n k) _
    (value_at (counted names w) at) (written_at w.strands at (other (end_in s k))) (written-is names w at (other (end_in s k)) named)
item-met names w at s n (Noted (entry.Wrote k count)) named = ap (λ v. nat_le (total (handed_by k) (take n s.items)) v) (judged-is names w at k named)
item-met names w at s n (Noted (entry.Judged k ask number answer)) named =
    least-below (total (judged_by k) (take n s.items)) (value_at (counted names w) at (hands names k))
    ∙ ap (λ v. nat_lt (total (judged_by k) (take n s.items)) v) (handed-is names w at k named)
item-met names w at s n (Noted _) named = refl
item-met names w at s n (Handed k) named = refl

-- ---- the next item

items-get : (names : List SocketId) (w : Woven) (s : StrandNow) (m n : ℕ) (is : List StrandItem) →
    slice_get (counted_items names w s m is) n ≡ option_map (counted_item names w s (m + n)) (slice_get is n)
items-get names w s m n [] = refl
items-get names w s m zero (i ∷ is) = let same : m ≡ m + 0 = omega arith in ap (λ x. Some (counted_item names w s x i)) same
items-get names w s m (suc n) (i ∷ is) =
    let same : suc m + n ≡ m + suc n = omega arith in
    items-get names w s (suc m) n is ∙ ap (λ x. option_map (counted_item names w s x) (slice_get is n)) same

strand-get : (names : List SocketId) (w : Woven) (ss : List StrandNow) (k : ℕ) →
    slice_index_or (map (λ (s : StrandNow). counted_items names w s 0 s.items) ss) k []
    ≡ counted_items names w (slice_index_or ss k nothing_at_all) 0 (slice_index_or ss k nothing_at_all).items
strand-get names w [] k = refl
strand-get names w (s ∷ ss) zero = refl
strand-get names w (s ∷ ss) (suc k) = strand-get names w ss k

next-is : (names : List SocketId) (w : Woven) (at : Cut) (k : ℕ) →
    next_of (counted names w) at k ≡ option_map (counted_item names w (strand_at w k) (slice_index at k)) (slice_get (strand_at w k).items (slice_index at k))
next-is names w at k =
    let s = strand_at w k in
    let same : 0 + slice_index at k ≡ slice_index at k = omega arith in
    ap (λ es. slice_get es (slice_index at k)) (strand-get names w w.strands k)
    ∙ items-get names w s 0 (slice_index at k) s.items
    ∙ ap (λ x. option_map (counted_item names w s x) (slice_get s.items (slice_index at k))) same

pub named-at : (names : List SocketId) (is : List StrandItem) (n : ℕ) (i : StrandItem) → AllByRecursion (IsNamed names) is → slice_get is n ≡ Some i → IsNamed names i
named-at names [] n i h e = absurd (cc)
named-at names (x ∷ is) zero i h e = let same : x ≡ i = cc in subst (IsNamed names) same h.0
named-at names (x ∷ is) (suc n) i h e = named-at names is n i h.1 e

pub named-strand : (names : List SocketId) (ss : List StrandNow) (k : ℕ) → AllByRecursion (λ (s : StrandNow). AllByRecursion (IsNamed names) s.items) ss →
    AllByRecursion (IsNamed names) (slice_index_or ss k nothing_at_all).items
named-strand names [] k h = tt
named-strand names (s ∷ ss) zero h = h.0
named-strand names (s ∷ ss) (suc k) h = named-strand names ss k h.1

comes-so : (names : List SocketId) (w : Woven) (at : Cut) (s : StrandNow) (n : ℕ) (i : Option StrandItem) → ((x : StrandItem) → i ≡ Some x → IsNamed names x) →
    may_come (option_map (counted_item names w s n) i) (value_at (counted names w) at) ≡ comes w at s n i
comes-so names w at s n (Some i) named = item-met names w at s n i (named i refl)
comes-so names w at s n None named = refl

rule-is : (names : List SocketId) (w : Woven) → AreNamed names w → (at : Cut) (k : ℕ) → by_counters (counted names w) at k ≡ by_bytes w at k
rule-is names w named at k =
    ap (λ x. may_come x (value_at (counted names w) at)) (next-is names w at k)
    ∙ comes-so names w at (strand_at w k) (slice_index at k) (slice_get (strand_at w k).items (slice_index at k))
    (λ x e. named-at names (strand_at w k).items (slice_index at k) x (named-strand names w.strands k named) e)

-- ---- sizes

length-is : (names : List SocketId) (w : Woven) (s : StrandNow) (n : ℕ) (is : List StrandItem) → length (counted_items names w s n is) ≡ length is
length-is names w s n [] = refl
length-is names w s n (i ∷ is) = ap suc (length-is names w s (suc n) is)

sizes-are : (names : List SocketId) (w : Woven) (ss : List StrandNow) →
    lengths (map (λ (s : StrandNow). counted_items names w s 0 s.items) ss) ≡ map (λ (s : StrandNow). length s.items) ss
sizes-are names w [] = refl
sizes-are names w (s ∷ ss) =
    ap (λ n. n ∷ lengths (map (λ (s : StrandNow). counted_items names w s 0 s.items) ss)) (length-is names w s 0 s.items)
    ∙ ap (λ ns. length s.items ∷ ns) (sizes-are names w ss)

pub decide : CountersDecide
decide = record { rule = rule-is; sizes = λ names w. sizes-are names w w.strands }
