-- The strand of a trail has its entries in order, and hands on each ask behind the entries that were there when it was judged.
use Rattle.std.proofs.Common.{◌≡◌, ℕ, zero, suc, ◌+◌, ◌≤◌, ◌<◌, if◌then◌else◌, ◌⊎◌, inl, inr, List, [], ◌∷◌, length, map, take, slice_get, slice_index, Option, Some, None, refl, sym, ap, ◌∙◌, subst, arith}
use Rattle.std.specs.List.{AllByRecursion}
use Rattle.std.proofs.lemmas.Bool.{cases_lt, le-ltb, lt-ltb}
use Rattle.std.proofs.lemmas.Option.{same_Some}
use Rattle.m2_fabric.specs.declared.socket.SocketId.{SocketId}
use Rattle.m2_fabric.specs.Sockets.{same_socket}
use Rattle.m2_bytes_fit.specs.Trails.{IsWrote}
use Rattle.m2_journal.specs.declared.entry.Entry.{Entry}
use Rattle.m2_journal.specs.declared.entry.Entry.TheVariants as entry
use Rattle.m2_weave.specs.Order.{Cut}
use Rattle.m2_trail.specs.Trails.{TrailNow, RisesWithin, how_many_below, judged_by}
use Rattle.m2_trail.proofs.Judged.{least_first}
use Rattle.m2_weave.specs.declared.strand.StrandItem.{StrandItem}
use Rattle.m2_weave.specs.declared.strand.StrandItem.TheVariants.{Noted, Handed}
use Rattle.m2_weave.specs.Rule.{Woven}
use Rattle.m2_weave.specs.Strands.{half_items, handed_by, judged_at, total}
use Rattle.m2_history.specs.HalfStrands.{noted_in, strand_of, WritesOn, IsTidy, IsWovenTo, IsOrdered, OrdersGivePoints}
use Rattle.m2_weave.proofs.Items.{handed_now, noted_before}
use Rattle.m2_fabric.proofs.Sockets.{same_refl}

-- ---- the strand as a path

-- Items that are these entries, behind so many others, and hand on an ask behind each of these numbers of entries.
abbrev IsPath : SocketId → List StrandItem → List Entry → List ℕ → (place : ℕ) → Type 0
IsPath k [] es ns place = (es ≡ []) × (ns ≡ [])
IsPath k (Noted e ∷ is) es ns place = (rest : List Entry) × (es ≡ e ∷ rest) × (how_many_below (suc place) ns ≡ 0) × IsPath k is rest ns (suc place)
IsPath k (Handed socket ∷ is) es ns place = (socket ≡ k) × ((n : ℕ) × (rest : List ℕ) × (ns ≡ n ∷ rest) × (n ≤ place) × IsPath k is es rest place)

no_more_asks : (k : SocketId) (es : List Entry) (place : ℕ) → IsPath k (map Noted es) es [] place
no_more_asks k [] place = (refl, refl)
no_more_asks k (e ∷ es) place = (es, refl, refl, no_more_asks k es (suc place))

not_yet : (n place : ℕ) (ns : List ℕ) → place < n → how_many_below (suc place) (n ∷ ns) ≡ 0
not_yet n place ns h = ap (λ b. if b then suc (how_many_below (suc place) ns) else 0) (le-ltb n (suc place) (omega (arith, h)))

-- an ask that was judged behind as many entries as have come
asked_here : (k : SocketId) (n : ℕ) (ns : List ℕ) (es : List Entry) (place : ℕ) → n ≡ place → RisesWithin n ns (place + length es) →
    (RisesWithin place ns (place + length es) → IsPath k (half_items k place es ns) es ns place) → IsPath k (half_items k place es (n ∷ ns)) es (n ∷ ns) place
asked_here k n ns es place here r on =
    subst (λ is. IsPath k is es (n ∷ ns) place) (sym (handed_now k es n ns place (omega (arith, here))))
    (refl, (n, ns, refl, omega (arith, here), on (subst (λ m. RisesWithin m ns (place + length es)) here r)))

-- up to the next ask
to_the_next : (k : SocketId) (n : ℕ) (ns : List ℕ) →
    ((es : List Entry) (place : ℕ) → RisesWithin place ns (place + length es) → IsPath k (half_items k place es ns) es ns place) →
    (es : List Entry) (place : ℕ) → place ≤ n → RisesWithin n ns (place + length es) → IsPath k (half_items k place es (n ∷ ns)) es (n ∷ ns) place
to_the_next k n ns on [] place low r =
    let most = least_first n ns (place + 0) r in
    asked_here k n ns [] place (omega (arith, most, low)) r (on [] place)
to_the_next k n ns on (e ∷ es) place low r = at (cases_lt place n) (λ h. to_the_next k n ns on es (suc place) h (subst (λ m. RisesWithin n ns m) (omega arith) r))
  where
    at : (place < n) ⊎ (n ≤ place) → (suc place ≤ n → IsPath k (half_items k (suc place) es (n ∷ ns)) es (n ∷ ns) (suc place)) →
        IsPath k (half_items k place (e ∷ es) (n ∷ ns)) (e ∷ es) (n ∷ ns) place
    at (inl h) rest =
        subst (λ is. IsPath k is (e ∷ es) (n ∷ ns) place) (sym (noted_before k e es n ns place h)) (es, refl, not_yet n place ns h, rest (omega (arith, h)))
    at (inr h) rest = asked_here k n ns (e ∷ es) place (omega (arith, h, low)) r (on (e ∷ es) place)

as_path : (k : SocketId) (ns : List ℕ) (es : List Entry) (place : ℕ) → RisesWithin place ns (place + length es) → IsPath k (half_items k place es ns) es ns place
as_path k [] es place r = no_more_asks k es place
as_path k (n ∷ ns) es place r = to_the_next k n ns (λ fs q. as_path k ns fs q) es place r.0 r.1

-- ---- what has come of it

handed_first : (k socket : SocketId) (is : List StrandItem) → socket ≡ k → total (handed_by k) (Handed socket ∷ is) ≡ suc (total (handed_by k) is)
handed_first k socket is e =
    let one : total (handed_by k) (Handed socket ∷ is) ≡ 1 + total (handed_by k) is = ap (λ b. (if b then 1 else 0) + total (handed_by k) is) (ap (same_socket k) e ∙ same_refl k) in
    omega (arith, one)

-- no more asks than numbers
handed_few : (k : SocketId) (is : List StrandItem) (es : List Entry) (ns : List ℕ) (place : ℕ) → IsPath k is es ns place → (n : ℕ) →
    total (handed_by k) (take n is) ≤ length ns
handed_few k is es ns place p zero = omega arith
handed_few k [] es ns place p (suc n) = omega arith
handed_few k (Noted e ∷ is) es ns place p (suc n) = omega (arith, handed_few k is p.0 ns (suc place) p.3 n)
handed_few k (Handed socket ∷ is) es ns place p (suc n) =
    omega (arith, handed_first k socket (take n is) p.0, handed_few k is es p.1.1 place p.1.4 n, ap length p.1.2)

-- each was judged behind entries that have come
on_time : (k : SocketId) (is : List StrandItem) (es : List Entry) (ns : List ℕ) (place : ℕ) → IsPath k is es ns place → (n i : ℕ) →
    i < total (handed_by k) (take n is) → slice_index ns i ≤ place + length (noted_in (take n is))
on_time k is es ns place p zero i h = absurd (omega (arith, h))
on_time k [] es ns place p (suc n) i h = absurd (omega (arith, h))
on_time k (Noted e ∷ is) es ns place p (suc n) i h = omega (arith, on_time k is p.0 ns (suc place) p.3 n i (omega (arith, h)))
on_time k (Handed socket ∷ is) es ns place p (suc n) zero h =
    subst (λ l. slice_index l 0 ≤ place + length (noted_in (take n is))) (sym p.1.2) (omega (arith, p.1.3))
on_time k (Handed socket ∷ is) es ns place p (suc n) (suc i) h =
    subst (λ l. slice_index l (suc i) ≤ place + length (noted_in (take n is))) (sym p.1.2)
    (on_time k is es p.1.1 place p.1.4 n i (omega (arith, h, handed_first k socket (take n is) p.0)))

-- the first entries have come
first_entries : (k : SocketId) (is : List StrandItem) (es : List Entry) (ns : List ℕ) (place : ℕ) → IsPath k is es ns place → (n : ℕ) →
    noted_in (take n is) ≡ take (length (noted_in (take n is))) es
first_entries k is es ns place p zero = refl
first_entries k [] es ns place p (suc n) = refl
first_entries k (Noted e ∷ is) es ns place p (suc n) =
    ap (λ l. e ∷ l) (first_entries k is p.0 ns (suc place) p.3 n) ∙ sym (ap (take (suc (length (noted_in (take n is))))) p.1)
first_entries k (Handed socket ∷ is) es ns place p (suc n) = first_entries k is es p.1.1 place p.1.4 n

-- the item of an entry that has come, and how many asks were handed on before it
record Came (k : SocketId) (is : List StrandItem) (n : ℕ) (x : Entry) (asks : ℕ) : Type 0 where
  item : ℕ
  before : item < n
  there : slice_get is item ≡ Some (Noted x)
  handed : asks ≤ total (handed_by k) (take item is)

below_first : (n m : ℕ) (ns : List ℕ) → m < n → how_many_below n (m ∷ ns) ≡ suc (how_many_below n ns)
below_first n m ns h = ap (λ b. if b then suc (how_many_below n ns) else 0) (lt-ltb m n h)

came : (k : SocketId) (is : List StrandItem) (es : List Entry) (ns : List ℕ) (place : ℕ) → IsPath k is es ns place → (n i : ℕ) (x : Entry) →
    i < length (noted_in (take n is)) → slice_get es i ≡ Some x → Came k is n x (how_many_below (suc (place + i)) ns)
came k is es ns place p zero i x h e = absurd (omega (arith, h))
came k [] es ns place p (suc n) i x h e = absurd (omega (arith, h))
came k (Noted f ∷ is) es ns place p (suc n) zero x h e =
    let same : f ≡ x = same_Some f x (sym (ap (λ l. slice_get l 0) p.1) ∙ e) in
    let none : how_many_below (suc (place + 0)) ns ≡ 0 = ap (λ c. how_many_below c ns) (let q : suc (place + 0) ≡ suc place = omega arith in q) ∙ p.2 in
    record { item = 0; before = omega arith; there = ap (λ y. Some (Noted y)) same; handed = omega (arith, none) }
came k (Noted f ∷ is) es ns place p (suc n) (suc i) x h e =
    let it = came k is p.0 ns (suc place) p.3 n i x (omega (arith, h)) (sym (ap (λ l. slice_get l (suc i)) p.1) ∙ e) in
    let count : how_many_below (suc (place + suc i)) ns ≡ how_many_below (suc (suc place + i)) ns =
    ap (λ c. how_many_below c ns) (let q : suc (place + suc i) ≡ suc (suc place + i) = omega arith in q) in
    record { item = suc it.item; before = omega (arith, it.before); there = it.there; handed = omega (arith, it.handed, count) }
came k (Handed socket ∷ is) es ns place p (suc n) i x h e =
    let it = came k is es p.1.1 place p.1.4 n i x h e in
    let count : how_many_below (suc (place + i)) ns ≡ suc (how_many_below (suc (place + i)) p.1.1) =
    ap (how_many_below (suc (place + i))) p.1.2 ∙ below_first (suc (place + i)) p.1.0 p.1.1 (omega (arith, p.1.3)) in
    record {
      item = suc it.item;
      before = omega (arith, it.before);
      there = it.there;
      handed = omega (arith, it.handed, count, handed_first k socket (take it.item is) p.0);
    }

-- ---- an entry that writes

wrote_of : (o : Option Entry) → IsWrote o → (socket : SocketId) × (count : ℕ) × (o ≡ Some (entry.Wrote socket count))
wrote_of None h = absurd h
wrote_of (Some (entry.Wrote socket count)) h = (socket, count, refl)
wrote_of (Some (entry.Read socket count)) h = absurd h
wrote_of (Some (entry.Post place)) h = absurd h
wrote_of (Some entry.Dial) h = absurd h
wrote_of (Some (entry.Opened socket)) h = absurd h
wrote_of (Some (entry.Closed socket)) h = absurd h
wrote_of (Some (entry.Judged socket ask number answer)) h = absurd h
wrote_of (Some (entry.Asked ident number)) h = absurd h
wrote_of (Some (entry.Numbered number)) h = absurd h
wrote_of (Some (entry.Accepted number key)) h = absurd h
wrote_of (Some (entry.Acked number)) h = absurd h
wrote_of (Some (entry.Obeyed full)) h = absurd h
wrote_of (Some (entry.Down planned)) h = absurd h

on_its_socket : (k : SocketId) (es : List Entry) (i : ℕ) (x : Entry) → AllByRecursion (WritesOn k) es → slice_get es i ≡ Some x → WritesOn k x
on_its_socket k [] i x all e = absurd cc
on_its_socket k (f ∷ es) zero x all e = subst (WritesOn k) (same_Some f x e) all.0
on_its_socket k (f ∷ es) (suc i) x all e = on_its_socket k es i x all.1 e

-- ---- all of it

module _ (w : Woven) (at : Cut) (t : TrailNow) (items : ℕ) (tidy : IsTidy t) (woven : IsWovenTo w at t items) where
  abbrev strand : List StrandItem
  strand = (strand_of t).items

  abbrev come : ℕ
  come = length (noted_in (take items strand))

  abbrev judged : ℕ
  judged = judged_at w.strands at t.socket

  path : IsPath t.socket strand t.entries t.judged_after 0
  path = as_path t.socket t.judged_after t.entries 0 (subst (λ most. RisesWithin 0 t.judged_after most) (omega arith) tidy.rising)

  answered : (n : ℕ) → n < come → IsWrote (slice_get t.entries n) → judged_by t (suc n) ≤ judged
  answered n h wrote =
      let it = wrote_of (slice_get t.entries n) wrote in
      let own : it.0 ≡ t.socket = on_its_socket t.socket t.entries n (entry.Wrote it.0 it.1) tidy.writes it.2 in
      let there = came t.socket strand t.entries t.judged_after 0 path items n (entry.Wrote it.0 it.1) h it.2 in
      let first = woven.asked.answered t.socket there.item it.1 there.before (there.there ∙ ap (λ k. Some (Noted (entry.Wrote k it.1))) own) in
      let same : how_many_below (suc (0 + n)) t.judged_after ≡ judged_by t (suc n) = ap (λ c. how_many_below c t.judged_after) (let q : suc (0 + n) ≡ suc n = omega arith in q) in
      omega (arith, there.handed, first, same)

  ordered : IsOrdered t items judged
  ordered = record {
    entries = first_entries t.socket strand t.entries t.judged_after 0 path items;
    point = record {
      few = omega (arith, woven.judged, handed_few t.socket strand t.entries t.judged_after 0 path items, tidy.many);
      asked = λ place h. omega (arith, on_time t.socket strand t.entries t.judged_after 0 path items place (omega (arith, h, woven.judged)));
      answered = answered;
    };
  }

pub give_points : OrdersGivePoints
give_points w at t items tidy woven = ordered w at t items tidy woven
