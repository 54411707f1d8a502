-- The entries of an order, picked by the strand that they are of.
use Rattle.std.proofs.Common.{◌≡◌, ℕ, zero, suc, ◌+◌, ◌<◌, ◌⊎◌, inl, inr, Bool, true, false, if◌then◌else◌, List, [], ◌∷◌, ◌++◌, length, take, drop, Option, Some, None, refl, sym, ap, ◌∙◌, subst, arith, append-nil, append_assoc, add-one, take-add}
use Rattle.std.specs.Prelude.{slice_get, slice_index}
use Rattle.std.specs.List.{AllByRecursion, flat_map}
use Rattle.std.proofs.lemmas.Bool.{cases_eq}
use Rattle.std.proofs.lemmas.Grind.{flat_map-append}
use Rattle.std.proofs.lemmas.List.{length-set, get_or-set_same, get_or-set_other}
use Rattle.m2_fabric.specs.declared.socket.SocketId.{SocketId}
use Rattle.m2_fabric.specs.Log.{Log}
use Rattle.m2_fabric.specs.Sockets.{same_socket}
use Rattle.m2_bytes_fit.specs.Orders.{HalfEntry, reads, writes, OrderEntry, near_entry, far_entry, near_half, far_half, entries_of, got_by, put_by, near_move, far_move}
use Rattle.m2_bytes_fit.proofs.Lists.{nil_not}
use Rattle.m2_history.specs.HalfStrands.{strand_of}
use Rattle.m2_journal.specs.declared.entry.Entry.TheVariants as entry
use Rattle.m2_journal.specs.Items.{JournalItem}
use Rattle.m2_weave.specs.Order.{Cut, come, come_all}
use Rattle.m2_channel.specs.m2_never_reset.Orders.{near_items, far_items}
use Rattle.m2_trail.specs.Trails.{TrailNow}
use Rattle.m2_weave.specs.declared.strand.StrandItem.{StrandItem}
use Rattle.m2_weave.specs.declared.strand.StrandItem.TheVariants.{Noted, Handed}
use Rattle.m2_weave.specs.Strands.{read_by, total, written_by}
use Rattle.m2_weave.proofs.Written.{total-suc}
use Rattle.m2_history.specs.Actors.{Actor, of_record, of_half}
use Rattle.m2_history.proofs.WovenHalves.{AreOwn, IsOwnItem, strand_own}
use Rattle.m2_history.specs.Order.{by_half, by_halves, by_record, done_by, entries_from, half_bytes}
use Rattle.m2_fabric.proofs.Sockets.{same_refl}
use Rattle.m2_bytes.proofs.m2_lemmas.Lists.{cons_same}

-- ---- what comes of one strand

-- of its first items, one after the other
abbrev pub gathered : {X : Type 0} → (ℕ → List X) → ℕ → List X
gathered each zero = []
gathered each (suc n) = gathered each n ++ each n

gathered_next : {X : Type 0} (each : ℕ → List X) (n : ℕ) → gathered each (n + 1) ≡ gathered each n ++ each n
gathered_next each n = ap (gathered each) (add-one n)

module _ {X : Type 0} (c : OrderEntry → List X) (items : Bool → List JournalItem) (actors : List Actor) where
  -- what it adds behind so many items of a strand
  abbrev pub added_at : ℕ → ℕ → List X
  added_at j n = flat_map c (done_by items (slice_get actors j) n)

  pub none_picked : (at : Cut) (order : List ℕ) → ((i n : ℕ) → added_at i n ≡ []) → flat_map c (entries_from items actors at order) ≡ []
  none_picked at [] h = refl
  none_picked at (i ∷ order) h =
      flat_map-append c (done_by items (slice_get actors i) (slice_index at i)) (entries_from items actors (come i at) order)
      ∙ ap (λ l. l ++ flat_map c (entries_from items actors (come i at) order)) (h i (slice_index at i)) ∙ none_picked (come i at) order h

  pub picked : (j : ℕ) (at : Cut) (order : List ℕ) → j < length at → ((i n : ℕ) → (i ≡ j → ⊥) → added_at i n ≡ []) →
      gathered (added_at j) (slice_index at j) ++ flat_map c (entries_from items actors at order) ≡ gathered (added_at j) (slice_index (come_all order at) j)
  picked j at [] within h = append-nil (gathered (added_at j) (slice_index at j))
  picked j at (i ∷ order) within h =
      ap (λ l. gathered (added_at j) (slice_index at j) ++ l) (flat_map-append c (done_by items (slice_get actors i) (slice_index at i)) (entries_from items actors (come i at) order))
      ∙ by_strand (picked j (come i at) order (subst (λ n. j < n) (sym (length-set at i (slice_index at i + 1))) within) h) (cases_eq i j)
    where
      rest : List X
      rest = flat_map c (entries_from items actors (come i at) order)

      by_strand : gathered (added_at j) (slice_index (come i at) j) ++ rest ≡ gathered (added_at j) (slice_index (come_all order (come i at)) j) → (i ≡ j) ⊎ (i ≡ j → ⊥) → gathered (added_at j) (slice_index at j) ++ (added_at i (slice_index at i) ++ rest) ≡ gathered (added_at j) (slice_index (come_all order (come i at)) j)
      by_strand on (inl e) =
          let now : slice_index (come i at) j ≡ slice_index at j + 1 =
          ap (λ x. slice_index (come x at) j) e ∙ get_or-set_same at j (slice_index at j + 1) 0 within in
          ap (λ x. gathered (added_at j) (slice_index at j) ++ (added_at x (slice_index at x) ++ rest)) e
          ∙ sym (append_assoc (gathered (added_at j) (slice_index at j)) (added_at j (slice_index at j)) rest)
          ∙ ap (λ l. l ++ rest) (sym (gathered_next (added_at j) (slice_index at j)) ∙ ap (gathered (added_at j)) (sym now))
          ∙ on
      by_strand on (inr d) =
          ap (λ l. gathered (added_at j) (slice_index at j) ++ (l ++ rest)) (h i (slice_index at i) d)
          ∙ ap (λ n. gathered (added_at j) n ++ rest) (sym (get_or-set_other at i j (slice_index at i + 1) 0 (λ e. d (sym e))))
          ∙ on

-- ---- the entries of a journal

-- the one at a place, if there is one
abbrev pub one_at : {X : Type 0} → List X → ℕ → List X
one_at xs n = elim (slice_get xs n) [ Some x ↦ x ∷ [] | None ↦ [] ]

take_next : {X : Type 0} (xs : List X) (n : ℕ) → take n xs ++ one_at xs n ≡ take (suc n) xs
take_next [] zero = refl
take_next [] (suc n) = refl
take_next (x ∷ xs) zero = refl
take_next (x ∷ xs) (suc n) = ap (λ l. x ∷ l) (take_next xs n)

pub gathered_items : {X : Type 0} (xs : List X) (each : ℕ → List X) → ((n : ℕ) → each n ≡ one_at xs n) → (n : ℕ) → gathered each n ≡ take n xs
gathered_items xs each h zero = refl
gathered_items xs each h (suc n) = ap (λ l. l ++ each n) (gathered_items xs each h n) ∙ ap (λ l. take n xs ++ l) (h n) ∙ take_next xs n

-- the near side's entry, or the far one's
abbrev pub near_in : OrderEntry → List JournalItem
near_in (near_entry i) = i ∷ []
near_in _ = []

abbrev pub far_in : OrderEntry → List JournalItem
far_in (far_entry i) = i ∷ []
far_in _ = []

pub near_entries : (order : List OrderEntry) → near_items (entries_of order) ≡ flat_map near_in order
near_entries [] = refl
near_entries (near_entry i ∷ order) = ap (λ l. i ∷ l) (near_entries order)
near_entries (far_entry i ∷ order) = near_entries order
near_entries (near_half k m ∷ order) = near_entries order
near_entries (far_half k m ∷ order) = near_entries order

pub far_entries : (order : List OrderEntry) → far_items (entries_of order) ≡ flat_map far_in order
far_entries [] = refl
far_entries (near_entry i ∷ order) = far_entries order
far_entries (far_entry i ∷ order) = ap (λ l. i ∷ l) (far_entries order)
far_entries (near_half k m ∷ order) = far_entries order
far_entries (far_half k m ∷ order) = far_entries order

-- ---- the bytes of a half

-- those of either kind
abbrev pub bytes_in : (HalfEntry → List ℕ) → TrailNow → Log → ℕ → List ℕ
bytes_in kind t log n = flat_map kind (half_bytes t log n (slice_get (strand_of t).items n))

total_past : (f : StrandItem → ℕ) (n : ℕ) (is : List StrandItem) → slice_get is n ≡ None → total f (take (suc n) is) ≡ total f (take n is)
total_past f zero [] e = refl
total_past f (suc n) [] e = refl
total_past f zero (i ∷ is) e = absurd (cc)
total_past f (suc n) (i ∷ is) e = let r : total f (take (suc n) is) ≡ total f (take n is) = total_past f n is e in omega (arith, r)

first_more : (c m n : ℕ) (log : List ℕ) → n ≡ m + c → take m log ++ take c (drop m log) ≡ take n log
first_more c m n log e = sym (take-add m c log) ∙ ap (λ x. take x log) (sym e)

first_same : (m n : ℕ) (log : List ℕ) → n ≡ m → take m log ++ [] ≡ take n log
first_same m n log e = append-nil (take m log) ∙ ap (λ x. take x log) (sym e)

open_read : (t : TrailNow) (x : SocketId) (count : ℕ) → x ≡ t.socket → read_by t.socket (Noted (entry.Read x count)) ≡ count
open_read t x count e = ap (λ b. if b then count else 0) (ap (same_socket t.socket) e ∙ same_refl t.socket)

open_wrote : (t : TrailNow) (x : SocketId) (count : ℕ) → x ≡ t.socket → written_by t.socket (Noted (entry.Wrote x count)) ≡ count
open_wrote t x count e = ap (λ b. if b then count else 0) (ap (same_socket t.socket) e ∙ same_refl t.socket)

all_get : (P : StrandItem → Type 0) (is : List StrandItem) (n : ℕ) (i : StrandItem) → AllByRecursion P is → slice_get is n ≡ Some i → P i
all_get P [] n i h e = absurd (cc)
all_get P (x ∷ is) zero i h e = subst P (let same : x ≡ i = cc in same) h.0
all_get P (x ∷ is) (suc n) i h e = all_get P is n i h.1 e

module _ (t : TrailNow) (log : Log) (own : AreOwn t.socket t.entries) where
  abbrev is : List StrandItem
  is = (strand_of t).items

  got_step : (n : ℕ) (o : Option StrandItem) → slice_get is n ≡ o →
      take (total (read_by t.socket) (take n is)) log.got ++ flat_map got_by (half_bytes t log n o) ≡ take (total (read_by t.socket) (take (suc n) is)) log.got
  got_step n None e = first_same (total (read_by t.socket) (take n is)) (total (read_by t.socket) (take (suc n) is)) log.got (total_past (read_by t.socket) n is e)
  got_step n (Some (Noted (entry.Read x c))) e =
      let more = total-suc (read_by t.socket) n is (Noted (entry.Read x c)) e in
      let count = open_read t x c (all_get (IsOwnItem t.socket) is n (Noted (entry.Read x c)) (strand_own t own) e) in
      ap (λ l. take (total (read_by t.socket) (take n is)) log.got ++ l) (append-nil (take c (drop (total (read_by t.socket) (take n is)) log.got)))
      ∙ first_more c (total (read_by t.socket) (take n is)) (total (read_by t.socket) (take (suc n) is)) log.got (omega (arith, more, count))
  got_step n (Some (Noted (entry.Wrote x c))) e =
      first_same (total (read_by t.socket) (take n is)) (total (read_by t.socket) (take (suc n) is)) log.got
      (let more = total-suc (read_by t.socket) n is (Noted (entry.Wrote x c)) e in omega (arith, more))
  got_step n (Some (Noted y)) e =
      first_same (total (read_by t.socket) (take n is)) (total (read_by t.socket) (take (suc n) is)) log.got
      (let more = total-suc (read_by t.socket) n is (Noted y) e in omega (arith, more))
  got_step n (Some (Handed y)) e =
      first_same (total (read_by t.socket) (take n is)) (total (read_by t.socket) (take (suc n) is)) log.got
      (let more = total-suc (read_by t.socket) n is (Handed y) e in omega (arith, more))

  pub got_gathered : (each : ℕ → List ℕ) → ((n : ℕ) → each n ≡ bytes_in got_by t log n) → (n : ℕ) → gathered each n ≡ take (total (read_by t.socket) (take n is)) log.got
  got_gathered each h zero = refl
  got_gathered each h (suc n) =
      ap (λ l. l ++ each n) (got_gathered each h n) ∙ ap (λ l. take (total (read_by t.socket) (take n is)) log.got ++ l) (h n) ∙ got_step n (slice_get is n) refl

  put_step : (n : ℕ) (o : Option StrandItem) → slice_get is n ≡ o →
      take (total (written_by t.socket) (take n is)) log.put ++ flat_map put_by (half_bytes t log n o) ≡ take (total (written_by t.socket) (take (suc n) is)) log.put
  put_step n None e = first_same (total (written_by t.socket) (take n is)) (total (written_by t.socket) (take (suc n) is)) log.put (total_past (written_by t.socket) n is e)
  put_step n (Some (Noted (entry.Wrote x c))) e =
      let more = total-suc (written_by t.socket) n is (Noted (entry.Wrote x c)) e in
      let count = open_wrote t x c (all_get (IsOwnItem t.socket) is n (Noted (entry.Wrote x c)) (strand_own t own) e) in
      ap (λ l. take (total (written_by t.socket) (take n is)) log.put ++ l) (append-nil (take c (drop (total (written_by t.socket) (take n is)) log.put)))
      ∙ first_more c (total (written_by t.socket) (take n is)) (total (written_by t.socket) (take (suc n) is)) log.put (omega (arith, more, count))
  put_step n (Some (Noted (entry.Read x c))) e =
      first_same (total (written_by t.socket) (take n is)) (total (written_by t.socket) (take (suc n) is)) log.put
      (let more = total-suc (written_by t.socket) n is (Noted (entry.Read x c)) e in omega (arith, more))
  put_step n (Some (Noted y)) e =
      first_same (total (written_by t.socket) (take n is)) (total (written_by t.socket) (take (suc n) is)) log.put
      (let more = total-suc (written_by t.socket) n is (Noted y) e in omega (arith, more))
  put_step n (Some (Handed y)) e =
      first_same (total (written_by t.socket) (take n is)) (total (written_by t.socket) (take (suc n) is)) log.put
      (let more = total-suc (written_by t.socket) n is (Handed y) e in omega (arith, more))

  pub put_gathered : (each : ℕ → List ℕ) → ((n : ℕ) → each n ≡ bytes_in put_by t log n) → (n : ℕ) → gathered each n ≡ take (total (written_by t.socket) (take n is)) log.put
  put_gathered each h zero = refl
  put_gathered each h (suc n) =
      ap (λ l. l ++ each n) (put_gathered each h n) ∙ ap (λ l. take (total (written_by t.socket) (take n is)) log.put ++ l) (h n) ∙ put_step n (slice_get is n) refl

-- ---- which entries are whose

abbrev pub item_in : (near : Bool) → OrderEntry → List JournalItem
item_in true m = near_in m
item_in false m = far_in m

abbrev pub moves_in : (near : Bool) → SocketId → (HalfEntry → List ℕ) → OrderEntry → List ℕ
moves_in true k kind m = near_move k kind m
moves_in false k kind m = far_move k kind m

pub items_here : (s : Bool) (o : Option JournalItem) → flat_map (item_in s) (by_record s o) ≡ elim o [ Some i ↦ i ∷ [] | None ↦ [] ]
items_here true (Some i) = refl
items_here false (Some i) = refl
items_here true None = refl
items_here false None = refl

pub items_there : (s r : Bool) (o : Option JournalItem) → (r ≡ s → ⊥) → flat_map (item_in s) (by_record r o) ≡ []
items_there true true o d = absurd (d refl)
items_there false false o d = absurd (d refl)
items_there true false (Some i) d = refl
items_there true false None d = refl
items_there false true (Some i) d = refl
items_there false true None d = refl

pub items_of_half : (s r : Bool) (k : SocketId) (ms : List HalfEntry) → flat_map (item_in s) (by_halves r k ms) ≡ []
items_of_half s r k [] = refl
items_of_half true true k (m ∷ ms) = items_of_half true true k ms
items_of_half true false k (m ∷ ms) = items_of_half true false k ms
items_of_half false true k (m ∷ ms) = items_of_half false true k ms
items_of_half false false k (m ∷ ms) = items_of_half false false k ms

pub moves_of_record : (s r : Bool) (k : SocketId) (kind : HalfEntry → List ℕ) (o : Option JournalItem) → flat_map (moves_in s k kind) (by_record r o) ≡ []
moves_of_record true true k kind (Some i) = refl
moves_of_record true false k kind (Some i) = refl
moves_of_record false true k kind (Some i) = refl
moves_of_record false false k kind (Some i) = refl
moves_of_record true true k kind None = refl
moves_of_record true false k kind None = refl
moves_of_record false true k kind None = refl
moves_of_record false false k kind None = refl

pub moves_here : (s : Bool) (k x : SocketId) (kind : HalfEntry → List ℕ) (ms : List HalfEntry) → same_socket k x ≡ true → flat_map (moves_in s k kind) (by_halves s x ms) ≡ flat_map kind ms
moves_here s k x kind [] e = refl
moves_here true k x kind (m ∷ ms) e = ap (λ b. (if b then kind m else []) ++ flat_map (near_move k kind) (by_halves true x ms)) e ∙ ap (λ l. kind m ++ l) (moves_here true k x kind ms e)
moves_here false k x kind (m ∷ ms) e = ap (λ b. (if b then kind m else []) ++ flat_map (far_move k kind) (by_halves false x ms)) e ∙ ap (λ l. kind m ++ l) (moves_here false k x kind ms e)

pub moves_elsewhere : (s : Bool) (k x : SocketId) (kind : HalfEntry → List ℕ) (ms : List HalfEntry) → same_socket k x ≡ false → flat_map (moves_in s k kind) (by_halves s x ms) ≡ []
moves_elsewhere s k x kind [] e = refl
moves_elsewhere true k x kind (m ∷ ms) e = ap (λ b. (if b then kind m else []) ++ flat_map (near_move k kind) (by_halves true x ms)) e ∙ moves_elsewhere true k x kind ms e
moves_elsewhere false k x kind (m ∷ ms) e = ap (λ b. (if b then kind m else []) ++ flat_map (far_move k kind) (by_halves false x ms)) e ∙ moves_elsewhere false k x kind ms e

pub moves_of_other : (s r : Bool) (k x : SocketId) (kind : HalfEntry → List ℕ) (ms : List HalfEntry) → (r ≡ s → ⊥) → flat_map (moves_in s k kind) (by_halves r x ms) ≡ []
moves_of_other s r k x kind [] d = refl
moves_of_other true true k x kind (m ∷ ms) d = absurd (d refl)
moves_of_other false false k x kind (m ∷ ms) d = absurd (d refl)
moves_of_other true false k x kind (m ∷ ms) d = moves_of_other true false k x kind ms d
moves_of_other false true k x kind (m ∷ ms) d = moves_of_other false true k x kind ms d

-- ---- the first entries are those of a first part of the order

-- at most one
IsFew : List OrderEntry → Type 0
IsFew ms = (ms ≡ []) ⊎ ((m : OrderEntry) × (ms ≡ m ∷ []))

few_of_record : (s : Bool) (o : Option JournalItem) → IsFew (by_record s o)
unfolding IsFew
few_of_record true (Some i) = inr (near_entry i, refl)
few_of_record false (Some i) = inr (far_entry i, refl)
few_of_record true None = inl refl
few_of_record false None = inl refl

few_of_half : (s : Bool) (t : TrailNow) (log : Log) (n : ℕ) (o : Option StrandItem) → IsFew (by_halves s t.socket (half_bytes t log n o))
unfolding IsFew
few_of_half s t log n (Some (Noted (entry.Read x c))) = inr (by_half s t.socket (reads (take c (drop (total (read_by t.socket) (take n (strand_of t).items)) log.got))), refl)
few_of_half s t log n (Some (Noted (entry.Wrote x c))) = inr (by_half s t.socket (writes (take c (drop (total (written_by t.socket) (take n (strand_of t).items)) log.put))), refl)
few_of_half s t log n (Some (Noted _)) = inl refl
few_of_half s t log n (Some (Handed x)) = inl refl
few_of_half s t log n None = inl refl

few_done : (items : Bool → List JournalItem) (a : Option Actor) (n : ℕ) → IsFew (done_by items a n)
unfolding IsFew
few_done items (Some (of_record s)) n = few_of_record s (slice_get (items s) n)
few_done items (Some (of_half s t log)) n = few_of_half s t log n (slice_get (strand_of t).items n)
few_done items None n = inl refl

pub record IsPartOf (items : Bool → List JournalItem) (actors : List Actor) (at : Cut) (order : List ℕ) (front : List OrderEntry) : Type 0 where
  pub first : List ℕ
  pub more : List ℕ
  pub parts : order ≡ first ++ more
  pub entries : entries_from items actors at first ≡ front

pub part_of_order : (items : Bool → List JournalItem) (actors : List Actor) (at : Cut) (order : List ℕ) (front back : List OrderEntry) → entries_from items actors at order ≡ front ++ back →
    IsPartOf items actors at order front
unfolding IsFew
part_of_order items actors at order [] back e = record { first = []; more = order; parts = refl; entries = refl }
part_of_order items actors at [] (m ∷ front) back e = nil_not e
part_of_order items actors at (k ∷ order) (m ∷ front) back e =
    by_few (few_done items (slice_get actors k) (slice_index at k)) (part_of_order items actors (come k at) order (m ∷ front) back) (part_of_order items actors (come k at) order front back)
  where
    rest : List OrderEntry
    rest = entries_from items actors (come k at) order

    by_few : (done_by items (slice_get actors k) (slice_index at k) ≡ []) ⊎ ((x : OrderEntry) × (done_by items (slice_get actors k) (slice_index at k) ≡ x ∷ [])) →
        (rest ≡ (m ∷ front) ++ back → IsPartOf items actors (come k at) order (m ∷ front)) → (rest ≡ front ++ back → IsPartOf items actors (come k at) order front) →
        IsPartOf items actors at (k ∷ order) (m ∷ front)
    by_few (inl none) same_front less =
        let p = same_front (sym (ap (λ l. l ++ rest) none) ∙ e) in
        record {
          first = k ∷ p.first;
          more = p.more;
          parts = ap (λ l. k ∷ l) p.parts;
          entries = ap (λ l. l ++ entries_from items actors (come k at) p.first) none ∙ p.entries;
        }
    by_few (inr (x, one)) same_front less =
        let same = cons_same x m rest (front ++ back) (sym (ap (λ l. l ++ rest) one) ∙ e) in
        let p = less same.1 in
        record {
          first = k ∷ p.first;
          more = p.more;
          parts = ap (λ l. k ∷ l) p.parts;
          entries = ap (λ l. l ++ entries_from items actors (come k at) p.first) one ∙ ap (λ l. x ∷ l) p.entries ∙ ap (λ y. y ∷ front) same.0;
        }
