-- Where strands have an order before a turn, they have one behind it.
use Rattle.std.proofs.Common.{◌≡◌, ℕ, zero, suc, ◌+◌, ◌<◌, ◌≤◌, ◌⊎◌, inl, inr, Bool, true, false, if◌then◌else◌, List, [], ◌∷◌, ◌++◌, length, take, drop, refl, sym, ap, ◌∙◌, subst, arith, Option, Some, None}
use Rattle.std.specs.Prelude.{nat_lt, slice_get, slice_index, slice_index_or}
use Rattle.std.proofs.lemmas.Option.{slice_get-get_or, slice_get_within}
use Rattle.std.proofs.lemmas.List.{length-map}
use Rattle.std.proofs.lemmas.Bool.{cases_eq}
use Rattle.std.proofs.lemmas.Bool.Decides.{nat_tests}
use Rattle.m2_fabric.specs.declared.socket.SocketId.{SocketId}
use Rattle.m2_fabric.specs.Sockets.{same_socket}
use Rattle.m2_journal.specs.declared.entry.Entry.TheVariants as entry
use Rattle.m2_weave.specs.Merging.{even}
use Rattle.m2_weave.specs.Order.{Cut, AreLawful, IsGreedy, IsStuck, come, come_all, nothing, reached}
use Rattle.m2_weave.proofs.Furthest.{are-lawful, come-length, come-other, come-same, reached-count, zero-at}
use Rattle.m2_weave.specs.declared.strand.StrandItem.{StrandItem}
use Rattle.m2_weave.specs.declared.strand.StrandItem.TheVariants.{Noted, Handed}
use Rattle.m2_weave.specs.Strands.{EndOf, StrandNow, other, end_in, handed_by, has_opened, judged_by, place_of, same_side, total, total_at, written_at, written_by, written_in, read_by}
use Rattle.m2_weave.specs.Rule.{Woven, AreThere, MayCome, by_bytes, byte_at, comes, nothing_at_all, strand_at}
use Rattle.m2_weave.specs.Stops.{IsWoven, StopsAt, first_stop, sizes}
use Rattle.m2_weave.specs.Tidy.{TidyStopsAreReads}
use Rattle.m2_weave.specs.WeaveLaws.{RuleDecides}
use Rattle.m2_weave.specs.Later.{GoesOn, HasRead, HasWritten, HaveGot, IsLater, IsOfTurn, IsTurn, ReadsAt}
use Rattle.m2_weave.specs.TurnLaws.{HasOrder}
use Rattle.m2_weave.proofs.Greedy.{greedy_of}
use Rattle.m2_weave.proofs.Sums.{sum_over, total_on}
use Rattle.m2_weave.proofs.Tidy.{next-there, size-at, count-of}
use Rattle.m2_bytes.proofs.m2_lemmas.Lists.{index_in_range}
use Rattle.m2_fabric.proofs.Sockets.{same_equal, same_refl}

-- ---- lists that go on

get-on : {X : Type 0} (xs more : List X) (n : ℕ) (x : X) → slice_get xs n ≡ Some x → slice_get (xs ++ more) n ≡ Some x
get-on [] more n x e = absurd (cc)
get-on (y ∷ xs) more zero x e = e
get-on (y ∷ xs) more (suc n) x e = get-on xs more n x e

take-on : {X : Type 0} (n : ℕ) (xs more : List X) → n ≤ length xs → take n (xs ++ more) ≡ take n xs
take-on zero xs more h = refl
take-on (suc n) [] more h = absurd (omega (arith, h))
take-on (suc n) (x ∷ xs) more h = ap (λ l. x ∷ l) (take-on n xs more (omega (arith, h)))

-- what lies within a list stays as it was
piece-on : (p n : ℕ) (xs more : List ℕ) → p + n ≤ length xs → take n (drop p (xs ++ more)) ≡ take n (drop p xs)
piece-on zero n xs more h = take-on n xs more (omega (arith, h))
piece-on (suc p) n [] more h = let none : n ≡ 0 = absurd (omega (arith, h)) in absurd (omega (arith, h))
piece-on (suc p) n (x ∷ xs) more h = piece-on p n xs more (omega (arith, h))

item-on : (s t : StrandNow) (n : ℕ) (i : StrandItem) → GoesOn s.items t.items → slice_get s.items n ≡ Some i → slice_get t.items n ≡ Some i
item-on s t n i on e = ap (λ l. slice_get l n) on.1 ∙ get-on s.items on.0 n i e

first-on : (s t : StrandNow) (n : ℕ) → GoesOn s.items t.items → n ≤ length s.items → take n t.items ≡ take n s.items
first-on s t n on h = ap (take n) on.1 ∙ take-on n s.items on.0 h

-- a strand with items is one of the list
is-there : (ss : List StrandNow) (j n : ℕ) → n < length (slice_index_or ss j nothing_at_all).items → j < length ss
is-there [] j n h = absurd (omega (arith, h))
is-there (s ∷ ss) zero n h = omega arith
is-there (s ∷ ss) (suc j) n h = let r : j < length ss = is-there ss j n h in omega (arith, r)

-- ---- bytes

byte-on : (written more : ℕ) (put rest : List ℕ) (p y : ℕ) → written ≤ more → (if nat_lt p written then slice_get put p else None) ≡ Some y →
    (if nat_lt p more then slice_get (put ++ rest) p else None) ≡ Some y
byte-on written more put rest p y h e = at (nat_lt p written) refl e
  where
    at : (b : Bool) → nat_lt p written ≡ b → (if b then slice_get put p else None) ≡ Some y → (if nat_lt p more then slice_get (put ++ rest) p else None) ≡ Some y
    at true is e =
        let below : nat_lt p more ≡ true = grind (arith, nat_tests) in
        ap (λ b. if b then slice_get (put ++ rest) p else None) below ∙ get-on put rest p y e
    at false is e = absurd (cc)

there-on : (t u : ℕ → Option ℕ) (p : ℕ) (xs : List ℕ) → ((q y : ℕ) → t q ≡ Some y → u q ≡ Some y) → AreThere t p xs → AreThere u p xs
there-on t u p xs on there i h =
    let is : slice_get xs i ≡ Some (slice_index xs i) = slice_get-get_or xs i 0 h in
    on (p + i) (slice_index xs i) (there i h ∙ is) ∙ sym is

-- ---- what is written

-- what an item counts behind the first ones
up-to : (f : StrandItem → ℕ) (n : ℕ) (is : List StrandItem) (i : StrandItem) → slice_get is n ≡ Some i → total f (take n is) + f i ≤ total f is
up-to f n [] i e = absurd (cc)
up-to f zero (x ∷ is) i e = let same : x ≡ i = cc in omega (arith, ap f same)
up-to f (suc n) (x ∷ is) i e = let rest : total f (take n is) + f i ≤ total f is = up-to f n is i e in omega (arith, rest)

none-if : (a b : Bool) → (if a then 0 else 0) ≤ (if b then 0 else 0)
none-if true true = omega arith
none-if true false = omega arith
none-if false true = omega arith
none-if false false = omega arith

-- of an end that is the same, where an item writes something on its socket
wrote-if : (e : EndOf) (s t : StrandNow) (k : SocketId) (count : ℕ) (b : Bool) → same_socket e.socket k ≡ b → (0 < count → has_opened t k ≡ has_opened s k) →
    (if same_side (has_opened s e.socket) e.opener then (if b then count else 0) else 0) ≤ (if same_side (has_opened t e.socket) e.opener then (if b then count else 0) else 0)
wrote-if e s t k zero true is same = none-if _ _
wrote-if e s t k (suc count) true is same =
    let here : has_opened t e.socket ≡ has_opened s e.socket = subst (λ x. has_opened t x ≡ has_opened s x) (sym (same_equal e.socket k is)) (same (omega arith)) in
    omega (arith, ap (λ b. if same_side b e.opener then suc count else 0) here)
wrote-if e s t k count false is same = none-if _ _

-- ---- before a turn and behind it

module _ (old new : Woven) (later : IsLater old new) (got : HaveGot old) where
  abbrev mine : ℕ → StrandNow
  mine i = strand_at old i

  abbrev its : ℕ → StrandNow
  its i = strand_at new (later.place i)

  -- so many items of each old strand have come at its place too
  pub record AreWithin (c at : Cut) : Type 0 where
    pub count : length at ≡ length new.strands
    pub each : (i : ℕ) → i < length old.strands → slice_index c i ≤ slice_index at (later.place i)

  -- one strand's part of a sum
  part-most : (f g : StrandNow → StrandItem → ℕ) (c at : Cut) → AreWithin c at → (i : ℕ) → i < length old.strands →
      ((n : ℕ) (x : StrandItem) → slice_get (mine i).items n ≡ Some x → f (mine i) x ≤ g (its i) x) →
      total (f (mine i)) (take (slice_index c i) (mine i).items) ≤ total (g (its i)) (take (slice_index at (later.place i)) (its i).items)
  part-most f g c at w i h each =
      let on = (later.strands i h).items in
      subst (λ l. total (f (mine i)) (take (slice_index c i) (mine i).items) ≤ total (g (its i)) (take (slice_index at (later.place i)) l)) (sym on.1)
      (total_on (f (mine i)) (g (its i)) (slice_index c i) (slice_index at (later.place i)) (mine i).items on.0 (w.each i h) each)

  sum-most : (f : StrandItem → ℕ) (c at : Cut) → AreWithin c at → total_at (λ s i. f i) old.strands c ≤ total_at (λ s i. f i) new.strands at
  sum-most f c at w =
      sum_over (λ s i. f i) (λ s i. f i) old.strands c new.strands at later.place w.count later.apart
      (λ i h. part-most (λ s i. f i) (λ s i. f i) c at w i h (λ n x e. omega arith))

  -- what an end had written it has written
  some-written : (j n count : ℕ) (k : SocketId) → slice_get (mine j).items n ≡ Some (Noted (entry.Wrote k count)) → 0 < count → HasWritten (mine j) k
  some-written j n count k is h =
      let own : written_by k (Noted (entry.Wrote k count)) ≡ count = ap (λ b. if b then count else 0) (same_refl k) in
      omega (arith, own, h, up-to (written_by k) n (mine j).items (Noted (entry.Wrote k count)) is)

  written-each : (e : EndOf) (i : ℕ) → i < length old.strands → (n : ℕ) (x : StrandItem) → slice_get (mine i).items n ≡ Some x → written_in e (mine i) x ≤ written_in e (its i) x
  written-each e i h n (Noted (entry.Wrote k count)) is =
      wrote-if e (mine i) (its i) k count (same_socket e.socket k) refl (λ some. (later.strands i h).writes k (some-written i n count k is some))
  written-each e i h n (Noted _) is = none-if _ _
  written-each e i h n (Handed _) is = none-if _ _

  written-most : (c at : Cut) → AreWithin c at → (e : EndOf) → written_at old.strands c e ≤ written_at new.strands at e
  written-most c at w e =
      sum_over (written_in e) (written_in e) old.strands c new.strands at later.place w.count later.apart
      (λ i h. part-most (written_in e) (written_in e) c at w i h (written-each e i h))

  pub byte-most : (c at : Cut) → AreWithin c at → (e : EndOf) (p y : ℕ) → byte_at old c e p ≡ Some y → byte_at new at e p ≡ Some y
  byte-most c at w e p y is =
      let on = later.put e in
      subst (λ l. (if nat_lt p (written_at new.strands at e) then slice_get l p else None) ≡ Some y) (sym on.1)
      (byte-on (written_at old.strands c e) (written_at new.strands at e) (old.bytes.put e) on.0 p y (written-most c at w e) is)

  -- ---- one item

  some-read : (j n count : ℕ) (k : SocketId) → ReadsAt (mine j) n k count → 0 < count → HasRead (mine j) k
  some-read j n count k is h =
      let own : read_by k (Noted (entry.Read k count)) ≡ count = ap (λ b. if b then count else 0) (same_refl k) in
      omega (arith, own, h, up-to (read_by k) n (mine j).items (Noted (entry.Read k count)) is)

  read-on : (c at : Cut) → AreWithin c at → (j : ℕ) → j < length old.strands → (n count : ℕ) (k : SocketId) → ReadsAt (mine j) n k count →
      MayCome old c (mine j) n (Noted (entry.Read k count)) → MayCome new at (its j) n (Noted (entry.Read k count))
  read-on c at w j h n zero k is may = λ i l. absurd (omega (arith, l))
  read-on c at w j h n (suc least) k is may =
      let count = suc least in
      let some : HasRead (mine j) k = some-read j n count k is (omega arith) in
      let strand = later.strands j h in
      let e = end_in (mine j) k in
      let p = place_of old.strands (mine j) n k in
      let within : n < length (mine j).items = slice_get_within (mine j).items n (Noted (entry.Read k count)) is in
      let first : take n (its j).items ≡ take n (mine j).items = first-on (mine j) (its j) n strand.items (omega (arith, within)) in
      let end : end_in (its j) k ≡ e = ap (λ b. record { socket = k; opener = b }) (strand.reads k some) in
      let place : place_of new.strands (its j) n k ≡ p = omega (arith, strand.begun k some, ap (total (read_by k)) first) in
      let own : read_by k (Noted (entry.Read k count)) ≡ count = ap (λ b. if b then count else 0) (same_refl k) in
      let got_all : p + count ≤ length (old.bytes.got e) = omega (arith, own, up-to (read_by k) n (mine j).items (Noted (entry.Read k count)) is, got j k some) in
      let piece : take count (drop p (new.bytes.got e)) ≡ take count (drop p (old.bytes.got e)) =
      ap (λ l. take count (drop p l)) (later.got e).1 ∙ piece-on p count (old.bytes.got e) (later.got e).0 got_all in
      subst (λ x. AreThere (byte_at new at (other x)) (place_of new.strands (its j) n k) (take count (drop (place_of new.strands (its j) n k) (new.bytes.got x)))) (sym end)
      (subst (λ q. AreThere (byte_at new at (other e)) q (take count (drop q (new.bytes.got e)))) (sym place)
      (subst (λ l. AreThere (byte_at new at (other e)) p l) (sym piece)
      (there-on (byte_at old c (other e)) (byte_at new at (other e)) p (take count (drop p (old.bytes.got e))) (byte-most c at w (other e)) may)))

  -- what might come before may come now
  may-on : (c at : Cut) → AreWithin c at → (j : ℕ) → j < length old.strands → (n : ℕ) (x : StrandItem) → slice_get (mine j).items n ≡ Some x →
      MayCome old c (mine j) n x → MayCome new at (its j) n x
  may-on c at w j h n (Noted (entry.Read k count)) is may = read-on c at w j h n count k is may
  may-on c at w j h n (Noted (entry.Judged k ask number answer)) is may =
      let within = slice_get_within (mine j).items n _ is in
      let first = first-on (mine j) (its j) n (later.strands j h).items (omega (arith, within)) in
      omega (arith, may, ap (total (judged_by k)) first, sum-most (handed_by k) c at w)
  may-on c at w j h n (Noted (entry.Wrote k count)) is may =
      let within = slice_get_within (mine j).items n _ is in
      let first = first-on (mine j) (its j) n (later.strands j h).items (omega (arith, within)) in
      omega (arith, may, ap (total (handed_by k)) first, sum-most (judged_by k) c at w)
  may-on c at w j h n (Noted _) is may = tt
  may-on c at w j h n (Handed _) is may = tt

  -- ---- where nothing may come behind the turn, all has come that came before it

  module _ (decide : RuleDecides) (at : Cut) (among : length at ≡ length new.strands) (stuck : IsStuck (by_bytes new) (sizes new) at) where
    -- an item that may come before would come now
    not-here : (c : Cut) → AreWithin c at → (k : ℕ) → k < length old.strands → slice_index c k < length (mine k).items → by_bytes old c k ≡ true →
        slice_index c k ≡ slice_index at (later.place k) → ⊥
    not-here c w k h more met same =
        let n = slice_index c k in
        let next = next-there n (mine k).items more in
        let its_next : slice_get (its k).items n ≡ Some next.0 = item-on (mine k) (its k) n next.0 (later.strands k h).items next.1 in
        let may : MayCome new at (its k) n next.0 =
        may-on c at w k h n next.0 next.1 (decide.sound old c (mine k) n next.0 (ap (comes old c (mine k) n) (sym next.1) ∙ met)) in
        let comes_now : comes new at (its k) n (slice_get (its k).items n) ≡ true =
        ap (comes new at (its k) n) its_next ∙ decide.complete new at (its k) n next.0 may in
        let here : slice_get (its k).items (slice_index at (later.place k)) ≡ Some next.0 = ap (slice_get (its k).items) (sym same) ∙ its_next in
        stuck (later.place k) (record {
          more = omega (arith, slice_get_within (its k).items (slice_index at (later.place k)) next.0 here, size-at new.strands (later.place k));
          met = subst (λ m. comes new at (its k) m (slice_get (its k).items m) ≡ true) same comes_now;
        })

    one-within : (c : Cut) → AreWithin c at → (k : ℕ) → k < length c → k < length old.strands → slice_index c k < length (mine k).items → by_bytes old c k ≡ true →
        (i : ℕ) → i < length old.strands → (i ≡ k) ⊎ (i ≡ k → ⊥) → slice_index (come k c) i ≤ slice_index at (later.place i)
    one-within c w k r h more met i hi (inl e) =
        let below : slice_index c k < slice_index at (later.place k) = by_place (cases_eq (slice_index c k) (slice_index at (later.place k))) in
        let P : ℕ → Type 0 = λ x. slice_index (come k c) x ≤ slice_index at (later.place x) in
        let at_k : slice_index (come k c) k ≤ slice_index at (later.place k) = omega (arith, below, come-same c k r) in
        subst P (sym e) at_k
      where
        by_place : (slice_index c k ≡ slice_index at (later.place k)) ⊎ (slice_index c k ≡ slice_index at (later.place k) → ⊥) → slice_index c k < slice_index at (later.place k)
        by_place (inl same) = absurd (not-here c w k h more met same)
        by_place (inr differ) = let most : slice_index c k ≤ slice_index at (later.place k) = w.each k h in grind (arith, differ)
    one-within c w k r h more met i hi (inr apart) = omega (arith, come-other c k i apart, w.each i hi)

    all-within : (c : Cut) (order : List ℕ) → length c ≡ length (sizes old) → AreLawful (by_bytes old) (sizes old) c order → AreWithin c at → AreWithin (come_all order c) at
    all-within c [] n l w = w
    all-within c (k ∷ ks) n (may, l) w =
        let r : k < length c = omega (arith, n, index_in_range (sizes old) k (slice_index c k) may.more) in
        let more : slice_index c k < length (mine k).items = omega (arith, may.more, size-at old.strands k) in
        let h : k < length old.strands = is-there old.strands k (slice_index c k) more in
        all-within (come k c) ks (come-length c k ∙ n) l
        (record { count = w.count; each = λ i hi. one-within c w k r h more may.met i hi (cases_eq i k) })

    none-within : AreWithin (nothing (sizes old)) at
    none-within = record { count = among; each = λ i h. omega (arith, zero-at (sizes old) i) }

    pub old-within : (order : List ℕ) → IsWoven old order → AreWithin (sizes old) at
    old-within order woven =
        subst (λ c. AreWithin c at) woven.whole (all-within (nothing (sizes old)) order (length-map (sizes old) (λ n. 0)) woven.lawful none-within)

-- ---- so nothing stops

no-stop : (old new : Woven) (turn : IsTurn old new) (decide : RuleDecides) (order : List ℕ) → IsWoven old order → (at : Cut) → length at ≡ length new.strands →
    IsStuck (by_bytes new) (sizes new) at → (j n count : ℕ) (k : SocketId) → slice_index at j ≡ n → ReadsAt (strand_at new j) n k count → ⊥
no-stop old new turn decide order woven at among stuck j n count k here is =
    let within : AreWithin old new turn.later turn.got (sizes old) at = old-within old new turn.later turn.got decide at among stuck order woven in
    let of_turn : IsOfTurn old turn.later.place j n = λ i h e.
    let most : slice_index (sizes old) i ≤ slice_index at (turn.later.place i) = within.each i h in
    omega (arith, most, size-at old.strands i, ap (slice_index at) e, here) in
    let e = end_in (strand_at new j) k in
    let p = place_of new.strands (strand_at new j) n k in
    let may : MayCome new at (strand_at new j) n (Noted (entry.Read k count)) =
    there-on (byte_at old (sizes old) (other e)) (byte_at new at (other e)) p (take count (drop p (new.bytes.got e)))
    (byte-most old new turn.later turn.got (sizes old) at within (other e)) (turn.read j n count k of_turn is) in
    let met : comes new at (strand_at new j) n (slice_get (strand_at new j).items n) ≡ true =
    ap (comes new at (strand_at new j) n) is ∙ decide.complete new at (strand_at new j) n (Noted (entry.Read k count)) may in
    stuck j (record {
      more = omega (arith, here, slice_get_within (strand_at new j).items n _ is, size-at new.strands j);
      met = subst (λ m. comes new at (strand_at new j) m (slice_get (strand_at new j).items m) ≡ true) (sym here) met;
    })

same-or : (a b : List ℕ) → (a ≡ b) ⊎ (a ≡ b → ⊥)
same-or [] [] = inl refl
same-or [] (n ∷ b) = inr (λ e. cc)
same-or (m ∷ a) [] = inr (λ e. cc)
same-or (m ∷ a) (n ∷ b) = elim (cases_eq m n) [
  | inl e ↦ elim (same-or a b) [
    | inl f ↦ inl (ap (λ x. x ∷ a) e ∙ ap (λ l. n ∷ l) f)
    | inr g ↦ inr (λ h. g (cc))
  ]
  | inr e ↦ inr (λ h. e (cc))
]

pub turn_is_woven : RuleDecides → TidyStopsAreReads → (old new : Woven) → IsTurn old new → HasOrder old → HasOrder new
turn_is_woven decide reads old new turn order =
    let greedy = greedy_of (by_bytes new) (sizes new) in
    by_end greedy (same-or (reached (sizes new) greedy.0) (sizes new))
  where
    by_end : (greedy : (xs : List ℕ) × IsGreedy even (by_bytes new) (sizes new) xs) →
        (reached (sizes new) greedy.0 ≡ sizes new) ⊎ (reached (sizes new) greedy.0 ≡ sizes new → ⊥) → HasOrder new
    by_end greedy (inl whole) = (
      greedy.0,
      record { lawful = are-lawful even (by_bytes new) (sizes new) (nothing (sizes new)) greedy.0 greedy.1.each; whole = whole },
    )
    by_end greedy (inr short) =
        let at = reached (sizes new) greedy.0 in
        let stop : StopsAt new (first_stop new at new.strands at) = record { order = greedy.0; rank = even; greedy = greedy.1; short = short; byte = refl } in
        let read = reads new (first_stop new at new.strands at) turn.tidy stop in
        absurd (no-stop old new turn decide order.0 order.1 at (reached-count (sizes new) greedy.0 ∙ count-of new.strands) greedy.1.stuck
        read.strand (slice_index at read.strand) read.count read.socket refl read.next)
