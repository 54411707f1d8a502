-- What the nodes of a kept run leave: they listen at different places, no two records of one are towards the same peer, and each is one of a
-- list in whatever order.
use Rattle.std.proofs.Common.{◌≡◌, ℕ, zero, suc, ◌+◌, ◌<◌, ◌%◌, inl, inr, Bool, true, false, ◌&&◌, ◌==◌, if◌then◌else◌, List, [], ◌∷◌, ◌++◌, length, map, reverse, Option, Some, None, refl, sym, ap, subst, ◌∙◌, arith}
use Rattle.std.specs.Prelude.{AllPairs, slice_get}
use Rattle.std.specs.List.{AllByRecursion, IsDistinct, flat_map}
use Rattle.std.specs.Option.{option_map}
use Rattle.std.proofs.lemmas.Bool.{and_parts, eqb-true}
use Rattle.std.proofs.lemmas.List.{map-append}
use Rattle.std.proofs.lemmas.List.Elements.{recursion_from_All}
use Rattle.std.proofs.lemmas.Option.{none-some, same_Some}
use Rattle.m2_addr.specs.declared.addr.Addr.{Addr}
use Rattle.m2_bytes.proofs.m2_lemmas.Booleans.{both_of_and, not_true_is_false}
use Rattle.m2_bytes.proofs.m2_lemmas.Lists.{all_append, all_last, all_map, all_reverse, all_so_of}
use Rattle.m2_bytes.proofs.m2_lemmas.Numbers.{test_turned}
use Rattle.m2_dispatch.specs.declared.logged.Logged.{Logged}
use Rattle.m2_fabric.specs.SimFabric.{same_place}
use Rattle.m2_node.proofs.m2_links_go_on.m2_growth.Among.{one_back, one_front}
use Rattle.m2_node.specs.m2_links_go_on.m2_growth.Halves.{IsOneOf}
use Rattle.m2_node.specs.m2_links_go_on.Left.{LeftNode, all_halves}
use Rattle.m2_journal.specs.m2_handshake.Asks.{same_addr}
use Rattle.m2_node.specs.m2_script.m2_record.RecordNow.{RecordNow}
use Rattle.m2_node.proofs.Places.{joined_first, reverse_first}
use Rattle.m2_scenario.specs.declared.node.Node.{Node}
use Rattle.m2_scenario.specs.Valid.{AreApart}
use Rattle.m2_node.specs.m2_script.Nodes.{address_of}
use Rattle.m2_node.specs.m2_script.m2_center.Center.{CenterNow}
use Rattle.m2_node.specs.m2_script.m2_center.Home.{home_of}
use Rattle.m2_node.specs.m2_script.m2_center.m2_turn.Sessions.{peer_of}
use Rattle.m2_run.proofs.JoinedHalves.{left_at}
use Rattle.m2_node.specs.Nodes.{KeptNow, loose_at}
use Rattle.m2_run.specs.Rests.{EndedCenterNow, loose_of}
use Rattle.m2_run.specs.Weaving.{SideNow, first_of, side_of, side_towards, towards}

-- ---- in the other order

map_turned : {X Y : Type 0} (f : X → Y) (xs : List X) → map f (reverse xs) ≡ reverse (map f xs)
map_turned f [] = refl
map_turned f (x ∷ xs) =
    ap (map f) (reverse_first x xs) ∙ map-append f (reverse xs) (x ∷ []) ∙ ap (λ ys. ys ++ f x ∷ []) (map_turned f xs) ∙ sym (reverse_first (f x) (map f xs))

one_turned : {X : Type 0} (x : X) (xs : List X) → IsOneOf x xs → IsOneOf x (reverse xs)
one_turned x [] i = absurd i
one_turned x (y ∷ xs) (inl e) = subst (IsOneOf x) (sym (reverse_first y xs)) (one_back x (reverse xs) (y ∷ []) (inl e))
one_turned x (y ∷ xs) (inr i) = subst (IsOneOf x) (sym (reverse_first y xs)) (one_front x (reverse xs) (y ∷ []) (one_turned x xs i))

-- one that none of them is equal to goes last
distinct_last : {X : Type 0} (e : X → X → Bool) (xs : List X) (y : X) → IsDistinct e xs → AllByRecursion (λ x. e x y ≡ false) xs → IsDistinct e (xs ++ y ∷ [])
unfolding IsDistinct
distinct_last e [] y d all = (tt, tt)
distinct_last e (x ∷ xs) y d all = (all_last (λ z. e x z ≡ false) xs y d.0 all.0, distinct_last e xs y d.1 all.1)

distinct_turned : {X : Type 0} (e : X → X → Bool) → ((x y : X) → e x y ≡ false → e y x ≡ false) → (xs : List X) → IsDistinct e xs → IsDistinct e (reverse xs)
unfolding IsDistinct
distinct_turned e swaps [] d = tt
distinct_turned e swaps (x ∷ xs) d =
    subst (IsDistinct e) (sym (reverse_first x xs))
    (distinct_last e (reverse xs) x (distinct_turned e swaps xs d.1)
    (all_reverse (λ y. e y x ≡ false) xs (all_so_of (λ y. e x y ≡ false) (λ y. e y x ≡ false) xs (λ y p. swaps x y p) d.0)))

-- ---- places

places_turned : (a b : Addr) → same_place a b ≡ false → same_place b a ≡ false
places_turned a b p = ap (λ c. c && (b.port == a.port)) (test_turned b.ip a.ip) ∙ ap (λ c. (a.ip == b.ip) && c) (test_turned b.port a.port) ∙ p

parted : (x y : Node) → AreApart x y → same_place x.at y.at ≡ false
parted x y apart = by (same_place x.at y.at) refl
  where
    by : (t : Bool) → same_place x.at y.at ≡ t → t ≡ false
    by false e = refl
    by true e = let same = and_parts (x.at.ip == y.at.ip) (x.at.port == y.at.port) e in absurd (apart.sockets (eqb-true x.at.ip y.at.ip same.0, eqb-true x.at.port y.at.port same.1))

at_all : (x : Node) (xs : List Node) → AllByRecursion (AreApart x) xs → AllByRecursion (λ y. same_place x.at y ≡ false) (map address_of xs)
at_all x [] all = tt
at_all x (y ∷ xs) all = (parted x y all.0, at_all x xs all.1)

addresses_distinct : (nodes : List Node) → AllPairs AreApart nodes → IsDistinct same_place (map address_of nodes)
unfolding IsDistinct
addresses_distinct [] pairs = tt
addresses_distinct (x ∷ xs) pairs = (
  at_all x xs (recursion_from_All (AreApart x) xs (λ j d b. pairs 0 (suc j) d (omega arith) (omega (arith, b)))),
  addresses_distinct xs (λ i j d a b. pairs (suc i) (suc j) d (omega (arith, a)) (omega (arith, b))),
)

-- ---- peers

-- of two lists in which none is equal to another, and none of the one to one of the other
distinct_both : {X : Type 0} (e : X → X → Bool) (xs ys : List X) → IsDistinct e xs → IsDistinct e ys → AllByRecursion (λ x. AllByRecursion (λ y. e x y ≡ false) ys) xs → IsDistinct e (xs ++ ys)
unfolding IsDistinct
distinct_both e [] ys p q across = q
distinct_both e (x ∷ xs) ys p q across = (all_append (λ y. e x y ≡ false) xs ys p.0 across.0, distinct_both e xs ys p.1 q across.1)

-- the peers of these records are at home with thread j of so many
abbrev pub AreAtHome : (centers j : ℕ) → List RecordNow → Type 0
AreAtHome centers j rs = AllByRecursion (λ (r : RecordNow). home_of (peer_of r) centers ≡ j) rs

-- so are those of another thread, which is one behind the first
abbrev AreBehind : (centers first : ℕ) → List RecordNow → Type 0
AreBehind centers first rs = AllByRecursion (λ (r : RecordNow). first < home_of (peer_of r) centers) rs

other_peer : (centers first : ℕ) (a b : Addr) → home_of a centers ≡ first → first < home_of b centers → same_addr a b ≡ false
other_peer centers first a b p q = not_true_is_false (same_addr a b) (λ same. absurd (omega (arith, p, q, homes same)))
  where
    homes : same_addr a b ≡ true → home_of a centers ≡ home_of b centers
    homes same =
        let two = both_of_and (((a.kind == b.kind) && (a.nonce == b.nonce)) && (a.ip == b.ip)) (a.port == b.port) same in
        let more = both_of_and ((a.kind == b.kind) && (a.nonce == b.nonce)) (a.ip == b.ip) two.0 in
        let nonce = both_of_and (a.kind == b.kind) (a.nonce == b.nonce) more.0 in
        ap (λ n. (n + a.nonce) % centers) (eqb-true a.port b.port two.1) ∙ ap (λ n. (b.port + n) % centers) (eqb-true a.nonce b.nonce nonce.1)

peers_other : (centers first : ℕ) (rs ss : List RecordNow) → AreAtHome centers first rs → AreBehind centers first ss →
    AllByRecursion (λ a. AllByRecursion (λ b. same_addr a b ≡ false) (map peer_of ss)) (map peer_of rs)
peers_other centers first [] ss here behind = tt
peers_other centers first (r ∷ rs) ss here behind = (
  all_map (λ b. same_addr (peer_of r) b ≡ false) peer_of ss
      (all_so_of (λ (s : RecordNow). first < home_of (peer_of s) centers) (λ (s : RecordNow). same_addr (peer_of r) (peer_of s) ≡ false) ss (λ s q. other_peer centers first (peer_of r) (peer_of s) here.0 q) behind),
  peers_other centers first rs ss here.1 behind,
)

abbrev records_of_all : List (CenterNow (List Logged)) → List RecordNow
records_of_all cs = flat_map (λ (c : CenterNow (List Logged)). c.records) cs

-- those of the centers behind the first one
home_next : (centers first : ℕ) (c : CenterNow (List Logged)) (cs : List (CenterNow (List Logged))) →
    ((j : ℕ) (d : CenterNow (List Logged)) → slice_get (c ∷ cs) j ≡ Some d → AreAtHome centers (first + j) d.records) →
    (j : ℕ) (d : CenterNow (List Logged)) → slice_get cs j ≡ Some d → AreAtHome centers (first + 1 + j) d.records
home_next centers first c cs home j d e = subst (λ i. AreAtHome centers i d.records) (let same : first + suc j ≡ first + 1 + j = omega arith in same) (home (suc j) d e)

home_first : (centers first : ℕ) (c : CenterNow (List Logged)) (cs : List (CenterNow (List Logged))) →
    ((j : ℕ) (d : CenterNow (List Logged)) → slice_get (c ∷ cs) j ≡ Some d → AreAtHome centers (first + j) d.records) → AreAtHome centers first c.records
home_first centers first c cs home = subst (λ i. AreAtHome centers i c.records) (let same : first + 0 ≡ first = omega arith in same) (home 0 c refl)

all_behind : (centers before first : ℕ) (cs : List (CenterNow (List Logged))) → before < first →
    ((j : ℕ) (c : CenterNow (List Logged)) → slice_get cs j ≡ Some c → AreAtHome centers (first + j) c.records) → AreBehind centers before (records_of_all cs)
all_behind centers before first [] less home = tt
all_behind centers before first (c ∷ cs) less home =
    all_append (λ (r : RecordNow). before < home_of (peer_of r) centers) c.records (records_of_all cs)
    (all_so_of (λ (r : RecordNow). home_of (peer_of r) centers ≡ first) (λ (r : RecordNow). before < home_of (peer_of r) centers) c.records (λ r e. omega (arith, e, less)) (home_first centers first c cs home))
    (all_behind centers before (first + 1) cs (omega (arith, less)) (home_next centers first c cs home))

-- No two records of a node are towards one peer: those of a center aren't, and those of another have peers that are at home elsewhere.
pub peers_apart : (centers first : ℕ) (cs : List (CenterNow (List Logged))) → ((j : ℕ) (c : CenterNow (List Logged)) → slice_get cs j ≡ Some c → AreAtHome centers (first + j) c.records) →
    ((j : ℕ) (c : CenterNow (List Logged)) → slice_get cs j ≡ Some c → IsDistinct same_addr (map peer_of c.records)) → IsDistinct same_addr (map peer_of (records_of_all cs))
unfolding IsDistinct
peers_apart centers first [] home own = tt
peers_apart centers first (c ∷ cs) home own =
    subst (IsDistinct same_addr) (sym (map-append peer_of c.records (records_of_all cs)))
    (distinct_both same_addr (map peer_of c.records) (map peer_of (records_of_all cs)) (own 0 c refl)
    (peers_apart centers (first + 1) cs (home_next centers first c cs home) (λ j d e. own (suc j) d e))
    (peers_other centers first c.records (records_of_all cs) (home_first centers first c cs home) (all_behind centers first (first + 1) cs (omega arith) (home_next centers first c cs home))))

-- ---- what nodes leave

abbrev left_each : List Node → List KeptNow → List LeftNode
left_each [] kept = []
left_each (x ∷ nodes) [] = []
left_each (x ∷ nodes) (n ∷ kept) = left_at x.at n ∷ left_each nodes kept

-- that of the last one first
abbrev pub left_of_all : List Node → List KeptNow → List LeftNode
left_of_all nodes kept = reverse (left_each nodes kept)

ats_of_left : (nodes : List Node) (kept : List KeptNow) → length kept ≡ length nodes → map (λ (n : LeftNode). n.at) (left_each nodes kept) ≡ map address_of nodes
ats_of_left [] kept many = refl
ats_of_left (x ∷ nodes) [] many = absurd (omega (arith, many))
ats_of_left (x ∷ nodes) (n ∷ kept) many = ap (λ ats. x.at ∷ ats) (ats_of_left nodes kept (omega (arith, many)))

pub are_apart : (nodes : List Node) (kept : List KeptNow) → AllPairs AreApart nodes → length kept ≡ length nodes → IsDistinct same_place (map (λ (n : LeftNode). n.at) (left_of_all nodes kept))
are_apart nodes kept pairs many =
    subst (IsDistinct same_place) (sym (map_turned (λ (n : LeftNode). n.at) (left_each nodes kept) ∙ ap reverse (ats_of_left nodes kept many)))
    (distinct_turned same_place places_turned (map address_of nodes) (addresses_distinct nodes pairs))

-- each is one of them
one_each : (nodes : List Node) (kept : List KeptNow) (k : ℕ) (x : Node) (n : KeptNow) → slice_get nodes k ≡ Some x → slice_get kept k ≡ Some n → IsOneOf (left_at x.at n) (left_each nodes kept)
one_each [] kept k x n e f = absurd (none-some x e)
one_each (y ∷ nodes) [] k x n e f = absurd (none-some n f)
one_each (y ∷ nodes) (m ∷ kept) zero x n e f = inl (ap (λ (z : Node). left_at z.at n) (sym (same_Some y x e)) ∙ ap (left_at y.at) (sym (same_Some m n f)))
one_each (y ∷ nodes) (m ∷ kept) (suc k) x n e f = inr (one_each nodes kept k x n e f)

pub one_left : (nodes : List Node) (kept : List KeptNow) (k : ℕ) (x : Node) (n : KeptNow) → slice_get nodes k ≡ Some x → slice_get kept k ≡ Some n → IsOneOf (left_at x.at n) (left_of_all nodes kept)
one_left nodes kept k x n e f = one_turned (left_at x.at n) (left_each nodes kept) (one_each nodes kept k x n e f)

all_each : (P : LeftNode → Type 0) (nodes : List Node) (kept : List KeptNow) → ((k : ℕ) (x : Node) (n : KeptNow) → slice_get nodes k ≡ Some x → slice_get kept k ≡ Some n → P (left_at x.at n)) →
    AllByRecursion P (left_each nodes kept)
all_each P [] kept each = tt
all_each P (x ∷ nodes) [] each = tt
all_each P (x ∷ nodes) (n ∷ kept) each = (each 0 x n refl refl, all_each P nodes kept (λ k y m e f. each (suc k) y m e f))

pub each_left : (P : LeftNode → Type 0) (nodes : List Node) (kept : List KeptNow) → ((k : ℕ) (x : Node) (n : KeptNow) → slice_get nodes k ≡ Some x → slice_get kept k ≡ Some n → P (left_at x.at n)) →
    AllByRecursion P (left_of_all nodes kept)
each_left P nodes kept each = all_reverse P (left_each nodes kept) (all_each P nodes kept each)

pub halves_are : (nodes : List Node) (kept : List KeptNow) → length kept ≡ length nodes → all_halves (left_of_all nodes kept) ≡ loose_of kept
halves_are [] [] many = refl
halves_are [] (n ∷ kept) many = absurd (omega (arith, many))
halves_are (x ∷ nodes) [] many = absurd (omega (arith, many))
halves_are (x ∷ nodes) (n ∷ kept) many =
    joined_first (λ (m : LeftNode). m.halves) (left_at x.at n) (left_each nodes kept)
    ∙ ap (λ ls. ls ++ loose_at n) (halves_are nodes kept (omega (arith, many)))
    ∙ sym (joined_first loose_at n kept)

-- ---- the record towards another node

pub record IsTowards (j : ℕ) (r : RecordNow) (rs : List RecordNow) : Type 0 where
  pub one : IsOneOf r rs
  pub place : r.place ≡ j

pub is_towards : (j : ℕ) (r : RecordNow) (rs : List RecordNow) → towards j rs ≡ Some r → IsTowards j r rs
is_towards j r [] e = absurd (none-some r e)
is_towards j r (s ∷ rs) e = by (s.place == j) refl e (is_towards j r rs)
  where
    by : (b : Bool) → (s.place == j) ≡ b → (if b then Some s else towards j rs) ≡ Some r → (towards j rs ≡ Some r → IsTowards j r rs) → IsTowards j r (s ∷ rs)
    by true p h rest = let same = same_Some s r h in record { one = inl (sym same); place = ap (λ (x : RecordNow). x.place) (sym same) ∙ eqb-true s.place j p }
    by false p h rest = let its = rest h in record { one = inr its.one; place = its.place }

-- and the thread of a node that has it
pub record IsSideAt (j : ℕ) (c : EndedCenterNow) (r : RecordNow) (cs : List EndedCenterNow) : Type 0 where
  pub place : ℕ
  pub there : slice_get cs place ≡ Some c
  pub side : towards j c.records ≡ Some r

pub side_at : (j : ℕ) (cs : List EndedCenterNow) (c : EndedCenterNow) (r : RecordNow) → side_towards j cs ≡ Some (side_of c r) → IsSideAt j c r cs
side_at j [] c r e = absurd (none-some (side_of c r) e)
side_at j (d ∷ cs) c r e = by (towards j d.records) refl e (side_at j cs c r)
  where
    by : (o : Option RecordNow) → towards j d.records ≡ o → first_of (option_map (side_of d) o) (side_towards j cs) ≡ Some (side_of c r) →
        (side_towards j cs ≡ Some (side_of c r) → IsSideAt j c r cs) → IsSideAt j c r (d ∷ cs)
    by (Some s) is h rest =
        let same : side_of d s ≡ side_of c r = same_Some (side_of d s) (side_of c r) h in
        let center : d ≡ c = ap (λ (x : SideNow). x.center) same in
        record {
          place = 0;
          there = ap (λ x. Some x) center;
          side = subst (λ (x : EndedCenterNow). towards j x.records ≡ Some r) center (is ∙ ap (λ (x : SideNow). Some x.record_) same);
        }
    by None is h rest = let its = rest h in record { place = suc its.place; there = its.there; side = its.side }
