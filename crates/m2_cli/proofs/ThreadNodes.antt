-- A node of a run on threads as one of one center: its records are over the scenario's links, no two of one peer, and it has its centers.
use Rattle.std.proofs.Common.{◌≡◌, ℕ, zero, suc, ◌+◌, ◌<◌, inl, inr, Bool, true, false, ◌==◌, if◌then◌else◌, List, [], ◌∷◌, ◌++◌, length, map, Option, Some, None, refl, sym, ap, subst, ◌∙◌, arith}
use Rattle.std.specs.Prelude.{slice_get}
use Rattle.std.specs.List.{AllByRecursion, IsDistinct, filter, flat_map}
use Rattle.std.proofs.lemmas.Bool.{eq-eqb, eqb-true}
use Rattle.std.proofs.lemmas.Option.{get_or_from_slice_get, none-some, same_Some, slice_get_within}
use Rattle.m2_exact.proofs.m2_script.Lists.{item_at}
use Rattle.m2_exact.specs.m2_script.Made.{records_of}
use Rattle.m2_exact.specs.m2_script.m2_center.Center.{CenterNow}
use Rattle.m2_exact.specs.m2_script.m2_record.RecordNow.{RecordNow}
use Rattle.m2_fabric.proofs.m2_lemmas.Lists.{all_append, all_by_places, all_map, all_so}
use Rattle.m2_promise.proofs.Lists.{flat_one, image_of}
use Rattle.m2_promise.proofs.m2_links_go_on.m2_growth.Among.{each_by, mapped_one, of_each}
use Rattle.m2_promise.specs.AtEnd.{AreCentersOf, HaveTheSame, Named, named}
use Rattle.m2_run.specs.m2_node.Homes.{home_at, home_of_node, is_at_home}
use Rattle.m2_run.specs.m2_node.Nodes.{RunNodeNow, as_one, records_in}
use Rattle.m2_run.specs.m2_node.Planned.{side_in, sides_in}
use Rattle.m2_run.specs.m2_node.Way.{IsNodeOf}
use Rattle.m2_run.specs.m2_links_go_on.LogLaws.{logging_in}
use Rattle.m2_run.specs.m2_links_go_on.Logged.{AreOfTheirPeers, IsLogged, LoggingNow}
use Rattle.m2_run.specs.m2_links_go_on.Made.{NodeMade, SideMade, side_made}
use Rattle.m2_run.specs.m2_links_go_on.OfPeers.{AreOfPeers}
use Rattle.m2_run.specs.m2_links_go_on.m2_growth.Halves.{IsOneOf}
use Rattle.m2_scenario.specs.Draft.{DraftLine}
use Rattle.m2_scenario.specs.Valid.{HasCenters, IsSound}
use Rattle.m2_scenario.specs.declared.line.Line.{Line}
use Rattle.m2_scenario.specs.declared.link.Link.{Link}
use Rattle.m2_scenario.specs.declared.node.Node.{Node}
use Rattle.m2_scenario.specs.m2_dispatch.Heard.{heard_by}
use Rattle.m2_scenario.specs.m2_dispatch.declared.logged.Logged.{Logged}

abbrev Center : Type 0
Center = CenterNow (List Logged)

-- ---- lists

pub at_one : {X : Type 0} (xs : List X) (i : ℕ) (x : X) → slice_get xs i ≡ Some x → IsOneOf x xs
at_one [] i x e = absurd (none-some x e)
at_one (y ∷ xs) zero x e = inl (sym (same_Some y x e))
at_one (y ∷ xs) (suc i) x e = inr (at_one xs i x e)

filtered : {X : Type 0} (p : X → Bool) (x : X) (xs : List X) → IsOneOf x (filter p xs) → IsOneOf x xs
filtered p x [] one = absurd one
filtered p x (y ∷ xs) one = by (p y) one (filtered p x xs)
  where
    by : (b : Bool) → IsOneOf x (if b then y ∷ filter p xs else filter p xs) → (IsOneOf x (filter p xs) → IsOneOf x xs) → IsOneOf x (y ∷ xs)
    by true (inl e) rest = inl e
    by true (inr h) rest = inr (rest h)
    by false h rest = inr (rest h)

filtered_so : {X : Type 0} (p : X → Bool) (x : X) (xs : List X) → IsOneOf x (filter p xs) → p x ≡ true
filtered_so p x [] one = absurd one
filtered_so p x (y ∷ xs) one = by (p y) refl one (filtered_so p x xs)
  where
    by : (b : Bool) → p y ≡ b → IsOneOf x (if b then y ∷ filter p xs else filter p xs) → (IsOneOf x (filter p xs) → p x ≡ true) → p x ≡ true
    by true e (inl same) rest = ap p same ∙ e
    by true e (inr h) rest = rest h
    by false e h rest = rest h

in_filter : {X : Type 0} (p : X → Bool) (x : X) (xs : List X) → IsOneOf x xs → p x ≡ true → IsOneOf x (filter p xs)
in_filter p x [] one so = absurd one
in_filter p x (y ∷ xs) (inl e) so = subst (λ b. IsOneOf x (if b then y ∷ filter p xs else filter p xs)) (sym (ap p (sym e) ∙ so)) (inl e)
in_filter p x (y ∷ xs) (inr h) so = by (p y) (in_filter p x xs h so)
  where
    by : (b : Bool) → IsOneOf x (filter p xs) → IsOneOf x (if b then y ∷ filter p xs else filter p xs)
    by true one = inr one
    by false one = one

-- ---- records of centers

abbrev pub records_of_all : List Center → List RecordNow
records_of_all cs = flat_map (λ (c : Center). c.records) cs

-- what holds of the records of each holds of all of them
pub all_records : (P : RecordNow → Type 0) (cs : List Center) → AllByRecursion (λ (c : Center). AllByRecursion P c.records) cs → AllByRecursion P (records_of_all cs)
all_records P [] all = tt
all_records P (c ∷ cs) all = all_append P c.records (records_of_all cs) all.0 (all_records P cs all.1)

abbrev place_in : RecordNow → ℕ
place_in r = r.place

-- records are of other peers than others, where each of the one is
apart_all : (xs ys : List RecordNow) → AreOfTheirPeers xs → AreOfTheirPeers ys → AllByRecursion (λ (x : RecordNow). AllByRecursion (λ (y : RecordNow). (x.place == y.place) ≡ false) ys) xs → AreOfTheirPeers (xs ++ ys)
unfolding IsDistinct
apart_all [] ys mine theirs apart = theirs
apart_all (x ∷ xs) ys mine theirs apart = (behind xs mine.0, apart_all xs ys mine.1 theirs apart.1)
  where
    in_ys : (zs : List RecordNow) → AllByRecursion (λ (y : RecordNow). (x.place == y.place) ≡ false) zs → AllByRecursion (λ (q : ℕ). (x.place == q) ≡ false) (map place_in zs)
    in_ys [] all = tt
    in_ys (z ∷ zs) all = (all.0, in_ys zs all.1)

    behind : (zs : List RecordNow) → AllByRecursion (λ (q : ℕ). (x.place == q) ≡ false) (map place_in zs) → AllByRecursion (λ (q : ℕ). (x.place == q) ≡ false) (map place_in (zs ++ ys))
    behind [] all = in_ys ys apart.0
    behind (z ∷ zs) all = (all.0, behind zs all.1)

module _ (home : ℕ → ℕ) where
  abbrev AreAtHome : ℕ → List RecordNow → Type 0
  AreAtHome j rs = AllByRecursion (λ (r : RecordNow). home r.place ≡ j) rs

  -- each center has the records of which this thread is the home, from one on
  abbrev ByHome : ℕ → List Center → Type 0
  ByHome j [] = Unit {0}
  ByHome j (c ∷ cs) = (AreOfTheirPeers c.records × AreAtHome j c.records) × ByHome (suc j) cs

  unlike : (j : ℕ) (x y : RecordNow) → home x.place ≡ j → j < home y.place → (x.place == y.place) ≡ false
  unlike j x y here there = by (x.place == y.place) refl
    where
      by : (b : Bool) → (x.place == y.place) ≡ b → b ≡ false
      by true e = absurd (let same = ap home (eqb-true x.place y.place e) in omega (arith, here, there, same))
      by false e = refl

  later : (i j : ℕ) (cs : List Center) → i < j → ByHome j cs → AllByRecursion (λ (r : RecordNow). i < home r.place) (records_of_all cs)
  later i j [] h all = tt
  later i j (c ∷ cs) h all =
      all_append (λ (r : RecordNow). i < home r.place) c.records (records_of_all cs)
      (all_so (λ (r : RecordNow). home r.place ≡ j) (λ (r : RecordNow). i < home r.place) (λ r e. omega (arith, e, h)) c.records all.0.1)
      (later i (suc j) cs (omega (arith, h)) all.1)

  pub distinct_by_home : (j : ℕ) (cs : List Center) → ByHome j cs → AreOfTheirPeers (records_of_all cs)
  unfolding IsDistinct
  distinct_by_home j [] all = tt
  distinct_by_home j (c ∷ cs) all =
      apart_all c.records (records_of_all cs) all.0.0 (distinct_by_home (suc j) cs all.1)
      (all_so (λ (x : RecordNow). home x.place ≡ j) (λ (x : RecordNow). AllByRecursion (λ (y : RecordNow). (x.place == y.place) ≡ false) (records_of_all cs))
      (λ x here. all_so (λ (y : RecordNow). j < home y.place) (λ (y : RecordNow). (x.place == y.place) ≡ false) (λ y there. unlike j x y here there) (records_of_all cs)
      (later j (suc j) cs (omega arith) all.1)) c.records all.0.1)

-- ---- a node

-- as what a record begins tells how it is named
abbrev pub name_of : SideMade → Named
name_of s = record { place = s.place; policy = s.facts.policy; number = s.facts.node.number; fast = s.facts.node.fast; salt = s.facts.node.salt }

logging_all : {Y : Type 0} (f : LoggingNow (List Logged) → List Y) (cs : List Center) → flat_map (λ (c : Center). f (logging_in c)) cs ≡ flat_map f (map logging_in cs)
logging_all f [] = refl
logging_all f (c ∷ cs) = ap (λ l. f (logging_in c) ++ l) (logging_all f cs)

module _ (may_give : ℕ → Type 0) (moment : ℕ) (nodes : List Node) (links : List Link) (lines : List Line) (k : ℕ) (x : Node) (n : RunNodeNow) (is : IsNodeOf may_give moment nodes links lines k x n) where
  abbrev sides : List SideMade
  sides = sides_in nodes links lines k is.word

  abbrev homed : ℕ → SideMade → Bool
  homed j s = is_at_home nodes x.centers j s.place

  -- a center's records begin as the sides that are at home there
  its_sides : (j : ℕ) (c : Center) → slice_get n.centers j ≡ Some c → map side_made c.records ≡ filter (homed j) sides
  its_sides j c e = ap (λ (m : NodeMade). m.sides) (is.each j c e).way.course.made

  its_side : (j : ℕ) (c : Center) → slice_get n.centers j ≡ Some c → (r : RecordNow) → IsOneOf r c.records → IsOneOf (side_made r) (filter (homed j) sides)
  its_side j c e r one = subst (IsOneOf (side_made r)) (its_sides j c e) (mapped_one side_made r c.records one)

  abbrev home : ℕ → ℕ
  home place = home_at nodes x.centers place

  pub at_home : (j : ℕ) (c : Center) → slice_get n.centers j ≡ Some c → AreAtHome home j c.records
  at_home j c e = each_by (λ (r : RecordNow). home r.place ≡ j) c.records (λ r one. eqb-true (home r.place) j (filtered_so (homed j) (side_made r) sides (its_side j c e r one)))

  by_home : (j : ℕ) (cs : List Center) → ((i : ℕ) (c : Center) → slice_get cs i ≡ Some c → slice_get n.centers (j + i) ≡ Some c) → ByHome home j cs
  by_home j [] at = tt
  by_home j (c ∷ cs) at =
      let e : slice_get n.centers j ≡ Some c = ap (slice_get n.centers) (let h : j ≡ j + 0 = omega arith in h) ∙ at 0 c refl in (
        ((is.each j c e).way.logged.peers, at_home j c e),
        by_home (suc j) cs (λ i d f. ap (slice_get n.centers) (let h : suc j + i ≡ j + suc i = omega arith in h) ∙ at (suc i) d f),
      )

  pub distinct : AreOfTheirPeers (records_in n)
  distinct = distinct_by_home home 0 n.centers (by_home 0 n.centers (λ i c e. ap (slice_get n.centers) (let h : 0 + i ≡ i = omega arith in h) ∙ e))

  pub are_centers : AreCentersOf (as_one n) (map logging_in n.centers)
  are_centers = record {
    records = logging_all (λ (l : LoggingNow (List Logged)). l.records) n.centers;
    fast = logging_all (λ (l : LoggingNow (List Logged)). l.out.fast) n.centers;
    queued = logging_all (λ (l : LoggingNow (List Logged)). l.queued.inner) n.centers;
    logged = all_map (IsLogged heard_by) logging_in n.centers (all_by_places (λ (c : Center). IsLogged heard_by (logging_in c)) n.centers (λ j c e. (is.each j c e).way.logged));
    peers = all_map (λ (l : LoggingNow (List Logged)). AreOfPeers heard_by l.records l.out l.queued) logging_in n.centers
        (all_by_places (λ (c : Center). AreOfPeers heard_by c.records c.out c.queued) n.centers (λ j c e. (is.each j c e).way.peers));
  }

  -- ---- how its records are named

  abbrev over : List RecordNow
  over = records_of nodes links k is.word

  -- a record of a center is named as one over a link
  named_there : (j : ℕ) (c : Center) → slice_get n.centers j ≡ Some c → (r : RecordNow) → IsOneOf r c.records → IsOneOf (named r) (map named over)
  named_there j c e r one =
      let it = image_of (side_in lines k) (side_made r) over (filtered (homed j) (side_made r) sides (its_side j c e r one)) in
      subst (λ m. IsOneOf m (map named over)) (sym (ap name_of it.is)) (mapped_one named it.item over it.there)

  all_there : AllByRecursion (λ (r : RecordNow). IsOneOf (named r) (map named over)) (records_in n)
  all_there =
      all_records (λ (r : RecordNow). IsOneOf (named r) (map named over)) n.centers
      (all_by_places (λ (c : Center). AllByRecursion (λ (r : RecordNow). IsOneOf (named r) (map named over)) c.records) n.centers
      (λ j c e. each_by (λ (r : RecordNow). IsOneOf (named r) (map named over)) c.records (named_there j c e)))

  there : (m : Named) → IsOneOf m (map named (records_in n)) → IsOneOf m (map named over)
  there m one =
      let it = image_of named m (records_in n) one in
      subst (λ q. IsOneOf q (map named over)) (sym it.is) (of_each (λ (r : RecordNow). IsOneOf (named r) (map named over)) it.item (records_in n) all_there it.there)

  module _ (draft : List DraftLine) (sound : IsSound nodes links draft) (mine : slice_get nodes k ≡ Some x) where
    has_centers : HasCenters x
    has_centers = subst HasCenters (get_or_from_slice_get nodes k x x mine) (sound.centers k x (slice_get_within nodes k x mine))

    home_within : (place : ℕ) → home place < length n.centers
    home_within place = by (slice_get nodes place)
      where
        by : (o : Option Node) → home_of_node x.centers o < length n.centers
        by None = omega (arith, is.count, has_centers.one)
        by (Some y) = omega (arith, is.count, has_centers.one)

    back : (m : Named) → IsOneOf m (map named over) → IsOneOf m (map named (records_in n))
    back m one =
        let it = image_of named m over one in
        let side = side_in lines k it.item in
        let c = item_at n.centers (home it.item.place) (home_within it.item.place) in
        let here = in_filter (homed (home it.item.place)) side sides (mapped_one (side_in lines k) it.item over it.there) (eq-eqb (home it.item.place) (home it.item.place) refl) in
        let r = image_of side_made side c.0.records (subst (IsOneOf side) (sym (its_sides (home it.item.place) c.0 c.1)) here) in
        subst (λ q. IsOneOf q (map named (records_in n))) (sym (it.is ∙ ap name_of r.is))
        (mapped_one named r.item (records_in n) (flat_one (λ (d : Center). d.records) c.0 r.item n.centers (at_one n.centers (home it.item.place) c.0 c.1) r.there))

    pub named_so : HaveTheSame (map named (records_in n)) (map named over)
    named_so = record { there = there; back = back }
