-- New records over a node's links, of a run: as what `sim` has, but for how long they wait, of those whose peers are at home with a thread.
use Rattle.std.proofs.Common.{◌≡◌, ◌++◌, ◌==◌, ◌∙◌, ℕ, Bool, true, false, List, [], ◌∷◌, map, Option, Some, None, refl, sym, ap, subst}
use Rattle.std.specs.Prelude.{if◌then◌else◌, slice_get}
use Rattle.std.specs.List.{AllByRecursion, IsDistinct}
use Rattle.std.specs.Option.{option_map, option_to_list}
use Rattle.std.proofs.lemmas.Bool.{eq-eqb, ne_eqb}
use Rattle.std.proofs.lemmas.List.{map-append}
use Rattle.std.proofs.lemmas.List.Elements.{filter-append}
use Rattle.m2_fabric.proofs.m2_lemmas.Lists.{all_map}
use Rattle.m2_links_go_on.specs.Made.{IsBegun, side_made}
use Rattle.m2_journal.specs.declared.facts.PlanStep.{PlanStep}
use Rattle.m2_links_go_on.specs.Logged.{AreOfTheirPeers}
use Rattle.m2_script.specs.m2_record.RecordNow.{RecordNow}
use Rattle.m2_scenario.specs.declared.link.Link.{Link}
use Rattle.m2_scenario.specs.declared.node.Node.{Node}
use Rattle.m2_script.specs.Laws.{bare}
use Rattle.m2_script.specs.Made.{new_towards, over, records_of, roomless}
use Rattle.m2_script.specs.declared.made.Towards.{Towards}
use Rattle.m2_script.proofs.Over.{IsOver, all_over, all_through, map_through}
use Rattle.m2_node.specs.Homes.{at_home, home_at, is_at_home}
use Rattle.m2_node.specs.Planned.{AreNewRecords, begun_as, side_by}
use Rattle.m2_node.proofs.Filters.{distinct_filter}
use Rattle.m2_bytes.proofs.m2_lemmas.Lists.{all_filter}

-- as a record of a run begins, without its room
abbrev pub new_one : RecordNow → RecordNow
new_one r = roomless (begun_as r)

-- what there may be, before and behind a map
pub maybe_mapped : {X Y : Type 0} (f : X → Y) (o : Option X) → option_to_list (option_map f o) ≡ map f (option_to_list o)
maybe_mapped f None = refl
maybe_mapped f (Some x) = refl

-- ---- whose peer is at home there

module _ (nodes : List Node) (centers j number word : ℕ) (t : Towards) where
  -- of the one over a link that one that is towards a peer that is, and no other
  kept_by : (a b : Option Node) (c : Bool) → is_at_home nodes centers j t.place ≡ c →
      at_home nodes centers j (option_to_list (new_towards a b number word t)) ≡ (if c then option_to_list (new_towards a b number word t) else [])
  kept_by (Some a) (Some b) c is =
      ap (λ d. if d then option_to_list (new_towards (Some a) (Some b) number word t) else []) is
  kept_by (Some a) None true is = refl
  kept_by (Some a) None false is = refl
  kept_by None b true is = refl
  kept_by None b false is = refl

  pub one_at_home : (o : Option Towards) (r : Option RecordNow) → o ≡ Some t → home_at nodes centers t.place ≡ j → option_map roomless r ≡ option_map new_one (over nodes number word o) →
      map roomless (option_to_list r) ≡ map new_one (at_home nodes centers j (option_to_list (over nodes number word o)))
  one_at_home o r some home is =
      let peer = slice_get nodes t.place in
      let mine = slice_get nodes number in
      let kept = kept_by mine peer true (eq-eqb (home_at nodes centers t.place) j home) in
      sym (maybe_mapped roomless r) ∙ ap option_to_list is ∙ maybe_mapped new_one (over nodes number word o)
      ∙ ap (λ p. map new_one (option_to_list (over nodes number word p))) some
      ∙ ap (map new_one) (sym kept)
      ∙ ap (λ p. map new_one (at_home nodes centers j (option_to_list (over nodes number word p)))) (sym some)

  pub none_at_home : (o : Option Towards) → o ≡ Some t → (home_at nodes centers t.place ≡ j → ⊥) → [] ≡ map new_one (at_home nodes centers j (option_to_list (over nodes number word o)))
  none_at_home o some elsewhere =
      ap (map new_one) (sym (kept_by (slice_get nodes number) (slice_get nodes t.place) false (ne_eqb (home_at nodes centers t.place) j elsewhere)))
      ∙ ap (λ p. map new_one (at_home nodes centers j (option_to_list (over nodes number word p)))) (sym some)

-- those of one link and those of the links behind it
pub next_at_home : (nodes : List Node) (centers j : ℕ) (first rest : List RecordNow) →
    map new_one (at_home nodes centers j first) ++ map new_one (at_home nodes centers j rest) ≡ map new_one (at_home nodes centers j (first ++ rest))
next_at_home nodes centers j first rest =
    sym (map-append new_one (at_home nodes centers j first) (at_home nodes centers j rest))
    ∙ ap (map new_one) (sym (filter-append (λ (r : RecordNow). is_at_home nodes centers j r.place) first rest))

-- ---- what they show

all_yes : {X : Type 0} (P : X → Type 0) → ((x : X) → P x) → (xs : List X) → AllByRecursion P xs
all_yes P so [] = tt
all_yes P so (x ∷ xs) = (so x, all_yes P so xs)

-- what they show is the same, where it is of each
map_alike : {X Y : Type 0} (f g : X → Y) (xs : List X) → AllByRecursion (λ x. f x ≡ g x) xs → map f xs ≡ map g xs
map_alike f g [] all = refl
map_alike f g (x ∷ xs) all = ap (λ y. y ∷ map f xs) all.0 ∙ ap (λ ys. g x ∷ ys) (map_alike f g xs all.1)

map_twice : {X Y Z : Type 0} (f : Y → Z) (g : X → Y) (h : X → Z) → ((x : X) → f (g x) ≡ h x) → (xs : List X) → map f (map g xs) ≡ map h xs
map_twice f g h so [] = refl
map_twice f g h so (x ∷ xs) = ap (λ y. y ∷ map f (map g xs)) (so x) ∙ ap (λ ys. h x ∷ ys) (map_twice f g h so xs)

-- where the room doesn't count, a record is begun
begun_roomless : (r : RecordNow) → IsBegun (roomless r) → IsBegun r
begun_roomless r e = ap (λ (x : RecordNow). record x { room = r.room }) e

module _ (nodes : List Node) (links : List Link) (k centers j word : ℕ) (rs : List RecordNow) (new : AreNewRecords nodes links k centers j word rs) where
  abbrev all_of : List RecordNow
  all_of = at_home nodes centers j (records_of nodes links k word)

  pub are_begun : AllByRecursion IsBegun rs
  are_begun =
      all_through roomless IsBegun IsBegun begun_roomless rs
      (subst (AllByRecursion IsBegun) (sym new) (all_map IsBegun new_one all_of (all_yes (λ (r : RecordNow). IsBegun (new_one r)) (λ r. refl) all_of)))

  -- what they show, whatever their room, is what new ones show
  shown : {Y : Type 0} (f g : RecordNow → Y) → ((r : RecordNow) → f (roomless r) ≡ f r) → ((r : RecordNow) → f (new_one r) ≡ g r) → map f rs ≡ map g all_of
  shown f g so is = sym (map_through roomless f so rs) ∙ ap (map f) new ∙ map_twice f new_one g is all_of

  pub peers_of : AreOfTheirPeers (records_of nodes links k word) → AreOfTheirPeers rs
  peers_of peers =
      let place : RecordNow → ℕ = λ (r : RecordNow). r.place in
      subst (IsDistinct (λ (a b : ℕ). a == b)) (sym (shown place place (λ r. refl) (λ r. refl)))
      (distinct_filter (λ (a b : ℕ). a == b) place (λ (r : RecordNow). is_at_home nodes centers j r.place) (records_of nodes links k word) peers)

  pub sides_of : (plan : ℕ → List PlanStep) → map (λ (r : RecordNow). record (side_made r) { plan = r.plan ++ plan r.place }) rs ≡ map (side_by plan) all_of
  sides_of plan = shown (λ (r : RecordNow). record (side_made r) { plan = r.plan ++ plan r.place }) (side_by plan) (λ r. refl) (λ r. refl)

  bare_one : (l : Link) (r : RecordNow) → IsOver nodes k word l r → bare (new_one r) ≡ bare r
  bare_one l r over = subst (λ (x : RecordNow). bare (new_one x) ≡ bare x) (sym over.is) refl

  pub bare_of : map bare rs ≡ map bare all_of
  bare_of =
      shown bare (λ (r : RecordNow). bare (new_one r)) (λ r. refl) (λ r. refl)
      ∙ map_alike (λ (r : RecordNow). bare (new_one r)) bare all_of
      (all_filter (λ (r : RecordNow). bare (new_one r) ≡ bare r) (λ (r : RecordNow). is_at_home nodes centers j r.place) (records_of nodes links k word)
      (all_over nodes k word (λ (l : Link). Unit {0}) (λ (r : RecordNow). bare (new_one r) ≡ bare r) (λ l r yes over. bare_one l r over) links (all_yes (λ (l : Link). Unit {0}) (λ l. tt) links)))
