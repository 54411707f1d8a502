-- The records of a center that is under way are those over the scenario's links whose peers are at home with its thread, each towards the
-- node at its place.
use Rattle.std.proofs.Common.{◌≡◌, ℕ, true, List, [], ◌∷◌, map, Some, sym, ap, subst, ◌∙◌, arith}
use Rattle.std.specs.Prelude.{slice_get}
use Rattle.std.specs.List.{AllByRecursion}
use Rattle.std.proofs.lemmas.Bool.{eqb-true}
use Rattle.std.proofs.lemmas.Option.{get_or_from_slice_get, same_Some, slice_get_within}
use Rattle.m2_addr.specs.declared.addr.Addr.{Addr}
use Rattle.m2_bytes.proofs.m2_lemmas.Lists.{all_so_of, cons_same}
use Rattle.m2_node.specs.m2_script.m2_center.Center.{CenterNow}
use Rattle.m2_node.specs.m2_script.m2_center.Home.{home_of}
use Rattle.m2_node.specs.m2_links_go_on.Made.{NodeMade, SideMade, node_made, side_made}
use Rattle.m2_dispatch.specs.declared.logged.Logged.{Logged}
use Rattle.m2_node.proofs.m2_links_go_on.m2_growth.Among.{each_by, of_each}
use Rattle.m2_node.proofs.m2_links_go_on.m2_growth.m2_bytes_fit.Lists.{not_nil}
use Rattle.m2_node.specs.m2_links_go_on.m2_growth.Halves.{IsOneOf}
use Rattle.m2_node.specs.m2_links_go_on.m2_growth.m2_bytes_fit.Halves.{KeepsRanges}
use Rattle.m2_journal.specs.SideFacts.{SideFacts}
use Rattle.m2_node.specs.m2_links_go_on.Left.{IsNamed}
use Rattle.m2_node.specs.m2_script.m2_record.RecordNow.{RecordNow}
use Rattle.m2_scenario.specs.declared.line.Line.{Line}
use Rattle.m2_scenario.specs.declared.link.Link.{Link}
use Rattle.m2_scenario.specs.declared.node.Node.{Node}
use Rattle.m2_scenario.specs.Draft.{DraftLine}
use Rattle.m2_scenario.specs.Valid.{HasMsgr2, IsSound}
use Rattle.m2_node.proofs.m2_script.Over.{IsOver, all_over}
use Rattle.m2_node.specs.m2_script.Made.{records_of}
use Rattle.m2_node.proofs.Filters.{filter_mapped}
use Rattle.m2_run.proofs.SideLists.{all_filtered}
use Rattle.m2_node.specs.Homes.{at_home, home_at, home_of_node, is_at_home}
use Rattle.m2_node.specs.Planned.{plan_in, side_in, waiting}
use Rattle.m2_run.specs.Types.{IsRanged}
use Rattle.m2_node.specs.Way.{made_in}

-- ---- lists that show the same

-- where two lists show the same one by one, what follows of each of the one from its own of the other holds of all
pub through : {X Y Z : Type 0} (f : X → Z) (g : Y → Z) (P : X → Type 0) (Q : Y → Type 0) → ((x : X) (y : Y) → f x ≡ g y → Q y → P x) →
    (xs : List X) (ys : List Y) → map f xs ≡ map g ys → AllByRecursion Q ys → AllByRecursion P xs
through f g P Q so [] ys e all = tt
through f g P Q so (x ∷ xs) [] e all = not_nil e
through f g P Q so (x ∷ xs) (y ∷ ys) e all =
    let same = cons_same (f x) (g y) (map f xs) (map g ys) e in (so x y same.0 all.0, through f g P Q so xs ys same.1 all.1)

-- ---- a record

-- It is of the node at place k and towards that at its own place, and its plan is what the lines have it do.
pub record IsOfNode (nodes : List Node) (lines : List Line) (k : ℕ) (r : RecordNow) : Type 0 where
  pub mine : Node
  pub mine_there : slice_get nodes k ≡ Some mine
  pub peer : Node
  pub peer_there : slice_get nodes r.place ≡ Some peer
  pub at : r.core.facts.mine ≡ mine.at
  pub towards : r.core.facts.peer ≡ peer.at
  pub number : r.core.facts.node.number ≡ k
  pub plan : r.plan ≡ plan_in lines k r.place

-- so it is, and its peer is at home with thread j of so many
pub record IsOfThread (nodes : List Node) (lines : List Line) (k centers j : ℕ) (r : RecordNow) : Type 0 where
  pub of_node : IsOfNode nodes lines k r
  pub home : home_of r.core.facts.peer centers ≡ j

module _ (nodes : List Node) (links : List Link) (lines : List Line) (k word : ℕ) where
  record IsOverSome (s : RecordNow) : Type 0 where
    link : Link
    over : IsOver nodes k word link s

  all_over_some : AllByRecursion IsOverSome (records_of nodes links k word)
  all_over_some =
      all_over nodes k word (λ l. Unit {0}) IsOverSome (λ l s q o. record { link = l; over = o }) links (each_by (λ (l : Link). Unit {0}) links (λ l i. tt))

  one_of_node : (r s : RecordNow) → side_made r ≡ side_in lines k s → IsOverSome s → IsOfNode nodes lines k r
  one_of_node r s e some = record {
    mine = over.mine;
    mine_there = over.mine_there;
    peer = over.peer;
    peer_there = ap (slice_get nodes) place ∙ over.peer_there;
    at = ap (λ (f : SideFacts). f.mine) facts ∙ ap (λ (y : RecordNow). y.core.facts.mine) over.is;
    towards = ap (λ (f : SideFacts). f.peer) facts ∙ ap (λ (y : RecordNow). y.core.facts.peer) over.is;
    number = ap (λ (f : SideFacts). f.node.number) facts ∙ ap (λ (y : RecordNow). y.core.facts.node.number) over.is;
    plan = ap (λ (x : SideMade). x.plan) e ∙ ap (plan_in lines k) (sym place);
  }
    where
      over : IsOver nodes k word some.link s
      over = some.over

      place : r.place ≡ s.place
      place = ap (λ (x : SideMade). x.place) e

      facts : r.core.facts ≡ waiting s.core.facts
      facts = ap (λ (x : SideMade). x.facts) e

  -- those of a center are of the node's records those whose peers are at home with its thread
  pub sides_are : (j : ℕ) (x : Node) (c : CenterNow (List Logged)) → node_made c ≡ made_in nodes links lines k j word x →
      map side_made c.records ≡ map (side_in lines k) (at_home nodes x.centers j (records_of nodes links k word))
  sides_are j x c e =
      ap (λ (m : NodeMade). m.sides) e ∙ filter_mapped (side_in lines k) (λ (s : SideMade). is_at_home nodes x.centers j s.place) (records_of nodes links k word)

  pub all_of_thread : (j : ℕ) (x : Node) (c : CenterNow (List Logged)) → node_made c ≡ made_in nodes links lines k j word x → AllByRecursion (IsOfThread nodes lines k x.centers j) c.records
  all_of_thread j x c e =
      through side_made (side_in lines k) (IsOfThread nodes lines k x.centers j) (λ s. IsOverSome s × (is_at_home nodes x.centers j s.place ≡ true)) one c.records
      (at_home nodes x.centers j (records_of nodes links k word)) (sides_are j x c e)
      (all_filtered IsOverSome (λ (s : RecordNow). is_at_home nodes x.centers j s.place) (records_of nodes links k word) all_over_some)
    where
      one : (r s : RecordNow) → side_made r ≡ side_in lines k s → IsOverSome s × (is_at_home nodes x.centers j s.place ≡ true) → IsOfThread nodes lines k x.centers j r
      one r s same its =
          let node = one_of_node r s same its.0 in
          record {
            of_node = node;
            home = ap (λ (at : Addr). home_of at x.centers) node.towards ∙ ap (home_of_node x.centers) (sym node.peer_there)
                ∙ ap (λ (y : SideMade). home_at nodes x.centers y.place) same ∙ eqb-true (home_at nodes x.centers s.place) j its.1;
          }

  pub all_of_node : (j : ℕ) (x : Node) (c : CenterNow (List Logged)) → node_made c ≡ made_in nodes links lines k j word x → AllByRecursion (IsOfNode nodes lines k) c.records
  all_of_node j x c e = all_so_of (IsOfThread nodes lines k x.centers j) (IsOfNode nodes lines k) c.records (λ r is. is.of_node) (all_of_thread j x c e)

-- ---- by what it is named

module _ (nodes : List Node) (links : List Link) (draft : List DraftLine) (sound : IsSound nodes links draft) (lines : List Line) (k : ℕ) (x : Node) (there : slice_get nodes k ≡ Some x) where
  is_msgr2 : HasMsgr2 x
  is_msgr2 = subst HasMsgr2 (get_or_from_slice_get nodes k x x there) (sound.msgr2 k x (slice_get_within nodes k x there))

  pub is_x : (r : RecordNow) (its : IsOfNode nodes lines k r) → r.core.facts.mine ≡ x.at
  is_x r its = its.at ∙ ap (λ (y : Node). y.at) (same_Some its.mine x (sym its.mine_there ∙ there))

  ranges : (r : RecordNow) → IsOfNode nodes lines k r → IsRanged r → KeepsRanges r.core.facts
  ranges r its ranged = record {
    entity = ranged.ranges.entity;
    peer = ranged.ranges.peer;
    mine = ranged.ranges.mine;
    kind = ap (λ (at : Addr). at.kind) (is_x r its) ∙ is_msgr2;
    place = omega (arith, its.number, slice_get_within nodes k x there, sound.few_nodes);
    supports = ranged.ranges.supports;
    requires_ = ranged.ranges.requires_;
  }

  pub are_named : (c : CenterNow (List Logged)) → AllByRecursion (IsOfNode nodes lines k) c.records → AllByRecursion IsRanged c.records → AllByRecursion (IsNamed x.at) c.records
  are_named c all ranged = each_by (IsNamed x.at) c.records one
    where
      one : (r : RecordNow) → IsOneOf r c.records → IsNamed x.at r
      one r i =
          let its = of_each (IsOfNode nodes lines k) r c.records all i in
          let types = of_each IsRanged r c.records ranged i in
          record { ranges = ranges r its types; mine = is_x r its; seen = types.seen }
