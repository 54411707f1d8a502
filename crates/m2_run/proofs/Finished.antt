-- Nodes that were taken apart, as they are kept.
use Rattle.std.proofs.Common.{◌≡◌, ℕ, zero, suc, true, List, [], ◌∷◌, ◌++◌, length, map, refl, sym, ap, subst, ◌∙◌, arith}
use Rattle.std.specs.Prelude.{slice_get, Option, Some, IfSome}
use Rattle.std.specs.List.{AllByRecursion, flat_map}
use Rattle.std.specs.Option.{option_to_list}
use Rattle.std.proofs.lemmas.List.{length-map, map-append}
use Rattle.std.proofs.lemmas.Option.{none-some, same_Some}
use Rattle.m2_bytes.specs.Items.{Holding}
use Rattle.m2_bytes.proofs.m2_lemmas.Lists.{all_at, all_back, all_front, all_map, get_map}
use Rattle.m2_node.specs.m2_script.m2_center.Center.{CenterNow}
use Rattle.m2_dispatch.specs.declared.logged.Logged.{Logged}
use Rattle.m2_fabric.specs.Fabric.{Gathered, SeenFabric}
use Rattle.m2_fabric.specs.declared.port.Cut.{Cut}
use Rattle.m2_fabric.specs.declared.socket.SocketId.{SocketId}
use Rattle.m2_node.specs.m2_links_go_on.Left.{IsSeen}
use Rattle.m2_node.specs.m2_links_go_on.m2_history.Link.{IsWholeHalf}
use Rattle.m2_scenario.specs.declared.node.Node.{Node}
use Rattle.m2_trail.specs.Arrivals.{LooseNow}
use Rattle.m2_run.specs.Cuts.{cuts_at}
use Rattle.m2_run.specs.Gathering.{ArePortsTold}
use Rattle.m2_run.specs.Kept.{AllGathered, AreAllHeld, AreOpened, MadeIsHeld}
use Rattle.m2_node.specs.Nodes.{KeptNow, RunNodeNow, loose_at, made_by, nodes_of}
use Rattle.m2_run.specs.Opened.{AllAreThere, AreOpenedNodes, IsOpenedNode, OpenedNow, all_kept, ended_of, kept_as, loose_in, made_in, made_of_all, untold}
use Rattle.m2_run.specs.Ran.{AreLeftBy}
use Rattle.m2_run.specs.Rests.{AreEndsOf, EndedCenterNow, IsEndOf, IsEndOfCenter, loose_of}
use Rattle.m2_run.specs.Still.{AllRest, IsAtRest}
use Rattle.m2_run.specs.Types.{IsCenterOfTypes, IsOfTypes}
use Rattle.m2_node.proofs.Beside.{side_flat, side_get, side_length}
use Rattle.m2_run.proofs.Held.{node_holds_all, opened_untold}
use Rattle.m2_node.proofs.Places.{get_of_map, get_too, joined_first}

-- ---- by places

-- what a place of the kept nodes is of
pub record KeptAt (ran : List RunNodeNow) (all : List OpenedNow) (k : ℕ) (n : KeptNow) : Type 0 where
  pub node : RunNodeNow
  pub left : OpenedNow
  pub node_there : slice_get ran k ≡ Some node
  pub left_there : slice_get all k ≡ Some left
  pub same : kept_as node left ≡ n

pub kept_at : (ran : List RunNodeNow) (all : List OpenedNow) (k : ℕ) (n : KeptNow) → slice_get (all_kept ran all) k ≡ Some n → KeptAt ran all k n
kept_at [] all k n there = absurd (none-some n there)
kept_at (m ∷ ran) [] k n there = absurd (none-some n there)
kept_at (m ∷ ran) (o ∷ all) zero n there = record { node = m; left = o; node_there = refl; left_there = refl; same = same_Some (kept_as m o) n there }
kept_at (m ∷ ran) (o ∷ all) (suc k) n there =
    let rest = kept_at ran all k n there in
    record { node = rest.node; left = rest.left; node_there = rest.node_there; left_there = rest.left_there; same = rest.same }

-- ---- the nodes, and their halves

pub kept_as_ran : (ran : List RunNodeNow) (all : List OpenedNow) → length all ≡ length ran → nodes_of (all_kept ran all) ≡ ran
kept_as_ran [] all same = refl
kept_as_ran (n ∷ ran) [] same = absurd (omega (arith, same))
kept_as_ran (n ∷ ran) (o ∷ all) same = ap (λ (ns : List RunNodeNow). n ∷ ns) (kept_as_ran ran all (omega (arith, same)))

-- the halves of one node, and of all, those of the last one first
abbrev halves_of : OpenedNow → List LooseNow
halves_of o = o.left.opened ++ o.left.at_door ++ o.left.on_way

untold_halves : (n : RunNodeNow) (o : OpenedNow) → map untold (halves_of o) ≡ loose_at (kept_as n o)
untold_halves n o =
    map-append untold (o.left.opened ++ o.left.at_door) o.left.on_way ∙ ap (λ (ls : List LooseNow). ls ++ map untold o.left.on_way) (map-append untold o.left.opened o.left.at_door)

pub kept_loose : (ran : List RunNodeNow) (all : List OpenedNow) → length all ≡ length ran → loose_in all ≡ loose_of (all_kept ran all)
kept_loose [] [] same = refl
kept_loose [] (o ∷ all) same = absurd (omega (arith, same))
kept_loose (n ∷ ran) [] same = absurd (omega (arith, same))
kept_loose (n ∷ ran) (o ∷ all) same =
    joined_first (λ (p : OpenedNow). map untold (halves_of p)) o all
    ∙ ap (λ (ls : List LooseNow). ls ++ map untold (halves_of o)) (kept_loose ran all (omega (arith, same)))
    ∙ ap (λ (ls : List LooseNow). loose_of (all_kept ran all) ++ ls) (untold_halves n o)
    ∙ sym (joined_first loose_at (kept_as n o) (all_kept ran all))

pub kept_types : (ran : List RunNodeNow) (all : List OpenedNow) → length all ≡ length ran → AllByRecursion (λ (n : RunNodeNow). AllByRecursion IsCenterOfTypes n.centers) ran →
    AllByRecursion IsWholeHalf (loose_in all) → AllByRecursion IsSeen (loose_in all) → AllByRecursion IsOfTypes (all_kept ran all)
kept_types [] all same centers whole seen = tt
kept_types (n ∷ ran) [] same centers whole seen = tt
kept_types (n ∷ ran) (o ∷ all) same centers whole seen =
    let split = joined_first (λ (p : OpenedNow). map untold (halves_of p)) o all in
    let its = map untold (halves_of o) in
    let is_whole : AllByRecursion IsWholeHalf (loose_in all ++ its) = subst (AllByRecursion IsWholeHalf) split whole in
    let is_seen : AllByRecursion IsSeen (loose_in all ++ its) = subst (AllByRecursion IsSeen) split seen in (
      record {
        centers = centers.0;
        whole = subst (AllByRecursion IsWholeHalf) (untold_halves n o) (all_back IsWholeHalf (loose_in all) its is_whole);
        seen = subst (AllByRecursion IsSeen) (untold_halves n o) (all_back IsSeen (loose_in all) its is_seen);
      },
      kept_types ran all (omega (arith, same)) centers.1 (all_front IsWholeHalf (loose_in all) its is_whole) (all_front IsSeen (loose_in all) its is_seen),
    )

-- ---- what is left of them

pub kept_ends : (cuts : ℕ → List Cut) (ran : List RunNodeNow) (all : List OpenedNow) → AreOpenedNodes cuts ran all → AreEndsOf (all_kept ran all) (map ended_of all)
kept_ends cuts ran all opened = record {
  count = length-map all ended_of ∙ opened.count ∙ sym (ap length (kept_as_ran ran all opened.count)) ∙ length-map (all_kept ran all) (λ (n : KeptNow). n.node);
  each = λ k n e here there.
      let at = kept_at ran all k n here in
      let m = get_of_map ended_of all k e there in
      let same : m.item ≡ at.left = same_Some m.item at.left (sym m.there ∙ at.left_there) in
      let is = opened.each k at.node at.left at.node_there at.left_there in
      subst (λ (x : KeptNow). IsEndOf x e) at.same (subst (IsEndOf (kept_as at.node at.left)) (ap ended_of (sym same) ∙ m.same) (one_end k at.node at.left is));
}
  where
    one_end : (k : ℕ) (n : RunNodeNow) (o : OpenedNow) → IsOpenedNode (cuts k) n o → IsEndOf (kept_as n o) (ended_of o)
    one_end k n o is = record {
      count = side_length IsEndOfCenter n.centers o.centers is.ends;
      each = side_get IsEndOfCenter n.centers o.centers is.ends;
      halves = sym (length-map (halves_of o) untold) ∙ ap length (untold_halves n o);
    }

-- ---- halves that no record took

pub kept_opened : (cuts : List (Holding Cut)) (ran : List RunNodeNow) (all : List OpenedNow) → AreOpenedNodes (cuts_at cuts) ran all → (k : ℕ) (n : KeptNow) → slice_get (all_kept ran all) k ≡ Some n →
    AreOpened (cuts_at cuts k) n.node.centers n.opened
kept_opened cuts ran all opened k n here =
    let at = kept_at ran all k n here in
    subst (λ (x : KeptNow). AreOpened (cuts_at cuts k) x.node.centers x.opened) at.same
    (opened_untold (cuts_at cuts k) at.node.centers at.left.left.opened (opened.each k at.node at.left at.node_there at.left_there).opened)

-- ---- what rests

made_of_node : (cuts : List Cut) (n : RunNodeNow) (o : OpenedNow) → IsOpenedNode cuts n o → made_in o.centers ≡ made_by n
made_of_node cuts n o is =
    side_flat IsEndOfCenter (λ (c : CenterNow (List Logged)). c.port.made) (λ (e : EndedCenterNow). e.made) n.centers o.centers (λ c e end. end.made) is.ends

made_of_nodes : (cuts : ℕ → List Cut) (ran : List RunNodeNow) (all : List OpenedNow) → AreOpenedNodes cuts ran all → made_of_all all ≡ flat_map made_by ran
made_of_nodes cuts [] [] opened = refl
made_of_nodes cuts [] (o ∷ all) opened = absurd (omega (arith, opened.count))
made_of_nodes cuts (n ∷ ran) [] opened = absurd (omega (arith, opened.count))
made_of_nodes cuts (n ∷ ran) (o ∷ all) opened =
    let rest = made_of_nodes (λ k. cuts (suc k)) ran all (record { count = omega (arith, opened.count); each = λ k m p here there. opened.each (suc k) m p here there }) in
    ap (λ (ss : List SocketId). ss ++ made_of_all all) (made_of_node (cuts 0) n o (opened.each 0 n o refl refl)) ∙ ap (λ (ss : List SocketId). made_by n ++ ss) rest

-- what is so of all that is left, where it says so of this list of sockets
abbrev RestsAmong : List SocketId → OpenedNow → Type 0
RestsAmong made o = (o.left.on_way ≡ []) × AllByRecursion (IsAtRest made) o.left.at_door

none_on_way : (made : List SocketId) (ran : List RunNodeNow) (all : List OpenedNow) → AllByRecursion (RestsAmong made) all → AllByRecursion (λ (n : KeptNow). n.on_way ≡ []) (all_kept ran all)
none_on_way made [] all rest = tt
none_on_way made (n ∷ ran) [] rest = tt
none_on_way made (n ∷ ran) (o ∷ all) rest = (ap (map untold) rest.0.0, none_on_way made ran all rest.1)

rest_at_doors : (made : List SocketId) (ran : List RunNodeNow) (all : List OpenedNow) → AllByRecursion (RestsAmong made) all →
    AllByRecursion (λ (n : KeptNow). AllByRecursion (IsAtRest made) n.at_door) (all_kept ran all)
rest_at_doors made [] all rest = tt
rest_at_doors made (n ∷ ran) [] rest = tt
rest_at_doors made (n ∷ ran) (o ∷ all) rest = (all_map (IsAtRest made) untold o.left.at_door rest.0.1, rest_at_doors made ran all rest.1)

pub kept_rest : (cuts : ℕ → List Cut) (ran : List RunNodeNow) (all : List OpenedNow) → AreOpenedNodes cuts ran all → AllByRecursion (RestsAmong (made_of_all all)) all → AllRest (all_kept ran all)
kept_rest cuts ran all opened rest =
    let kept = all_kept ran all in
    let made : made_of_all all ≡ flat_map made_by (nodes_of kept) = made_of_nodes cuts ran all opened ∙ ap (flat_map made_by) (sym (kept_as_ran ran all opened.count)) in
    record {
      on_way = none_on_way (made_of_all all) ran all rest;
      at_door = subst (λ (ss : List SocketId). AllByRecursion (λ (n : KeptNow). AllByRecursion (IsAtRest ss) n.at_door) kept) made (rest_at_doors (made_of_all all) ran all rest);
    }

-- ---- all that the ports made is held

kept_there : (ran : List RunNodeNow) (all : List OpenedNow) (k : ℕ) (n : RunNodeNow) (o : OpenedNow) → slice_get ran k ≡ Some n → slice_get all k ≡ Some o →
    slice_get (all_kept ran all) k ≡ Some (kept_as n o)
kept_there [] all k n o p q = absurd (none-some n p)
kept_there (m ∷ ran) [] k n o p q = absurd (none-some o q)
kept_there (m ∷ ran) (l ∷ all) zero n o p q = ap (λ (z : RunNodeNow). Some (kept_as z l)) (same_Some m n p) ∙ ap (λ (z : OpenedNow). Some (kept_as n z)) (same_Some l o q)
kept_there (m ∷ ran) (l ∷ all) (suc k) n o p q = kept_there ran all k n o p q

-- of a node that is on the fabric tells ports and ends that weigh the same
pub kept_held : (cuts : List (Holding Cut)) (nodes : List Node) (ran : List RunNodeNow) (all : List OpenedNow) (old new : SeenFabric) → length all ≡ length nodes → AreLeftBy cuts ran all →
    ArePortsTold nodes (map ended_of all) new → AllGathered cuts nodes (all_kept ran all) old new → (k : ℕ) (x : Node) → slice_get nodes k ≡ Some x → x.started ≡ true → IfSome (new.gathered k) AreAllHeld
kept_held cuts nodes ran all old new count by told gathered k x there on =
    let o = get_too nodes all k x count there in
    let n = get_too all ran k o.item (sym by.opened.count) o.there in
    let g = gathered.on k x (kept_as n.item o.item) there (kept_there ran all k n.item o.item n.there o.there) on in
    let is = by.opened.each k n.item o.item n.there o.there in
    let ports : g.what.ports ≡ flat_map (λ (d : EndedCenterNow). option_to_list d.port) o.item.centers =
    subst (λ (f : Option Gathered). IfSome f (λ (what : Gathered). what.ports ≡ flat_map (λ (d : EndedCenterNow). option_to_list d.port) o.item.centers)) g.told
    (told k x (ended_of o.item) there (get_map ended_of all k o.item o.there) on) in
    subst (λ (f : Option Gathered). IfSome f AreAllHeld) (sym g.told)
    (node_holds_all (cuts_at cuts k) n.item o.item g.what is.ends is.opened (all_at (λ (z : RunNodeNow). AllByRecursion MadeIsHeld z.centers) ran k n.item n.there by.held)
    (all_at AllAreThere all k o.item o.there by.there) ports g.ends_are)
