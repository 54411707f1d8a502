-- The nodes of a valid scenario before its first line are at rest, and keep all that a script's run keeps.
use Rattle.std.proofs.Common.{◌≡◌, ◌<◌, ◌+◌, ℕ, zero, suc, true, false, List, [], ◌∷◌, length, map, Option, Some, None, refl, sym, ap, subst, ◌∙◌, arith}
use Rattle.std.specs.Prelude.{slice_get}
use Rattle.std.specs.List.{AllByRecursion}
use Rattle.std.proofs.lemmas.List.{length-map}
use Rattle.std.proofs.lemmas.Option.{none-some, same_Some, slice_get_within}
use Rattle.m2_fabric.specs.m2_addr.declared.addr.Addr.{Addr}
use Rattle.m2_dispatch.specs.declared.logged.Logged.{Logged}
use Rattle.m2_dispatch.specs.Heard.{heard_by}
use Rattle.m2_fabric.specs.declared.socket.SocketId.{SocketId}
use Rattle.m2_fabric.specs.CutPort.{fresh_cut_port}
use Rattle.m2_fabric.specs.Sockets.{is_among}
use Rattle.m2_script.specs.m2_record.IsRecord.{IsRecord}
use Rattle.m2_script.specs.m2_record.RecordNow.{RecordNow}
use Rattle.m2_script.specs.m2_center.Center.{CenterNow}
use Rattle.m2_script.specs.m2_center.Making.{new_center}
use Rattle.m2_script.specs.m2_cluster.Cluster.{address_of as listens_at, held_by, made_by, waits_at}
use Rattle.m2_script.specs.m2_cluster.Node.{IsWholeNode, NodeNow, waits_in}
use Rattle.m2_links_go_on.specs.Center.{holding_of}
use Rattle.m2_links_go_on.specs.m2_growth.Passed.{HasItsEnds}
use Rattle.m2_links_go_on.specs.LogLaws.{BeginLogged, logging_in}
use Rattle.m2_links_go_on.specs.Logged.{IsLogged}
use Rattle.m2_promise.specs.Acting.{run_of}
use Rattle.m2_promise.specs.Beginning.{IsBeginning, IsNewAt}
use Rattle.m2_promise.specs.BeginningLaws.{BeginningsHaveOrders, BeginningsRun, NewCentersAreNew, NewClustersBegin}
use Rattle.m2_promise.specs.Kept.{IsKept}
use Rattle.m2_links_go_on.specs.OfPeers.{AreOfPeers}
use Rattle.m2_links_go_on.proofs.PeerTurns.{begin_of_peers}
use Rattle.m2_promise.specs.Planned.{IsKeptNode, IsTaken}
use Rattle.m2_scenario.specs.declared.line.Line.{Line}
use Rattle.m2_scenario.specs.declared.link.Link.{Link}
use Rattle.m2_scenario.specs.declared.node.Node.{Node}
use Rattle.m2_scenario.specs.Draft.{draft_line}
use Rattle.m2_scenario.specs.Valid.{IsSound}
use Rattle.m2_script.specs.Made.{records_of, side_of}
use Rattle.m2_script.specs.Script.{RunNow}
use Rattle.m2_fabric.specs.InStep.{SeenFabric}
use Rattle.m2_fabric.specs.SimFabric.{fresh_fabric}
use Rattle.m2_script.specs.Nodes.{IsNewNode, address_of, cuts_of, none_drawn, none_granted}
use Rattle.m2_script.proofs.Apart.{addresses_apart, get_address, get_at}
use Rattle.m2_script.proofs.Over.{can_begin, map_roomless, places_apart}
use Rattle.m2_promise.specs.Started.{IsFirst}
use Rattle.m2_promise.proofs.Records.{all_sides, all_taken, all_unused, no_plans, none_handed}
use Rattle.m2_fabric.proofs.m2_lemmas.Lists.{all_by_places}

-- ---- lists

abbrev pub D : Type 0
D = List Logged

-- an item of a list has one at its place in a list of that length
pub beside : {X Y : Type 0} (xs : List X) (ys : List Y) (i : ℕ) (x : X) → length xs ≡ length ys → slice_get xs i ≡ Some x → (y : Y) × (slice_get ys i ≡ Some y)
beside [] ys i x same e = absurd (none-some x e)
beside (a ∷ xs) [] i x same e = absurd (omega (arith, same))
beside (a ∷ xs) (b ∷ ys) zero x same e = (b, refl)
beside (a ∷ xs) (b ∷ ys) (suc i) x same e = beside xs ys i x (omega (arith, same)) e

true_false : true ≡ false → ⊥
true_false e = cc

-- ---- the nodes

module _ (begins : BeginningsRun) (ordered : BeginningsHaveOrders) (new_centers : NewCentersAreNew D) (new_clusters : NewClustersBegin D) (begin_logged : BeginLogged D)
    (nodes : List Node) (links : List Link) (lines : List Line) (s : RunNow D) (sound : IsSound nodes links (map draft_line lines)) (first : IsFirst nodes links lines s) where
  abbrev all : List (NodeNow D)
  all = s.cluster.nodes

  abbrev addrs : List Addr
  addrs = map address_of nodes

  -- the scenario's node at a place
  named : (i : ℕ) (n : NodeNow D) → slice_get all i ≡ Some n → (x : Node) × (slice_get nodes i ≡ Some x)
  named i n e = beside all nodes i n first.new.count e

  module _ (i : ℕ) (x : Node) (n : NodeNow D) (there : slice_get nodes i ≡ Some x) (new : IsNewNode nodes links lines i x n) where
    abbrev center : CenterNow D
    center = new_center x.entity (fresh_cut_port x.at (cuts_of nodes lines i)) new.records [] [] none_granted none_drawn

    records_there : n.center.records ≡ new.records
    records_there = ap (λ (c : CenterNow D). c.records) new.center

    new_at : IsNewAt addrs i (holding_of n.center)
    new_at = subst (λ (c : CenterNow D). IsNewAt addrs i (holding_of c)) (sym new.center)
        (new_centers addrs i x.entity x.at (cuts_of nodes lines i) new.records [] [] none_granted none_drawn
        (get_address nodes i x there)
        (all_unused nodes links (map draft_line lines) sound first.new.ranges i new.records new.over (subst (AllByRecursion IsRecord) records_there new.whole.records))
        (all_sides nodes links (map draft_line lines) sound first.new.ranges i new.records new.over)
        (can_begin nodes links (map draft_line lines) sound i (i + 1) new.records new.over x there (cuts_of nodes lines i) none_granted none_drawn))

    logged : IsLogged heard_by (logging_in n.center)
    logged = subst (λ (c : CenterNow D). IsLogged heard_by (logging_in c)) (sym new.center)
        (begin_logged heard_by new.records [] []
        (places_apart nodes links (map draft_line lines) sound i (i + 1) new.records new.over)
        (none_handed nodes links (map draft_line lines) sound first.new.ranges i new.records new.over)
        refl refl)

    kept : IsKeptNode heard_by n
    kept = record {
      logged = logged;
      taken = subst (AllByRecursion IsTaken) (sym records_there) (all_taken nodes links (map draft_line lines) sound first.new.ranges i new.records new.over);
      peers = subst (λ (c : CenterNow D). AreOfPeers heard_by c.records c.out c.queued) (sym new.center) (begin_of_peers heard_by new.records [] [] refl refl);
    }

    sides : map side_of n.center.records ≡ map side_of (records_of nodes links i (i + 1))
    sides = ap (map side_of) records_there ∙ sym (map_roomless side_of (λ r. refl) new.records) ∙ ap (map side_of) new.over

    none_made : n.center.port.made ≡ []
    none_made = ap (λ (c : CenterNow D). c.port.made) new.center

    none_waits : (k : SocketId) → waits_in n.center k ≡ false
    none_waits k = ap (λ (c : CenterNow D). waits_in c k) new.center

    listens : n.center.port.at ≡ x.at
    listens = ap (λ (c : CenterNow D). c.port.at) new.center

  -- ---- all of them

  at_place : (i : ℕ) (n : NodeNow D) (e : slice_get all i ≡ Some n) → IsNewNode nodes links lines i (named i n e).0 n
  at_place i n e = first.new.each i (named i n e).0 n (named i n e).1 e

  begun : IsBeginning (run_of all (fresh_fabric addrs))
  begun = new_clusters addrs all (addresses_apart nodes sound.apart) (first.new.count ∙ sym (length-map nodes address_of))
      (λ i n e. new_at i (named i n e).0 n (named i n e).1 (at_place i n e))

  starts : IsBeginning (run_of all s.fabric)
  starts = subst (λ (f : SeenFabric). IsBeginning (run_of all f)) (sym first.fabric) begun

  made_at : (o : Option (NodeNow D)) (i : ℕ) → slice_get all i ≡ o → made_by o ≡ []
  made_at None i e = refl
  made_at (Some n) i e = none_made i (named i n e).0 n (named i n e).1 (at_place i n e)

  waits_nowhere : (o : Option (NodeNow D)) (i : ℕ) (k : SocketId) → slice_get all i ≡ o → waits_at o k ≡ false
  waits_nowhere None i k e = refl
  waits_nowhere (Some n) i k e = none_waits i (named i n e).0 n (named i n e).1 (at_place i n e) k

  -- the node at a place of the scenario's
  node_there : (i : ℕ) (x : Node) → slice_get nodes i ≡ Some x → (n : NodeNow D) × (slice_get all i ≡ Some n)
  node_there i x e = beside nodes all i x (sym first.new.count) e

  listens_there : (i : ℕ) (at : Addr) → slice_get addrs i ≡ Some at → listens_at (slice_get all i) ≡ at
  listens_there i at e =
      let few : i < length nodes = omega (arith, slice_get_within addrs i at e, length-map nodes address_of) in
      let x = get_at nodes i at few in
      let n = node_there i x.0 x.1 in
      ap listens_at n.1
      ∙ listens i x.0 n.0 x.1 (first.new.each i x.0 n.0 x.1 n.1)
      ∙ same_Some x.0.at at (sym (get_address nodes i x.0 x.1) ∙ e)

  its_ends : HasItsEnds (record { fabric = s.fabric; holder = held_by all })
  its_ends = record {
    made = λ i k h. absurd (true_false (sym h ∙ ap (is_among k) (made_at (slice_get all i) i refl)));
    waiting = λ i k h. absurd (true_false (sym h ∙ waits_nowhere (slice_get all i) i k refl));
    places = λ i at e. listens_there i at (ap (λ (f : SeenFabric). slice_get f.nodes i) (sym first.fabric) ∙ e);
  }

  pub first_kept : IsKept heard_by nodes links s
  first_kept = record {
    rest = record { running = begins (run_of all s.fabric) starts; ends = its_ends; orders = ordered (run_of all s.fabric) starts };
    whole = all_by_places IsWholeNode all (λ i n e. (at_place i n e).whole);
    kept = all_by_places (IsKeptNode heard_by) all (λ i n e. kept i (named i n e).0 n (named i n e).1 (at_place i n e));
    count = first.new.count;
    sides = λ i n e. sides i (named i n e).0 n (named i n e).1 (at_place i n e);
  }

-- ---- no record of a node plans anything

pub none_planned : (nodes : List Node) (links : List Link) (lines : List Line) (s : RunNow D) → IsSound nodes links (map draft_line lines) → IsFirst nodes links lines s →
    (i : ℕ) (n : NodeNow D) → slice_get s.cluster.nodes i ≡ Some n → AllByRecursion (λ (r : RecordNow). r.plan ≡ []) n.center.records
none_planned nodes links lines s sound first i n e =
    let x = beside s.cluster.nodes nodes i n first.new.count e in
    let new : IsNewNode nodes links lines i x.0 n = first.new.each i x.0 n x.1 e in
    subst (AllByRecursion (λ (r : RecordNow). r.plan ≡ [])) (sym (ap (λ (c : CenterNow D). c.records) new.center)) (no_plans nodes links (map draft_line lines) sound first.new.ranges i new.records new.over)
