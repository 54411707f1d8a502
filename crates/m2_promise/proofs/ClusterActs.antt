-- Where one node of a cluster acts, one node of the run does.
use Rattle.m2_dispatch.specs.m2_shared.Gates.{pass_places}
use Rattle.std.proofs.Common.{◌≡◌, ℕ, zero, suc, List, [], ◌∷◌, ◌++◌, length, map, slice_get, slice_set, Option, Some, None, refl, sym, ap, subst, ◌∙◌}
use Rattle.m2_fabric.specs.m2_addr.declared.addr.Addr.{Addr}
use Rattle.m2_fabric.specs.declared.socket.SocketId.{SocketId}
use Rattle.m2_script.specs.m2_record.Sources.{end_at}
use Rattle.m2_script.specs.m2_center.Center.{CenterNow}
use Rattle.m2_script.specs.m2_center.CenterTurn.{means_at}
use Rattle.m2_script.specs.m2_center.Reaching.{ends_in}
use Rattle.m2_script.specs.m2_cluster.Cluster.{ClusterNow, OneDoes, end_of}
use Rattle.m2_script.specs.m2_cluster.Node.{NodeNow, NodePlans, NodeTurns, end_in}
use Rattle.m2_links_go_on.specs.Center.{holding_of}
use Rattle.m2_links_go_on.specs.Cluster.{ClusterGrows}
use Rattle.m2_links_go_on.specs.ClusterLaws.{BringsElsewhere}
use Rattle.m2_links_go_on.proofs.Bringing.{plan_brings, turn_brings}
use Rattle.m2_links_go_on.proofs.Turning.{node_plan_grows, node_turn_grows, plan_grows, turn_grows}
use Rattle.m2_links_go_on.specs.m2_growth.Holding.{Grows, Holding, all_ends}
use Rattle.m2_promise.specs.Running.{IsNodeAt, NodeActs}
use Rattle.m2_fabric.specs.InStep.{SeenFabric}
use Rattle.m2_fabric.specs.SimFabric.{fresh_fabric}
use Rattle.m2_promise.specs.Acting.{holdings_of, run_of}
use Rattle.m2_promise.specs.Beginning.{IsNewAt}
use Rattle.m2_promise.specs.BeginningLaws.{ClustersHoldAll, NewCentersAreNew, NewClustersBegin, OnePlanActs, OneTurnActs}
use Rattle.m2_fabric.proofs.m2_lemmas.Lists.{get_map}
use Rattle.m2_links_go_on.proofs.OneGrows.{same_waiting}

-- ---- lists

length_of : {X Y : Type 0} (f : X → Y) (xs : List X) → length xs ≡ length (map f xs)
length_of f [] = refl
length_of f (x ∷ xs) = ap (λ n. suc n) (length_of f xs)

get_none : {X Y : Type 0} (f : X → Y) (xs : List X) (i : ℕ) → slice_get xs i ≡ None → slice_get (map f xs) i ≡ None
get_none f [] i e = refl
get_none f (z ∷ zs) zero e = absurd cc
get_none f (z ∷ zs) (suc i) e = get_none f zs i e

nothing_there : {X : Type 0} {x : X} → None ≡ Some x → ⊥
nothing_there e = absurd cc

one_there : {X : Type 0} {x y : X} → Some x ≡ Some y → x ≡ y
one_there e = cc

set_of : {X Y : Type 0} (f : X → Y) (xs : List X) (i : ℕ) (y : X) → map f (slice_set xs i y) ≡ slice_set (map f xs) i (f y)
set_of f [] i y = refl
set_of f (z ∷ zs) zero y = refl
set_of f (z ∷ zs) (suc i) y = ap (λ l. f z ∷ l) (set_of f zs i y)

-- ---- the ends of a center, and those that it holds

module _ {D : Type 0} where
  same_ends : (c : CenterNow D) (k : SocketId) → end_at (all_ends (holding_of c)) k ≡ end_in c k
  same_ends c k = ap (λ w. end_at (ends_in c ++ w) k) (same_waiting c.port.waiting)

  ends_there : (nodes : List (NodeNow D)) (i : ℕ) (h : Holding) → slice_get (holdings_of nodes) i ≡ Some h → (k : SocketId) → end_of (slice_get nodes i) k ≡ end_at (all_ends h) k
  ends_there [] i h e k = absurd cc
  ends_there (n ∷ ns) zero h e k = let same : holding_of n.center ≡ h = cc in sym (same_ends n.center k) ∙ ap (λ (x : Holding). end_at (all_ends x) k) same
  ends_there (n ∷ ns) (suc i) h e k = ends_there ns i h e k

  none_there : (nodes : List (NodeNow D)) (i : ℕ) → slice_get (holdings_of nodes) i ≡ None → (k : SocketId) → end_of (slice_get nodes i) k ≡ None
  none_there [] i e k = refl
  none_there (n ∷ ns) zero e k = absurd cc
  none_there (n ∷ ns) (suc i) e k = none_there ns i e k

  pub holds_all : ClustersHoldAll D
  holds_all nodes fabric = record {
    nodes = length_of (λ (n : NodeNow D). holding_of n.center) nodes;
    ends = ends_there nodes;
    none = none_there nodes;
  }

  -- ---- new ones

  pub new_centers : NewCentersAreNew D
  new_centers addrs i entity at cuts records fast queued bytes numbers there unused sides consistent = record {
    at = there;
    made = refl;
    waiting = refl;
    halves = refl;
    records = unused;
    sides = sides;
    supply = record { places = pass_places bytes; least = numbers.least };
    entity = entity;
    consistent = consistent;
  }

  -- the node of which it is the holding
  new_there : (addrs : List Addr) (nodes : List (NodeNow D)) (i : ℕ) (h : Holding) (o : Option (NodeNow D)) → slice_get nodes i ≡ o → slice_get (holdings_of nodes) i ≡ Some h →
      ((n : NodeNow D) → o ≡ Some n → IsNewAt addrs i (holding_of n.center)) → IsNewAt addrs i h
  new_there addrs nodes i h None is e new = absurd (nothing_there (sym (get_none (λ (n : NodeNow D). holding_of n.center) nodes i is) ∙ e))
  new_there addrs nodes i h (Some n) is e new = subst (IsNewAt addrs i) (one_there (sym (get_map (λ (n : NodeNow D). holding_of n.center) nodes i n is) ∙ e)) (new n refl)

  pub new_clusters : NewClustersBegin D
  new_clusters addrs nodes apart many new = record {
    fabric = refl;
    apart = apart;
    nodes = many;
    holds = holds_all nodes (fresh_fabric addrs);
    each = λ i h e. new_there addrs nodes i h (slice_get nodes i) refl e (new i);
  }

  -- ---- one node acts

  acts_so : (i : ℕ) (how : NodeNow D → NodeNow D → Type 0) (fabric : SeenFabric) (old new : ClusterNow D) (does : OneDoes i how old new) →
      Grows (holding_of does.before.center) (holding_of does.behind.center) → BringsElsewhere does.before.center does.behind.center →
      IsNodeAt fabric.nodes i (holding_of does.behind.center) → ClusterGrows old new → NodeActs i (run_of old.nodes fabric) (run_of new.nodes fabric)
  acts_so i how fabric old new does grows brings node all = record {
    before = holding_of does.before.center;
    behind = holding_of does.behind.center;
    was = get_map (λ (n : NodeNow D). holding_of n.center) old.nodes i does.before does.was;
    is = ap (λ (c : ClusterNow D). holdings_of c.nodes) does.only ∙ set_of (λ (n : NodeNow D). holding_of n.center) old.nodes i does.behind;
    grows = grows;
    node = node;
    there = brings;
    fabric = refl;
    holds = holds_all new.nodes fabric;
    ends = all.ends;
  }

pub one_turn : (D E : Type 0) → OneTurnActs D E
one_turn D E heard now answer i fabric old new does port own node memory brought =
    acts_so i (NodeTurns E heard now answer) fabric old new does
    (turn_grows D E heard (means_at now does.before.numbers does.before.throttles) answer does.before.center does.behind.center does.does.turns own)
    (turn_brings D E heard (means_at now does.before.numbers does.before.throttles) answer does.before.center does.behind.center does.does.turns port own)
    node (node_turn_grows D E heard now answer i old new does own memory brought)

pub one_plan : (D : Type 0) → OnePlanActs D
one_plan D answer peer step now i fabric old new does port own node memory brought =
    acts_so i (NodePlans answer peer step now) fabric old new does
    (plan_grows D answer peer step now does.before.throttles does.before.center does.behind.center does.does.plans own)
    (plan_brings D answer peer step now does.before.throttles does.before.center does.behind.center does.does.plans own)
    node (node_plan_grows D answer peer step now i old new does own memory brought)
