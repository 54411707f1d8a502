-- A run of a script stays at rest where something passes between its nodes.
use Rattle.std.proofs.Common.{◌≡◌, ℕ, List, Some, None, IsSome, Ok, sym, ap, subst, ◌∙◌}
use Rattle.std.specs.List.{AllByRecursion}
use Rattle.m2_fabric.specs.m2_addr.declared.addr.Addr.{Addr}
use Rattle.m2_links_go_on.specs.m2_growth.Holding.{HaveTheirHalves, Holding}
use Rattle.m2_script.specs.m2_cluster.Cluster.{rest_of}
use Rattle.m2_script.specs.m2_cluster.Node.{IsWholeNode, NodeNow}
use Rattle.m2_links_go_on.specs.Center.{holding_of}
use Rattle.m2_links_go_on.specs.Cluster.{AllHaveHalves}
use Rattle.m2_links_go_on.specs.ClusterTold.{AreUnused, KeepsSockets, OneByOne}
use Rattle.m2_links_go_on.specs.ToldLaws.{ToldClusterStaysJudged, ToldClusterStaysOwn}
use Rattle.m2_links_go_on.specs.Linked.{IsNode}
use Rattle.m2_promise.specs.Running.{IsNodeAt, IsRunning}
use Rattle.m2_fabric.specs.InStep.{IsInStep, Network, SeenFabric}
use Rattle.m2_fabric.specs.SimFabric.{Faults, Flows, Meets, Passes, flow_of}
use Rattle.m2_promise.specs.Acting.{holdings_of}
use Rattle.m2_promise.specs.BeginningLaws.{ClustersHoldAll}
use Rattle.m2_promise.specs.PassingLaws.{HearingStaysAt, RestStays, ToldNodesHear}
use Rattle.m2_promise.specs.Passed.{IsAtRest, NodesHear, SameHolding}
use Rattle.m2_promise.proofs.Hearing.{before}
use Rattle.m2_script.specs.Script.{IsPassed, RunNow, network_of}
use Rattle.m2_promise.specs.Kept.{run_in}
use Rattle.m2_promise.proofs.Whole.{IsNodeOf, holding_at, is_node, node_of}
use Rattle.m2_fabric.proofs.m2_lemmas.Lists.{all_at, all_by_places}

-- ---- the nodes of a fabric stay

passes_nodes : (what : _) (old new : Network) → Passes what old new → new.fabric.nodes ≡ old.fabric.nodes
passes_nodes None old new p = ap (λ (f : SeenFabric). f.nodes) p.fabric
passes_nodes (Some what) old new p = p.nodes

module _ {D : Type 0} (holds : ClustersHoldAll D) (told : ToldNodesHear D) (own : ToldClusterStaysOwn D) (judged : ToldClusterStaysJudged D) (stays : HearingStaysAt) where
  -- ---- the nodes of a run hear

  hears : (old new : RunNow D) → rest_of new.cluster ≡ rest_of old.cluster → new.fabric.nodes ≡ old.fabric.nodes → IsInStep (network_of new) →
      AllByRecursion IsWholeNode new.cluster.nodes → IsRunning (run_in old) → NodesHear (run_in old) (run_in new)
  hears old new rest addrs in_step whole run = record {
    same = same;
    nodes = λ i h there.
        let n = node_of new.cluster.nodes i h there in
        let was = before SameHolding (holdings_of old.cluster.nodes) (holdings_of new.cluster.nodes) same i h there in
        subst (λ (l : List Addr). IsNodeAt l i h) (sym addrs)
        (stays old.fabric.nodes i was.item h was.same (node i h n) (memory i h n) (unused i h n) (run.nodes i was.item was.there));
    holds = holds new.cluster.nodes new.fabric;
    in_step = in_step;
  }
    where
      same : OneByOne SameHolding (holdings_of old.cluster.nodes) (holdings_of new.cluster.nodes)
      same = told old.cluster new.cluster rest

      keep : AllByRecursion KeepsSockets new.cluster.nodes
      keep =
          own old.cluster new.cluster rest
          (all_by_places KeepsSockets old.cluster.nodes
          (λ i n there. let at = run.nodes i (holding_of n.center) (holding_at old.cluster.nodes i n there) in record { in_memory = at.in_memory; own = at.node.own; unused = at.waiting }))

      halves : AllHaveHalves new.cluster.nodes
      halves =
          judged old.cluster new.cluster rest
          (all_by_places (λ (n : NodeNow D). HaveTheirHalves (holding_of n.center)) old.cluster.nodes
          (λ i n there. (run.nodes i (holding_of n.center) (holding_at old.cluster.nodes i n there)).node.halves))

      node : (i : ℕ) (h : Holding) → IsNodeOf new.cluster.nodes i h → IsNode h
      node i h n =
          subst IsNode n.is
          (is_node n.node (all_at IsWholeNode new.cluster.nodes i n.node n.there whole) (all_at KeepsSockets new.cluster.nodes i n.node n.there keep).own
          (all_at (λ (m : NodeNow D). HaveTheirHalves (holding_of m.center)) new.cluster.nodes i n.node n.there halves))

      memory : (i : ℕ) (h : Holding) → IsNodeOf new.cluster.nodes i h → IsSome h.port.waiting
      memory i h n = subst (λ (x : Holding). IsSome x.port.waiting) n.is (all_at KeepsSockets new.cluster.nodes i n.node n.there keep).in_memory

      unused : (i : ℕ) (h : Holding) → IsNodeOf new.cluster.nodes i h → AreUnused h.port
      unused i h n = subst (λ (x : Holding). AreUnused x.port) n.is (all_at KeepsSockets new.cluster.nodes i n.node n.there keep).unused

  -- ---- what passes

  module _ (rest : RestStays) where
    abbrev StaysAtRest : (Network → Network → Type 0) → Type 0
    StaysAtRest how = (old new : RunNow D) → IsPassed (Ok tt) how old new → AllByRecursion IsWholeNode new.cluster.nodes → IsAtRest (run_in old) → IsAtRest (run_in new)

    pub meeting_rests : (a : ℕ) → StaysAtRest (Meets a)
    meeting_rests a old new p whole was =
        rest.meetings a (run_in old) (run_in new) p.passes
        (hears old new p.rest (p.passes.passed.nodes ∙ p.passes.enters.nodes) p.in_step whole was.running) was

    pub flow_rests : (a b socket most : ℕ) → StaysAtRest (Flows a b socket most)
    flow_rests a b socket most old new p whole was =
        rest.flows a b socket most (run_in old) (run_in new) p.passes
        (hears old new p.rest (passes_nodes (flow_of a b socket most old.fabric.pairs) (network_of old) (network_of new) p.passes) p.in_step whole was.running) was

    pub fault_rests : (a b socket : ℕ) → StaysAtRest (Faults a b socket)
    fault_rests a b socket old new p whole was =
        rest.faults a b socket (run_in old) (run_in new) p.passes
        (hears old new p.rest (ap (λ (f : SeenFabric). f.nodes) p.passes.fabric) p.in_step whole was.running) was
