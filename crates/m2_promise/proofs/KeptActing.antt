-- A run of a script stays at rest where one of its nodes acts.
use Rattle.std.proofs.Common.{◌≡◌, ℕ, List, [], ◌∷◌, Some, IsSome, Ok, slice_get, sym, ap, subst, ◌∙◌}
use Rattle.std.specs.Prelude.{◌==◌}
use Rattle.std.specs.List.{AllByRecursion}
use Rattle.m2_fabric.specs.m2_addr.declared.addr.Addr.{Addr}
use Rattle.m2_dispatch.specs.Heard.{Heard}
use Rattle.m2_lives.specs.m2_bytes_fit.Halves.{KeepsRanges}
use Rattle.m2_links_go_on.specs.m2_weave.m2_journal.declared.facts.PlanStep.{PlanStep}
use Rattle.m2_links_go_on.specs.m2_weave.m2_journal.SideFacts.{SideFacts}
use Rattle.m2_script.specs.m2_record.RecordNow.{RecordNow}
use Rattle.m2_script.specs.m2_center.CenterTurn.{means_at}
use Rattle.m2_script.specs.m2_cluster.Cluster.{ClusterNow, OneDoes, held_by}
use Rattle.m2_script.specs.m2_cluster.Node.{IsWholeNode, NodeNow, NodePlans, NodeTurns}
use Rattle.m2_links_go_on.specs.Center.{holding_of}
use Rattle.m2_links_go_on.specs.Cluster.{AllInMemory, BringInMemory}
use Rattle.m2_links_go_on.specs.ClusterTold.{AreUnused}
use Rattle.m2_links_go_on.specs.ToldLaws.{PlanStaysUnused, TurnStaysUnused}
use Rattle.m2_links_go_on.specs.m2_growth.Holding.{AreOwn, Grows}
use Rattle.m2_links_go_on.specs.m2_growth.Records.{RecordGrows, RecordsGrow}
use Rattle.m2_links_go_on.proofs.m2_growth.InStepStanding.{Stands}
use Rattle.m2_promise.specs.Running.{IsNodeAt, IsRecordAt, NodeActs}
use Rattle.m2_fabric.specs.InStep.{SeenFabric}
use Rattle.m2_promise.specs.Acting.{run_of}
use Rattle.m2_promise.specs.BeginningLaws.{OnePlanActs, OneTurnActs}
use Rattle.m2_promise.specs.PassingLaws.{RestStays}
use Rattle.m2_promise.specs.Passed.{IsAtRest}
use Rattle.m2_script.specs.Script.{PlansStep, RunNow, TakesTurn}
use Rattle.m2_promise.specs.Kept.{run_in}
use Rattle.m2_promise.proofs.KeptLists.{set_at}
use Rattle.m2_promise.proofs.Ports.{all_ports, plan_stands, turn_stands}
use Rattle.m2_promise.proofs.Whole.{all_in_memory, holding_at, is_node}

-- ---- records

record_stays : (addrs : List Addr) (i : ℕ) (r s : RecordNow) → RecordGrows r s → IsRecordAt addrs i r → IsRecordAt addrs i s
record_stays addrs i r s grows at = record {
  mine = at.mine ∙ ap (λ (f : SideFacts). Some f.mine) (sym grows.facts);
  peer = ap (slice_get addrs) grows.place ∙ at.peer ∙ ap (λ (f : SideFacts). Some f.peer) (sym grows.facts);
  other = ap (λ n. n == i) grows.place ∙ at.other;
  ranges = subst KeepsRanges (sym grows.facts) at.ranges;
}

records_stay : (addrs : List Addr) (i : ℕ) (rs ss : List RecordNow) → RecordsGrow rs ss → AllByRecursion (IsRecordAt addrs i) rs → AllByRecursion (IsRecordAt addrs i) ss
records_stay addrs i [] [] grow all = tt
records_stay addrs i [] (s ∷ ss) grow all = absurd grow
records_stay addrs i (r ∷ rs) [] grow all = absurd grow
records_stay addrs i (r ∷ rs) (s ∷ ss) grow all = (record_stays addrs i r s grow.0 all.0, records_stay addrs i rs ss grow.1 all.1)

module _ {D : Type 0} where
  -- the node that acted is one at its place still
  stays_at : (addrs : List Addr) (i : ℕ) (n m : NodeNow D) → Grows (holding_of n.center) (holding_of m.center) → AreUnused m.center.port → IsWholeNode m →
      IsNodeAt addrs i (holding_of n.center) → IsNodeAt addrs i (holding_of m.center)
  stays_at addrs i n m grows unused whole at = record {
    node = is_node m whole grows.own (grows.judged at.node.halves);
    at = at.at ∙ ap Some (sym grows.grows.at);
    records = records_stay addrs i n.center.records m.center.records grows.grows.records at.records;
    in_memory = whole.port;
    made = whole.home;
    waiting = unused;
  }

  module _ (rest : RestStays) where
    -- one node acts, of which this is shown
    acts_so : (i : ℕ) (how : NodeNow D → NodeNow D → Type 0) (old new : RunNow D) (does : OneDoes i how old.cluster new.cluster) → new.fabric ≡ old.fabric →
        (IsSome does.before.center.port.waiting → AreOwn (holding_of does.before.center) → IsNodeAt old.fabric.nodes i (holding_of does.behind.center) → AllInMemory (held_by old.cluster.nodes) →
        BringInMemory (held_by old.cluster.nodes) (held_by new.cluster.nodes) → NodeActs i (run_of old.cluster.nodes old.fabric) (run_of new.cluster.nodes old.fabric)) →
        (AreOwn (holding_of does.before.center) → Stands (holding_of does.before.center) (holding_of does.behind.center)) →
        (AreUnused does.before.center.port → AreUnused does.behind.center.port) →
        AllByRecursion IsWholeNode old.cluster.nodes → AllByRecursion IsWholeNode new.cluster.nodes → IsAtRest (run_in old) → IsAtRest (run_in new)
    acts_so i how old new does fabric acts stands unused whole whole_now was =
        rest.turns i (run_in old) (run_in new) (subst (λ (f : SeenFabric). NodeActs i (run_in old) (run_of new.cluster.nodes f)) (sym fabric) node_acts)
        (all_ports i how old.cluster new.cluster does own stand) was
      where
        at : IsNodeAt old.fabric.nodes i (holding_of does.before.center)
        at = was.running.nodes i (holding_of does.before.center) (holding_at old.cluster.nodes i does.before does.was)

        own : AreOwn (holding_of does.before.center)
        own = at.node.own

        stand : Stands (holding_of does.before.center) (holding_of does.behind.center)
        stand = stands own

        whole_behind : IsWholeNode does.behind
        whole_behind =
            set_at IsWholeNode old.cluster.nodes i does.before does.behind does.was
            (subst (λ (c : ClusterNow D). AllByRecursion IsWholeNode c.nodes) does.only whole_now)

        node_acts : NodeActs i (run_of old.cluster.nodes old.fabric) (run_of new.cluster.nodes old.fabric)
        node_acts =
            acts at.in_memory own (stays_at old.fabric.nodes i does.before does.behind stand.grows (unused at.waiting) whole_behind at)
            (all_in_memory old.cluster.nodes whole) (λ node k none. all_in_memory new.cluster.nodes whole_now node k)

    pub turn_rests : (E : Type 0) → OneTurnActs D E → TurnStaysUnused D E → (heard : D → List Heard) (a : ℕ) (old new : RunNow D) → TakesTurn E heard a old new →
        AllByRecursion IsWholeNode old.cluster.nodes → AllByRecursion IsWholeNode new.cluster.nodes → IsAtRest (run_in old) → IsAtRest (run_in new)
    turn_rests E turn unused heard a old new t =
        let m = means_at old.now t.acts.before.numbers t.acts.before.throttles in
        acts_so a (NodeTurns E heard old.now (Ok tt)) old new t.acts t.fabric (turn heard old.now (Ok tt) a old.fabric old.cluster new.cluster t.acts)
        (turn_stands E heard m (Ok tt) t.acts.before.center t.acts.behind.center t.acts.does.turns)
        (unused heard m (Ok tt) t.acts.before.center t.acts.behind.center t.acts.does.turns)

    pub plan_rests : OnePlanActs D → PlanStaysUnused D → (a b : ℕ) (x : PlanStep) (old new : RunNow D) → PlansStep (Ok tt) a b x old new →
        AllByRecursion IsWholeNode old.cluster.nodes → AllByRecursion IsWholeNode new.cluster.nodes → IsAtRest (run_in old) → IsAtRest (run_in new)
    plan_rests plan unused a b x old new p =
        let throttles = p.acts.before.throttles in
        acts_so a (NodePlans (Ok tt) b x old.now) old new p.acts p.fabric (plan (Ok tt) b x old.now a old.fabric old.cluster new.cluster p.acts)
        (plan_stands (Ok tt) b x old.now throttles p.acts.before.center p.acts.behind.center p.acts.does.plans)
        (unused (Ok tt) b x old.now throttles p.acts.before.center p.acts.behind.center p.acts.does.plans)
