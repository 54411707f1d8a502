-- Behind a deed a run keeps what it kept.
use Rattle.std.proofs.Common.{◌≡◌, ℕ, List, [], ◌∷◌, map, Ok, refl, sym, ap, ◌∙◌}
use Rattle.std.specs.List.{AllByRecursion}
use Rattle.m2_dispatch.specs.Heard.{Heard}
use Rattle.m2_script.specs.m2_record.RecordNow.{RecordNow}
use Rattle.m2_script.specs.m2_cluster.Node.{IsWholeNode, NodeNow}
use Rattle.m2_links_go_on.specs.Center.{holding_of}
use Rattle.m2_links_go_on.specs.Cluster.{AllOwn}
use Rattle.m2_links_go_on.specs.ClusterTold.{OneByOne}
use Rattle.m2_links_go_on.specs.ToldLaws.{PlanStaysUnused, ToldClusterStaysJudged, ToldClusterStaysOwn, TurnStaysUnused}
use Rattle.m2_links_go_on.specs.m2_growth.Holding.{AreOwn}
use Rattle.m2_promise.specs.Running.{IsRunning}
use Rattle.m2_promise.specs.BeginningLaws.{ClustersHoldAll, OnePlanActs, OneTurnActs}
use Rattle.m2_promise.specs.PassingLaws.{HearingStaysAt, RestStays, ToldNodesHear}
use Rattle.m2_promise.specs.Passed.{IsAtRest}
use Rattle.m2_promise.specs.PlanLaws.{DeedsKeepNodes}
use Rattle.m2_promise.specs.Planned.{GoesOnBy, PlansGoOn}
use Rattle.m2_scenario.specs.declared.link.Link.{Link}
use Rattle.m2_scenario.specs.declared.node.Node.{Node}
use Rattle.m2_script.specs.Made.{AreOverLinks, side_of}
use Rattle.m2_script.specs.Script.{Deed, Does, RunNow, fault, flow, meet, plan, turn}
use Rattle.m2_promise.specs.Kept.{run_in}
use Rattle.m2_promise.specs.KeepingLaws.{DeedsStayKept}
use Rattle.m2_promise.proofs.KeptActing.{plan_rests, turn_rests}
use Rattle.m2_promise.proofs.KeptHearing.{fault_rests, flow_rests, meeting_rests}
use Rattle.m2_promise.proofs.KeptLists.{there_too}
use Rattle.m2_promise.proofs.Whole.{holding_at}
use Rattle.m2_fabric.proofs.m2_lemmas.Lists.{all_by_places}

-- records whose plans go on have their sides
same_sides : (i : ℕ) (ds : List Deed) (rs ss : List RecordNow) → OneByOne (GoesOnBy i ds) rs ss → map side_of ss ≡ map side_of rs
same_sides i ds [] [] go = refl
same_sides i ds [] (s ∷ ss) go = absurd go
same_sides i ds (r ∷ rs) [] go = absurd go
same_sides i ds (r ∷ rs) (s ∷ ss) go = ap (λ x. x ∷ map side_of ss) go.0.side ∙ ap (λ l. side_of r ∷ l) (same_sides i ds rs ss go.1)

module _ {D : Type 0} where
  -- each socket has one end at each node of a run
  pub all_own : (s : RunNow D) → IsRunning (run_in s) → AllOwn s.cluster.nodes
  all_own s run =
      all_by_places (λ (n : NodeNow D). AreOwn (holding_of n.center)) s.cluster.nodes
      (λ i n there. (run.nodes i (holding_of n.center) (holding_at s.cluster.nodes i n there)).node.own)

  -- the records of nodes whose plans go on are over the same links
  stay_over : (nodes : List Node) (links : List Link) (ds : List Deed) (old new : RunNow D) → PlansGoOn ds old new →
      AreOverLinks nodes links old.cluster.nodes → AreOverLinks nodes links new.cluster.nodes
  stay_over nodes links ds old new go over k n there =
      let was = there_too old.cluster.nodes new.cluster.nodes k n (sym go.count) there in
      same_sides k ds was.item.center.records n.center.records (go.each k was.item n was.there there) ∙ over k was.item was.there

module _ (D E : Type 0) (rest : RestStays) (one_turn : OneTurnActs D E) (one_plan : OnePlanActs D) (turn_unused : TurnStaysUnused D E) (plan_unused : PlanStaysUnused D)
    (holds : ClustersHoldAll D) (told : ToldNodesHear D) (own : ToldClusterStaysOwn D) (judged : ToldClusterStaysJudged D) (stays : HearingStaysAt) (nodes_keep : DeedsKeepNodes D E) where
  rests : (heard : D → List Heard) (d : Deed) (old new : RunNow D) → Does E heard (Ok tt) d old new → AllByRecursion IsWholeNode old.cluster.nodes →
      AllByRecursion IsWholeNode new.cluster.nodes → IsAtRest (run_in old) → IsAtRest (run_in new)
  rests heard (plan a b x) old new p whole now was = plan_rests rest one_plan plan_unused a b x old new p whole now was
  rests heard (turn a) old new t whole now was = turn_rests rest E one_turn turn_unused heard a old new t whole now was
  rests heard (meet a) old new p whole now was = meeting_rests holds told own judged stays rest a old new p now was
  rests heard (flow a b socket most) old new p whole now was = flow_rests holds told own judged stays rest a b socket most old new p now was
  rests heard (fault a b socket) old new p whole now was = fault_rests holds told own judged stays rest a b socket old new p now was

  pub deeds_kept : DeedsStayKept D E
  deeds_kept heard nodes links d old new h kept =
      let go = nodes_keep heard d old new h (all_own old kept.rest.running) kept.whole kept.kept in record {
        rest = rests heard d old new h.0 kept.whole h.1 kept.rest;
        whole = h.1;
        kept = go.0;
        count = go.1.count ∙ kept.count;
        sides = stay_over nodes links (d ∷ []) old new go.1 kept.sides;
      }
