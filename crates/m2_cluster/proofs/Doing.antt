-- What one node does, of a cluster by the node with a number.
use Rattle.std.proofs.Common.{◌≡◌, ℕ, ◌<◌, List, length, get_or, slice_get, slice_set, Option, Some, IfSome, refl, sym, ap, subst}
use Rattle.std.proofs.lemmas.Option.{slice_get_read}
use Rattle.m2_dispatch.specs.Heard.{Heard}
use Rattle.m2_journal.specs.declared.facts.PlanStep.{PlanStep}
use Rattle.m2_center.specs.Center.{CenterNow}
use Rattle.m2_center.specs.CenterTurn.{Answer, TakesTurn, means_at}
use Rattle.m2_center.specs.Plans.{PlansIn}
use Rattle.m2_cluster.specs.Cluster.{ClusterNow, OneDoes}
use Rattle.m2_cluster.specs.Node.{NodeNow, NodePlans, NodeTurns}

module _ {D : Type 0} (was old : NodeNow D) (same : was ≡ old) (new : CenterNow D) where
  pub turns_so : (E : Type 0) (heard : D → List Heard) (now : ℕ) (a : Answer) → TakesTurn E heard (means_at now was.numbers was.throttles) a was.center new →
      NodeTurns E heard now a old (record was { center = new })
  turns_so E heard now a h =
      subst (λ (o : NodeNow D). NodeTurns E heard now a o (record was { center = new })) same (record { turns = h; shared = record { numbers = refl; throttles = refl } })

  pub plans_so : (a : Answer) (peer : ℕ) (step : PlanStep) (now : ℕ) → PlansIn a peer step now was.throttles was.center new → NodePlans a peer step now old (record was { center = new })
  plans_so a peer step now h =
      subst (λ (o : NodeNow D). NodePlans a peer step now o (record was { center = new })) same (record { plans = h; shared = record { numbers = refl; throttles = refl } })

module _ {D : Type 0} (was old : ClusterNow D) (same : was ≡ old) (n : ℕ) (x : NodeNow D) (read : x ≡ get_or was.nodes n x) (within : n < length old.nodes) where
  there : slice_get old.nodes n ≡ Some x
  there =
      subst (λ (c : ClusterNow D). slice_get c.nodes n ≡ Some x) same
      (slice_get_read was.nodes (length was.nodes) n x refl (subst (λ (c : ClusterNow D). n < length c.nodes) (sym same) within) read)

  pub one_does : (how : NodeNow D → NodeNow D → Type 0) (y : NodeNow D) → how x y → OneDoes n how old (record was { nodes = slice_set was.nodes n y })
  one_does how y h = record {
    before = x;
    behind = y;
    was = there;
    does = h;
    only = ap (λ (c : ClusterNow D). record c { nodes = slice_set c.nodes n y }) same;
  }

  pub of_it : (P : NodeNow D → Type 0) → IfSome (slice_get old.nodes n) P → P x
  of_it P h = subst (λ (o : Option (NodeNow D)). IfSome o P) there h
