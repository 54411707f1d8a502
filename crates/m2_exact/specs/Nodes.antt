-- Turns of two nodes in memory that are alike, and steps that are planned at them. This project's own.
use Rattle.std.specs.Prelude.{◌≡◌, ℕ, List, None, Ok}
use Rattle.std.specs.List.{AllByRecursion}
use Rattle.m2_dispatch.specs.Heard.{Heard}
use Rattle.m2_dispatch.specs.m2_shared.Numbers.{SeenNumbers}
use Rattle.m2_dispatch.specs.m2_shared.Place.{IsAlone}
use Rattle.m2_dispatch.specs.m2_shared.Gates.{places}
use Rattle.m2_dispatch.specs.m2_shared.declared.throttles.Throttles.{Throttles}
use Rattle.m2_exact.specs.Holding.{AreAlone}
use Rattle.m2_script.specs.m2_cluster.Node.{IsWholeNode, NodeNow, NodePlans, NodeTurns}
use Rattle.m2_script.specs.m2_center.m2_core.CoreNow.{IsAskedIfSigned}
use Rattle.m2_script.specs.m2_center.m2_feed.m2_journal.declared.facts.PlanStep.{PlanStep}
use Rattle.m2_script.specs.m2_center.m2_record.RecordNow.{RecordNow}
use Rattle.m2_exact.specs.Centers.{PlainCenter, plain_center}

pub record PlainNode : Type 0 where
  pub center : PlainCenter
  pub numbers : SeenNumbers
  pub throttles : Throttles

abbrev pub plain_node : {D : Type 0} → (D → List Heard) → NodeNow D → PlainNode
plain_node heard n = record { center = plain_center heard n.center; numbers = n.numbers; throttles = n.throttles }

-- nothing was asked on the record's feed before both sides had signed
abbrev pub IsAskedBehind : RecordNow → Type 0
IsAskedBehind r = IsAskedIfSigned r.core.live.session.phase r.core.live.feed

-- It keeps what its type says of a node in memory, nothing was asked too early, and no thread shares its words.
pub record IsFitNode {D : Type 0} (n : NodeNow D) : Type 0 where
  pub whole : IsWholeNode n
  pub asked : AllByRecursion IsAskedBehind n.center.records
  pub throttles : AreAlone (places n.throttles)
  pub counter : IsAlone n.numbers.place

-- a turn that found memory, in its stages and for its letters
pub record NodeTurned {D : Type 0} (E : Type 0) (heard : D → List Heard) (now : ℕ) (old new : NodeNow D) : Type 0 where
  pub turns : NodeTurns E heard now (Ok tt) old new
  pub none_held : new.center.out.held ≡ None

-- But for want of memory, nodes that are alike take their turns and their steps alike; and they stay fit where they stay whole.
pub record LikeNodesActAlike (E D : Type 0) (heard : D → List Heard) : Type 0 where
  pub turns : (now : ℕ) (old last new behind : NodeNow D) → IsFitNode old → plain_node heard old ≡ plain_node heard last → NodeTurned E heard now old new →
      NodeTurned E heard now last behind → plain_node heard new ≡ plain_node heard behind
  pub turn_stays : (now : ℕ) (old new : NodeNow D) → IsFitNode old → NodeTurned E heard now old new → IsWholeNode new → IsFitNode new
  pub plans : (peer : ℕ) (step : PlanStep) (now : ℕ) (old last new behind : NodeNow D) → IsFitNode old → plain_node heard old ≡ plain_node heard last →
      NodePlans (Ok tt) peer step now old new → NodePlans (Ok tt) peer step now last behind → plain_node heard new ≡ plain_node heard behind
  pub plan_stays : (peer : ℕ) (step : PlanStep) (now : ℕ) (old new : NodeNow D) → IsFitNode old → NodePlans (Ok tt) peer step now old new → IsWholeNode new → IsFitNode new
