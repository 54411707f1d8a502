-- What a node keeps along the deeds of a script, and what becomes of its plans. This project's own.
use Rattle.std.specs.Prelude.{◌≡◌, ℕ, ◌==◌, ◌&&◌, if◌then◌else◌, List, [], ◌∷◌, ◌++◌, length, slice_get, Some, None}
use Rattle.std.specs.List.{AllByRecursion}
use Rattle.m2_dispatch.specs.Heard.{Heard}
use Rattle.m2_links_go_on.specs.m2_weave.m2_journal.declared.facts.PlanStep.{PlanStep}
use Rattle.m2_script.specs.m2_record.Due.{next_step}
use Rattle.m2_script.specs.m2_record.RecordNow.{RecordNow}
use Rattle.m2_script.specs.m2_cluster.Node.{NodeNow}
use Rattle.m2_links_go_on.specs.ClusterTold.{OneByOne}
use Rattle.m2_links_go_on.specs.LogLaws.{logging_in}
use Rattle.m2_links_go_on.specs.Logged.{IsLogged}
use Rattle.m2_links_go_on.specs.OfPeers.{AreOfPeers}
use Rattle.m2_script.specs.Made.{side_of}
use Rattle.m2_script.specs.Script.{Deed, RunNow, plan}

-- ---- plans

-- each step of the record's plan was taken
abbrev pub IsTaken : RecordNow → Type 0
IsTaken r = next_step r ≡ None

-- the steps that these deeds plan for the record of node i towards node b, in order
abbrev pub steps_for : (i b : ℕ) → List Deed → List PlanStep
steps_for i b [] = []
steps_for i b (plan a c x ∷ ds) = if (a == i) && (c == b) then x ∷ steps_for i b ds else steps_for i b ds
steps_for i b (_ ∷ ds) = steps_for i b ds

-- ---- a node

-- Its dispatchers were called with what its records handed on, each step of its records' plans was taken, and all calls are of peers
-- of its records.
pub record IsKeptNode {D : Type 0} (heard : D → List Heard) (n : NodeNow D) : Type 0 where
  pub logged : IsLogged heard (logging_in n.center)
  pub taken : AllByRecursion IsTaken n.center.records
  pub peers : AreOfPeers heard n.center.records n.center.out n.center.queued

abbrev pub AllKept : {D : Type 0} → (D → List Heard) → RunNow D → Type 0
AllKept heard s = AllByRecursion (IsKeptNode heard) s.cluster.nodes

-- ---- deeds

-- Behind these deeds a record of node i has its peer and its facts, and its plan goes on by the steps that they plan for it.
pub record GoesOnBy (i : ℕ) (ds : List Deed) (old new : RecordNow) : Type 0 where
  pub side : side_of new ≡ side_of old
  pub plan : new.plan ≡ old.plan ++ steps_for i old.place ds

-- so do all records of all nodes
pub record PlansGoOn {D : Type 0} (ds : List Deed) (old new : RunNow D) : Type 0 where
  pub count : length new.cluster.nodes ≡ length old.cluster.nodes
  pub each : (i : ℕ) (n m : NodeNow D) → slice_get old.cluster.nodes i ≡ Some n → slice_get new.cluster.nodes i ≡ Some m →
      OneByOne (GoesOnBy i ds) n.center.records m.center.records
