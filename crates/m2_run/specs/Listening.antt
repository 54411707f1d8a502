-- Nodes that listen. This project's own.
use Rattle.std.specs.Prelude.{◌≡◌, ℕ, ◌<◌, true, false, List, slice_get, Some}
use Rattle.m2_edge.specs.Faults.{HasRisen}
use Rattle.m2_fabric.specs.Fabric.{ListensAlone, SeenFabric}
use Rattle.m2_fabric.specs.declared.fabric.ListenFault.{ListenFault}
use Rattle.m2_fabric.specs.declared.fabric.ListenFault.TheVariants as listen
use Rattle.m2_scenario.specs.declared.node.Node.{Node}
use Rattle.m2_run.specs.declared.outcome.RunFault.{RunFault}
use Rattle.m2_run.specs.declared.outcome.RunFault.TheVariants as fault

-- of the nodes before place k each that is started listens at its address
abbrev pub ListenBefore : (k : ℕ) → List Node → SeenFabric → Type 0
ListenBefore k nodes f = (j : ℕ) (x : Node) → j < k → slice_get nodes j ≡ Some x → x.started ≡ true → f.listens j ≡ Some x.at

-- Each node of these that is started listens at its address. The others listen where they did, and all else stays, the count of faults
-- as well.
pub record AllListen (nodes : List Node) (old new : SeenFabric) : Type 0 where
  pub listen : (j : ℕ) (x : Node) → slice_get nodes j ≡ Some x → x.started ≡ true → new.listens j ≡ Some x.at
  pub off : (j : ℕ) (x : Node) → slice_get nodes j ≡ Some x → x.started ≡ false → new.listens j ≡ old.listens j
  pub out : (j : ℕ) → new.out j ≡ old.out j
  pub gathered : (j : ℕ) → new.gathered j ≡ old.gathered j
  pub gathers : (j : ℕ) → new.gathers j ≡ old.gathers j
  pub faults : new.faults ≡ old.faults

-- The node at this place couldn't listen: each started one before it listens at its address, and the count of faults is as it was then;
-- it rose in this one's listen, after which it listens where it did.
pub record IsBindFault (node : ℕ) (nodes : List Node) (old new : SeenFabric) : Type 0 where
  pub x : Node
  pub there : slice_get nodes node ≡ Some x
  pub started : x.started ≡ true
  pub mid : SeenFabric
  pub earlier : ListenBefore node nodes mid
  pub faults : mid.faults ≡ old.faults
  pub rises : HasRisen mid.faults new.faults
  pub alone : ListensAlone node mid new
  pub here : new.listens node ≡ mid.listens node

-- why the nodes don't all listen; with want of memory the count of faults stays
abbrev pub IsListeningFault : RunFault → List Node → (old new : SeenFabric) → Type 0
IsListeningFault fault.NoMemory nodes old new = new.faults ≡ old.faults
IsListeningFault (fault.Bind node) nodes old new = IsBindFault node nodes old new
IsListeningFault (fault.Unfit u) nodes old new = ⊥

-- ---- one after another

-- the node at place k listens at its address, where it is started; all else stays
pub record ListensSo (k : ℕ) (x : Node) (old new : SeenFabric) : Type 0 where
  pub on : x.started ≡ true → new.listens k ≡ Some x.at
  pub off : x.started ≡ false → new.listens k ≡ old.listens k
  pub alone : ListensAlone k old new
  pub faults : new.faults ≡ old.faults

-- it couldn't, and the count rose
pub record FailsToListen (k : ℕ) (x : Node) (old new : SeenFabric) : Type 0 where
  pub started : x.started ≡ true
  pub rises : HasRisen old.faults new.faults
  pub alone : ListensAlone k old new
  pub here : new.listens k ≡ old.listens k

-- so it was, or memory ran out, and the count stays
abbrev pub CantListen : ListenFault → (k : ℕ) → Node → (old new : SeenFabric) → Type 0
CantListen listen.Failed k x old new = FailsToListen k x old new
CantListen listen.NoMemory k x old new = new.faults ≡ old.faults

-- each node before place k that is started listens at its address; all else stays
pub record ListenSoFar (k : ℕ) (nodes : List Node) (old new : SeenFabric) : Type 0 where
  pub listen : ListenBefore k nodes new
  pub off : (j : ℕ) (x : Node) → slice_get nodes j ≡ Some x → x.started ≡ false → new.listens j ≡ old.listens j
  pub out : (j : ℕ) → new.out j ≡ old.out j
  pub gathered : (j : ℕ) → new.gathered j ≡ old.gathered j
  pub gathers : (j : ℕ) → new.gathers j ≡ old.gathers j
  pub faults : new.faults ≡ old.faults
