-- The stages of a message, with what each grants for it. The order is Ceph's: its messenger asks the throttle for messages and the
-- throttle for bytes of the peer's policy, and then the throttle of the dispatch queue.
use Rattle.std.specs.Prelude.{◌≡◌, ℕ, Option, None}
use Rattle.m2_shared.specs.Taking.{IsOwned}
use Rattle.m2_shared.specs.Throttle.{SeenGrant, SeenTakePass, SeenThrottle}
use Rattle.m2_shared.specs.declared.grants.Grants.{Grants}
use Rattle.m2_shared.specs.declared.stage.Stage.{Stage}
use Rattle.m2_shared.specs.declared.stage.Stage.TheVariants.{Messages, Bytes, Dispatch}
use Rattle.m2_shared.specs.declared.stages.Stages.{Stages}
use Rattle.m2_shared.specs.declared.stages.StagePasses.{StagePasses}

-- what a stage grants for a message of so many bytes
abbrev pub amount : Stage → ℕ → ℕ
amount Messages size = 1
amount Bytes size = size
amount Dispatch size = size

-- ---- each by its stage

abbrev pub throttle_at : Stages → Stage → SeenThrottle
throttle_at s Messages = s.messages.now
throttle_at s Bytes = s.bytes.now
throttle_at s Dispatch = s.dispatch.now

abbrev pub pass_at : StagePasses → Stage → SeenTakePass
pass_at p Messages = p.messages.now
pass_at p Bytes = p.bytes.now
pass_at p Dispatch = p.dispatch.now

abbrev pub grant_at : Grants → Stage → Option SeenGrant
grant_at g Messages = g.messages
grant_at g Bytes = g.bytes
grant_at g Dispatch = g.dispatch

abbrev pub nothing_granted : Grants
nothing_granted = record { messages = None; bytes = None; dispatch = None }

-- ---- what belongs together

-- each pass was made from the throttle of its stage
abbrev pub ArePassesOf : (Stage → SeenThrottle) → (Stage → SeenTakePass) → Type 0
ArePassesOf throttles passes = (stage : Stage) → (passes stage).place ≡ (throttles stage).place

-- each grant was
abbrev pub AreOwned : (Stage → SeenThrottle) → (Stage → Option SeenGrant) → Type 0
AreOwned throttles grants = (stage : Stage) → IsOwned (throttles stage).place (grants stage)

-- they are the same passes still, whatever was taken by them
pub record IsSamePasses (old new : StagePasses) : Type 0 where
  pub messages : new.messages.ghost_name ≡ old.messages.ghost_name
  pub bytes : new.bytes.ghost_name ≡ old.bytes.ghost_name
  pub dispatch : new.dispatch.ghost_name ≡ old.dispatch.ghost_name
