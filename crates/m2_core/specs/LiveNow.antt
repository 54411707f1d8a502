-- What a step of a session can change: the session, the outgoing queue, the last accepted number, the name of the life, and
-- the feed with what was granted for it. This project's own.
use Rattle.std.specs.Prelude.{◌≡◌, ℕ, Bool, false, Option, Some, None}
use Rattle.m2_feed.specs.FeedNow.{FeedNow, Reading, framing, shaking}
use Rattle.m2_frame.specs.Reading.{size_of}
use Rattle.m2_queues.specs.OutQueues.{Outgoing, waits}
use Rattle.m2_session.specs.Phases as phase
use Rattle.m2_session.specs.declared.session.Phase.TheVariants.{Ready}
use Rattle.m2_session.specs.declared.session.Session.{Session}
use Rattle.m2_shared.specs.Gates.{nothing_held}
use Rattle.m2_shared.specs.Stages.{amount, grant_at}
use Rattle.m2_shared.specs.Throttle.{SeenGrant}
use Rattle.m2_shared.specs.declared.peer_grants.PeerGrants.{PeerGrants}
use Rattle.m2_shared.specs.declared.stage.Stage.{Stage}

-- what a session's step can change
pub record LiveNow : Type 0 where
  pub session : Session
  pub out : Outgoing
  -- the last accepted number
  pub last : ℕ
  -- the server cookie that was kept where numbers were last set back, 0 where none was
  pub life : ℕ
  -- Up to where a resumption on the feed acknowledges, 0 where none does. What of it was written is counted by the step that takes
  -- the resumption, so only a claim of more is left to be met.
  pub resumed : ℕ
  pub feed : Option FeedNow
  -- what the stages have granted so far for the MESSAGE that isn't finished
  pub granted : PeerGrants

-- ---- the feed

-- there is a feed, of which this holds
abbrev pub OnFeedNow : Option FeedNow → (FeedNow → Type 0) → Type 0
OnFeedNow (Some v) P = P v
OnFeedNow None P = ⊥

-- the size of the MESSAGE at the front, granted or not
abbrev pub asked_in : Reading → Option ℕ
asked_in (framing rest granted) = size_of rest
asked_in (shaking s) = None

abbrev pub asked_on : Option FeedNow → Option ℕ
asked_on (Some v) = asked_in v.reading
asked_on None = None

-- whether its decoder was told that each stage has granted
abbrev pub is_granted_in : Reading → Bool
is_granted_in (framing rest granted) = granted
is_granted_in (shaking s) = false

abbrev pub is_granted_on : Option FeedNow → Bool
is_granted_on (Some v) = is_granted_in v.reading
is_granted_on None = false

-- ---- what is granted for it

abbrev pub HoldsNothing : PeerGrants → Type 0
HoldsNothing g = g ≡ nothing_held g.peer

abbrev pub IsAmount : ℕ → Option SeenGrant → Type 0
IsAmount n (Some g) = g.n ≡ n
IsAmount n None = Unit {0}

-- What a stage has granted is what it grants for a message of the size that is asked for; where none is asked for, nothing is granted.
abbrev pub AreFor : Option ℕ → PeerGrants → Type 0
AreFor (Some size) g = (stage : Stage) → IsAmount (amount stage size) (grant_at g.grants stage)
AreFor None g = HoldsNothing g

-- ---- the session and the queue

abbrev pub is_ready : LiveNow → Bool
is_ready l = phase.is l.session.phase Ready

-- a message is kept or waits to be written
abbrev pub is_waiting : LiveNow → Bool
is_waiting l = waits l.out.queue
