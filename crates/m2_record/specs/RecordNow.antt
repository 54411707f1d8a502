-- What contracts see of a record. This project's own.
use Rattle.std.specs.Prelude.{◌≡◌, ℕ, Bool, List, [], ◌∷◌, ◌++◌, map, Option, Some, None}
use Rattle.m2_core.specs.declared.waits.Waits.{Waits}
use Rattle.m2_core.specs.CoreNow.{CoreNow}
use Rattle.m2_dispatch.specs.declared.parcel.Parcel.{Parcel}
use Rattle.m2_dispatch.specs.declared.parcel.Parcel.TheVariants as parcel
use Rattle.m2_fabric.specs.declared.socket.SocketId.{SocketId}
use Rattle.m2_fabric.specs.End.{SeenEnd}
use Rattle.m2_feed.specs.FeedNow.{FeedNow}
use Rattle.m2_journal.specs.declared.entry.Entry.{Entry}
use Rattle.m2_journal.specs.declared.facts.PlanStep.{PlanStep}
use Rattle.m2_journal.specs.Items.{Sources}
use Rattle.m2_journal.specs.Plan.{planned}
use Rattle.m2_journal.specs.SideFacts.{SideFacts}
use Rattle.m2_journal.specs.State.{Delivery, letter, discarded, remote_reset}
use Rattle.m2_dispatch.specs.m2_message.Message.{content_of}
use Rattle.m2_session.specs.declared.session.Session.{Session}
use Rattle.m2_trail.specs.Trails.{TrailNow}
use Rattle.m2_record.specs.Sources.{Grounds, sources_of}

-- how many entries, parcels, closed ends and trails fit before memory is taken
pub record Rooms : Type 0 where
  pub entries : ℕ
  pub parcels : ℕ
  pub ends : ℕ
  pub trails : ℕ

pub record RecordNow : Type 0 where
  -- the peer's place among the nodes
  pub place : ℕ
  -- what is to be done, and how many steps of it were taken
  pub plan : List PlanStep
  pub steps : ℕ
  -- what was done
  pub journal : List Entry
  -- what the halves did that were taken, until then, in order
  pub trails : List TrailNow
  -- the session, the outgoing queue and the feed
  pub core : CoreNow
  -- the ends that were the feed, in order
  pub spent : List SeenEnd
  -- what is ready for the dispatcher, in order
  pub parcels : List Parcel
  -- how many were handed out before them
  pub handed : ℕ
  -- when it may dial next
  pub waits : Waits
  -- whether the feed's last write answered that it can't yet, and nothing has settled since
  pub held : Bool
  -- how many connects failed
  pub missed : ℕ
  -- the moment of the last productive entry
  pub last : ℕ
  pub room : Rooms

-- a session is with that peer, by that policy
pub record IsSessionOf (f : SideFacts) (s : Session) : Type 0 where
  pub mine : s.mine ≡ f.mine
  pub peer : s.peer ≡ f.peer
  pub policy : s.policy ≡ f.policy

-- ---- its ends

abbrev pub feed_end : Option FeedNow → List SeenEnd
feed_end (Some v) = v.end ∷ []
feed_end None = []

-- what is composed on the feed and not put
abbrev pub composed_on : Option FeedNow → List ℕ
composed_on (Some v) = v.composed
composed_on None = []

-- the feed's end, and then those that were the feed
abbrev pub ends_of : RecordNow → List SeenEnd
ends_of r = feed_end r.core.live.feed ++ r.spent

abbrev pub ids_of : List SeenEnd → List SocketId
ids_of ends = map (λ e. e.id) ends

-- ---- what its journal speaks of

abbrev pub grounds_of : RecordNow → Grounds
grounds_of r = record { plan = map planned r.plan; ends = ends_of r; trails = r.trails }

abbrev pub speaks_of : RecordNow → Sources
speaks_of r = sources_of (grounds_of r)

-- ---- what is handed out

abbrev pub delivery_of : Parcel → Delivery
delivery_of (parcel.Letter l) = letter l.number l.life l.key (content_of l.message)
delivery_of (parcel.Discard peer) = discarded
delivery_of (parcel.RemoteReset peer) = remote_reset
