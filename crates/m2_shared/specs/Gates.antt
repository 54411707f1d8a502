-- The throttles of a node, each at its gate: one for messages and one for bytes of each type of peers, and one for what isn't
-- dispatched yet, of all peers together. The types are those of Ceph's entities.
use Rattle.std.specs.Prelude.{◌≡◌, ℕ, ◌+◌, ◌-◌, Bool, true, false, ◌&&◌, ◌==◌, if◌then◌else◌, Option, Some, None}
use Rattle.std.specs.Option.{is_some}
use Rattle.m2_shared.specs.Place.{IsAlone, IsShared, Place}
use Rattle.m2_shared.specs.More.{Asks, GivesBack}
use Rattle.m2_shared.specs.Stages.{grant_at, nothing_granted}
use Rattle.m2_shared.specs.Taking.{IsOwned}
use Rattle.m2_shared.specs.Throttle.{SeenGrant, SeenTakePass, SeenThrottle, bound_of, unused_pass}
use Rattle.m2_shared.specs.declared.bounds.Bounds.{Bounds}
use Rattle.m2_shared.specs.declared.bounds.TypeBound.{TypeBound}
use Rattle.m2_shared.specs.declared.more.More.{More}
use Rattle.m2_shared.specs.declared.peer_grants.PeerGrants.{PeerGrants}
use Rattle.m2_shared.specs.declared.peer_type.PeerType.{PeerType}
use Rattle.m2_shared.specs.declared.peer_type.PeerType.TheVariants.{Mon, Mds, Osd, Client, Mgr}
use Rattle.m2_shared.specs.declared.stage.Stage.{Stage}
use Rattle.m2_shared.specs.declared.stage.Stage.TheVariants.{Messages, Bytes, Dispatch}
use Rattle.m2_shared.specs.declared.throttles.TakePasses.{TakePasses}
use Rattle.m2_shared.specs.declared.throttles.Throttles.{Throttles}
use Rattle.m2_shared.specs.declared.type_throttle.TypePass.{TypePass}
use Rattle.m2_shared.specs.declared.type_throttle.TypeThrottle.{TypeThrottle}
use Rattle.m2_shared.specs.declared.type_throttle_list.TypePassList.{TypePassList}
use Rattle.m2_shared.specs.declared.type_throttle_list.TypeThrottleList.{TypeThrottleList}

-- ---- types of peers

-- the number of a type
abbrev pub entity : PeerType → ℕ
entity Mon = 1
entity Mds = 2
entity Osd = 4
entity Client = 8
entity Mgr = 16

abbrev pub type_of : ℕ → Option PeerType
type_of n = if n == 1 then Some Mon else if n == 2 then Some Mds else if n == 4 then Some Osd
    else if n == 8 then Some Client else if n == 16 then Some Mgr else None

abbrev pub or_client : Option PeerType → PeerType
or_client (Some t) = t
or_client None = Client

abbrev pub peer_type : ℕ → PeerType
peer_type n = or_client (type_of n)

abbrev pub is_type : PeerType → PeerType → Bool
is_type peer t = entity peer == entity t

-- ---- gates

pub data Gate : Type 0 where
  messages : PeerType → Gate
  bytes : PeerType → Gate
  dispatch : Gate

-- the gate of a stage, for peers of a type
abbrev pub gate_of : PeerType → Stage → Gate
gate_of peer Messages = messages peer
gate_of peer Bytes = bytes peer
gate_of peer Dispatch = dispatch

-- messages of such peers pass it
abbrev pub is_gate_of : PeerType → Gate → Bool
is_gate_of peer (messages t) = is_type peer t
is_gate_of peer (bytes t) = is_type peer t
is_gate_of peer dispatch = true

-- what is at each gate of such peers, by its stage
abbrev pub by_stage : {T : Type 0} → PeerType → (Gate → T) → Stage → T
by_stage peer at stage = at (gate_of peer stage)

-- ---- what is at each gate

abbrev pub throttles_of : PeerType → TypeThrottleList → TypeThrottle
throttles_of Mon l = l.mon
throttles_of Mds l = l.mds
throttles_of Osd l = l.osd
throttles_of Client l = l.client
throttles_of Mgr l = l.mgr

abbrev pub passes_of : PeerType → TypePassList → TypePass
passes_of Mon l = l.mon
passes_of Mds l = l.mds
passes_of Osd l = l.osd
passes_of Client l = l.client
passes_of Mgr l = l.mgr

abbrev pub throttle_in : Throttles → Gate → SeenThrottle
throttle_in t (messages peer) = (throttles_of peer t.by_type).messages
throttle_in t (bytes peer) = (throttles_of peer t.by_type).bytes
throttle_in t dispatch = t.dispatch

abbrev pub pass_in : TakePasses → Gate → SeenTakePass
pass_in p (messages peer) = (passes_of peer p.by_type).messages
pass_in p (bytes peer) = (passes_of peer p.by_type).bytes
pass_in p dispatch = p.dispatch

-- where each throttle's word lies
abbrev pub Places : Type 0
Places = Gate → Place

abbrev pub places : Throttles → Places
places t gate = (throttle_in t gate).place

abbrev pub pass_places : TakePasses → Places
pass_places p gate = (pass_in p gate).place

-- each word, where it is alone
abbrev pub words : TakePasses → Gate → ℕ
words p gate = (pass_in p gate).word

-- how much is granted
abbrev pub size_granted : Option SeenGrant → ℕ
size_granted (Some g) = g.n
size_granted None = 0

-- how much of it each throttle has granted
abbrev pub held : PeerGrants → Gate → ℕ
held g (messages t) = if is_type g.peer t then size_granted g.grants.messages else 0
held g (bytes t) = if is_type g.peer t then size_granted g.grants.bytes else 0
held g dispatch = size_granted g.grants.dispatch

-- each stage has granted
abbrev pub is_whole : PeerGrants → Bool
is_whole g = is_some g.grants.messages && is_some g.grants.bytes && is_some g.grants.dispatch

abbrev pub nothing_held : PeerType → PeerGrants
nothing_held peer = record { peer = peer; grants = nothing_granted }

-- ---- what belongs together

-- each pass was made from the throttle at its gate
abbrev pub ArePassesOf : Throttles → TakePasses → Type 0
ArePassesOf t p = pass_places p ≡ places t

-- threads share each word
abbrev pub AreShared : Throttles → Type 0
AreShared t = (gate : Gate) → IsShared (places t gate)

-- each grant was made from the throttle whose word lies there
abbrev pub AreHeld : Places → PeerGrants → Type 0
AreHeld at g = (stage : Stage) → IsOwned (at (gate_of g.peer stage)) (grant_at g.grants stage)

-- what is asked for goes through the gates of the peer's type, and no other word moves
pub record AsksPeer (answer : More) (size : ℕ) (t : Throttles) (old new : TakePasses) (before after : PeerGrants) : Type 0 where
  pub peer : after.peer ≡ before.peer
  pub asks : Asks answer size (by_stage before.peer (throttle_in t)) (by_stage before.peer (pass_in old)) (by_stage before.peer (pass_in new)) (grant_at before.grants) (grant_at after.grants)
  pub others : (gate : Gate) → is_gate_of before.peer gate ≡ false → pass_in new gate ≡ pass_in old gate

-- what comes back goes there too
pub record GivesPeer (t : Throttles) (old new : TakePasses) (g : PeerGrants) : Type 0 where
  pub gives : GivesBack (by_stage g.peer (throttle_in t)) (by_stage g.peer (pass_in old)) (by_stage g.peer (pass_in new)) (grant_at g.grants)
  pub others : (gate : Gate) → is_gate_of g.peer gate ≡ false → pass_in new gate ≡ pass_in old gate

-- Where a throttle is alone, its word stays.
abbrev pub Stay : Throttles → (old new : TakePasses) → Type 0
Stay t old new = (gate : Gate) → IsAlone (places t gate) → words new gate ≡ words old gate

-- Where a throttle is alone, so much comes back to it.
abbrev pub Return : (Gate → ℕ) → Throttles → (old new : TakePasses) → Type 0
Return n t old new = (gate : Gate) → IsAlone (places t gate) → words new gate ≡ words old gate - n gate

-- Where a throttle is alone, its word less what is held stays.
abbrev pub Keep : (before after : Gate → ℕ) → Throttles → (old new : TakePasses) → Type 0
Keep before after t old new = (gate : Gate) → IsAlone (places t gate) → words new gate + before gate ≡ words old gate + after gate

-- ---- the gates of one type

abbrev pub typed_throttles : TypeThrottle → SeenThrottle → Stage → SeenThrottle
typed_throttles t all Messages = t.messages
typed_throttles t all Bytes = t.bytes
typed_throttles t all Dispatch = all

abbrev pub typed_passes : TypePass → SeenTakePass → Stage → SeenTakePass
typed_passes p all Messages = p.messages
typed_passes p all Bytes = p.bytes
typed_passes p all Dispatch = all

-- ---- as they are made

abbrev pub no_bound : TypeBound
no_bound = record { messages = 0; bytes = 0 }

abbrev pub dispatch_alone : ℕ → Bounds
dispatch_alone most = record { mon = no_bound; mds = no_bound; osd = no_bound; client = no_bound; mgr = no_bound; dispatch = most }

abbrev pub bounds_of : PeerType → Bounds → TypeBound
bounds_of Mon b = b.mon
bounds_of Mds b = b.mds
bounds_of Osd b = b.osd
bounds_of Client b = b.client
bounds_of Mgr b = b.mgr

-- the bound at a gate
abbrev pub bound_at : Bounds → Gate → ℕ
bound_at b (messages t) = bound_of (bounds_of t b).messages
bound_at b (bytes t) = bound_of (bounds_of t b).bytes
bound_at b dispatch = bound_of b.dispatch

abbrev pub alone_throttle : ℕ → SeenThrottle
alone_throttle most = record { place = None; most = bound_of most }

abbrev pub alone_type : TypeBound → TypeThrottle
alone_type b = record { messages = alone_throttle b.messages; bytes = alone_throttle b.bytes }

abbrev pub alone : Bounds → Throttles
alone b = record {
  by_type = record { mon = alone_type b.mon; mds = alone_type b.mds; osd = alone_type b.osd; client = alone_type b.client; mgr = alone_type b.mgr };
  dispatch = alone_throttle b.dispatch;
}

abbrev pub unused_type : TypePass
unused_type = record { messages = unused_pass None; bytes = unused_pass None }

-- a pass of these
abbrev pub unused_of : TypeThrottle → TypePass
unused_of t = record { messages = unused_pass t.messages.place; bytes = unused_pass t.bytes.place }

abbrev pub unused_by : Throttles → TakePasses
unused_by t = record {
  by_type = record {
    mon = unused_of t.by_type.mon;
    mds = unused_of t.by_type.mds;
    osd = unused_of t.by_type.osd;
    client = unused_of t.by_type.client;
    mgr = unused_of t.by_type.mgr;
  };
  dispatch = unused_pass t.dispatch.place;
}

abbrev pub unused : TakePasses
unused = record {
  by_type = record { mon = unused_type; mds = unused_type; osd = unused_type; client = unused_type; mgr = unused_type };
  dispatch = unused_pass None;
}
