-- A node's door, and what a turn of it changes there and at its port. This project's own.
use Rattle.std.specs.Prelude.{◌≡◌, ◌≢◌, ◌⊎◌, ℕ, ◌+◌, ◌<◌, ◌≤◌, ◌||◌, Bool, true, false, List, [], ◌∷◌, ◌++◌, length, map, slice_get, slice_set, sum_by, Option, Some, None}
use Rattle.std.specs.List.{AllByRecursion, flat_map, list_any}
use Rattle.std.specs.Option.{option_to_list}
use Rattle.m2_edge.specs.Faults.{HasRisen, next_count}
use Rattle.m2_fabric.specs.Port.{SeenPort}
use Rattle.m2_fabric.specs.declared.socket.SocketId.{SocketId}
use Rattle.m2_mailbox.specs.Merge.{IsMerge}
use Rattle.m2_trail.specs.Arrivals.{LooseNow, closed_of, left_of}
use Rattle.m2_trail.specs.Incoming.{IncomingNow}
use Rattle.m2_trail.specs.Turn.{AdvancesAs}
use Rattle.m2_trail.specs.declared.turn.HalfTurn.{HalfTurn}
use Rattle.m2_trail.specs.declared.turn.HalfTurn.TheVariants as half
use Rattle.m2_handover.specs.Handed.{ComeAsked, OnItsWay, left_behind}
use Rattle.m2_handover.specs.Way.{EachHasPut, IsAtHomeIn, Refuses, WasRefused, WayNow, with_put}
use Rattle.m2_handover.specs.declared.door.DoorTurn.{DoorTurn}
use Rattle.m2_handover.specs.declared.door.DoorTurn.TheVariants as turn
use Rattle.m2_handover.specs.declared.door.TheConstants.{MOST_ACCEPTS, MOST_AT_DOOR, ROOM_WAIT}

-- Halves that weren't asked yet, in order; sockets that were, whose home has had no room; halves that are over; the ways, with what was put
-- by each; and whether something is there to be done at once.
pub record DoorNow : Type 0 where
  pub halves : List IncomingNow
  pub asked : List OnItsWay
  pub over : List LooseNow
  pub ways : List WayNow
  pub busy : Bool

-- the halves of a door that weren't asked, those that are over first
abbrev pub unasked_in : DoorNow → List LooseNow
unasked_in d = d.over ++ map left_of d.halves

-- those that were, and that nobody went on with
abbrev pub asked_in : DoorNow → List LooseNow
asked_in d = map left_behind d.asked

-- ---- sockets, however they are weighed

abbrev pub weight_of : (SocketId → ℕ) → LooseNow → ℕ
weight_of weight l = weight l.end.id

abbrev pub weight_of_half : (SocketId → ℕ) → IncomingNow → ℕ
weight_of_half weight h = weight h.end.id

abbrev pub weight_on_way : (SocketId → ℕ) → OnItsWay → ℕ
weight_on_way weight h = weight h.end.id

-- of those that were put by a way, and by some
abbrev pub weight_by : (SocketId → ℕ) → WayNow → ℕ
weight_by weight w = sum_by (sum_by (weight_on_way weight)) w.put

abbrev pub weight_put : (SocketId → ℕ) → List WayNow → ℕ
weight_put weight ways = sum_by (weight_by weight) ways

-- of those that a door has
abbrev pub weight_in : (SocketId → ℕ) → DoorNow → ℕ
weight_in weight d = sum_by (weight_of_half weight) d.halves + sum_by (weight_on_way weight) d.asked + sum_by (weight_of weight) d.over

-- of those that a door has, and those that it has handed over
abbrev pub weight_through : (SocketId → ℕ) → DoorNow → ℕ
weight_through weight d = weight_in weight d + weight_put weight d.ways

-- each socket that was at the door is there still, or was handed over
abbrev pub KeepsAll : DoorNow → DoorNow → Type 0
KeepsAll old new = (weight : SocketId → ℕ) → weight_through weight new ≡ weight_through weight old

-- so it is, and each one that the port has made since came to the door
abbrev pub TakesIn : (before after : List SocketId) → DoorNow → DoorNow → Type 0
TakesIn before after old new = (weight : SocketId → ℕ) → weight_through weight new + sum_by weight before ≡ weight_through weight old + sum_by weight after

-- a socket came to halves that stand, or to those that are over
abbrev pub Stands : SocketId → (old new : List IncomingNow × List LooseNow) → Type 0
Stands id old new = (weight : SocketId → ℕ) → sum_by (weight_of_half weight) new.0 + sum_by (weight_of weight) new.1
    ≡ sum_by (weight_of_half weight) old.0 + sum_by (weight_of weight) old.1 + weight id

-- these stand before others
abbrev pub StandBefore : {A : Type 0} → (old new : List A) → Type 0
StandBefore {A} old new = (more : List A) × (new ≡ old ++ more)

-- there is room at a door for one half more
abbrev pub HasRoom : DoorNow → Type 0
HasRoom d = length d.halves + length d.asked < MOST_AT_DOOR

-- none came, or there is something to be done at once
abbrev pub IsSameOrBusy : DoorNow → DoorNow → Type 0
IsSameOrBusy old new = ((new.halves ≡ old.halves) × (new.over ≡ old.over) × (new.busy ≡ old.busy)) ⊎ (new.busy ≡ true)

-- Sockets came to a door: each is the last half that stands there, or is over. None is over while there is room.
pub record HaveCome (old new : DoorNow) : Type 0 where
  pub halves : StandBefore old.halves new.halves
  pub asked : new.asked ≡ old.asked
  pub over : StandBefore old.over new.over
  pub room : HasRoom new → new.over ≡ old.over
  pub ways : new.ways ≡ old.ways
  pub busy : IsSameOrBusy old new

-- ---- halves that shake hands

-- a half before its turn, what that came to, and the half behind it
pub record Shaken : Type 0 where
  pub before : IncomingNow
  pub turn : HalfTurn
  pub behind : IncomingNow

-- it had memory
abbrev pub HadMemory : HalfTurn → Type 0
HadMemory half.NoMemory = ⊥
HadMemory _ = Unit {0}

-- its turn is that of a half, which had memory
pub record HasShaken (s : Shaken) : Type 0 where
  pub advances : AdvancesAs s.turn s.before s.behind
  pub memory : HadMemory s.turn

-- where it is then: it stands at the door still, it was asked, or it is over
abbrev pub stays_by : HalfTurn → IncomingNow → List IncomingNow
stays_by half.Asked h = []
stays_by half.Over h = []
stays_by _ h = h ∷ []

abbrev pub asked_by : HalfTurn → IncomingNow → List IncomingNow
asked_by half.Asked h = h ∷ []
asked_by _ h = []

abbrev pub over_by : HalfTurn → IncomingNow → List LooseNow
over_by half.Over h = closed_of h ∷ []
over_by _ h = []

-- it may go on at once
abbrev pub is_busy : HalfTurn → Bool
is_busy half.Busy = true
is_busy _ = false

-- The half that comes next takes its turn, and is then where that leads.
pub record ShakesNext (rest : List IncomingNow) (s : Shaken) (old new : DoorNow) : Type 0 where
  pub has : HasShaken s
  pub halves : new.halves ≡ rest ++ stays_by s.turn s.behind
  pub asked : ComeAsked (asked_by s.turn s.behind) old.asked new.asked
  pub over : new.over ≡ old.over ++ over_by s.turn s.behind
  pub ways : new.ways ≡ old.ways
  pub busy : new.busy ≡ old.busy || is_busy s.turn

-- so does the first one of a door, where there is one
abbrev pub ShakesFirst : DoorNow → DoorNow → Type 0
ShakesFirst old new = (next : IncomingNow) (rest : List IncomingNow) → old.halves ≡ next ∷ rest →
    (s : Shaken) × (s.before ≡ next) × ShakesNext rest s old new

-- Of halves that took their turns, these did and those are to come.
pub record HaveShaken (turned : List Shaken) (rest : List IncomingNow) (old new : DoorNow) : Type 0 where
  pub each : AllByRecursion HasShaken turned
  pub stood : old.halves ≡ map (λ (s : Shaken). s.before) turned ++ rest
  pub halves : new.halves ≡ rest ++ flat_map (λ (s : Shaken). stays_by s.turn s.behind) turned
  pub asked : ComeAsked (flat_map (λ (s : Shaken). asked_by s.turn s.behind) turned) old.asked new.asked
  pub over : new.over ≡ old.over ++ flat_map (λ (s : Shaken). over_by s.turn s.behind) turned
  pub ways : new.ways ≡ old.ways
  pub busy : new.busy ≡ old.busy || list_any (λ (s : Shaken). is_busy s.turn) turned

-- ---- handing over

-- A socket went by the way at this place, which is that to its home; or by no way, since each refuses it.
pub record GoesBy (place : ℕ) (h : OnItsWay) (old new : List WayNow) : Type 0 where
  pub before : WayNow
  pub there : slice_get old place ≡ Some before
  pub home : IsAtHomeIn before.home h
  pub put : new ≡ slice_set old place (with_put h before)

abbrev pub Hands : Option OnItsWay → OnItsWay → (old new : List WayNow) → Type 0
Hands None h old new = (place : ℕ) × GoesBy place h old new
Hands (Some left) h old new = (left ≡ h) × (new ≡ old) × AllByRecursion (Refuses h) old

-- The asked socket that comes next goes by a way; or it is the last one then, since each way refuses it.
pub record HandsNext (next : OnItsWay) (rest : List OnItsWay) (old new : DoorNow) : Type 0 where
  pub left : Option OnItsWay
  pub hands : Hands left next old.ways new.ways
  pub asked : new.asked ≡ rest ++ option_to_list left

-- so does the first one of a door, where there is one
abbrev pub HandsFirst : DoorNow → DoorNow → Type 0
HandsFirst old new = (next : OnItsWay) (rest : List OnItsWay) → old.asked ≡ next ∷ rest → HandsNext next rest old new

-- Asked sockets are handed over: each went by the way to its home, or stays; those of each way, and those that stay, are in the order in
-- which they were. Those that stay each way has refused at a moment meanwhile.
pub record HandsAll (old new : DoorNow) : Type 0 where
  pub halves : new.halves ≡ old.halves
  pub over : new.over ≡ old.over
  pub busy : new.busy ≡ old.busy
  pub put : List (List OnItsWay)
  pub ways : EachHasPut put old.ways new.ways
  pub all : IsMerge OnItsWay (new.asked ∷ put) old.asked
  pub refused : AllByRecursion (WasRefused old.ways new.ways) new.asked

-- Each half that stood has taken its turn, and is where that led; and those that were asked, by then, are handed over.
pub record ShakesAll (old new : DoorNow) : Type 0 where
  pub turned : List Shaken
  pub mid : DoorNow
  pub shaken : HaveShaken turned [] old mid
  pub hands : HandsAll mid new

-- ---- at the port

-- what no accept changes; sockets may have been made besides
pub record StaysThere (old new : SeenPort) : Type 0 where
  pub more : List SocketId
  pub made : new.made ≡ old.made ++ more
  pub at : new.at ≡ old.at
  pub accepts : new.accepts ≡ old.accepts
  pub missed : new.missed ≡ old.missed
  pub cuts : new.cuts ≡ old.cuts

-- sockets were accepted, and no accept failed
pub record OnlyAccepts (old new : SeenPort) : Type 0 where
  pub stays : StaysThere old new
  pub refused : new.refused ≡ old.refused
  pub faults : new.faults ≡ old.faults

-- sockets were accepted, and then one accept failed
pub record FailsOnce (old new : SeenPort) : Type 0 where
  pub stays : StaysThere old new
  pub refused : new.refused ≡ next_count old.refused
  pub risen : HasRisen old.faults new.faults

-- by what it came to
abbrev pub LetsIn : DoorTurn → SeenPort → SeenPort → Type 0
LetsIn turn.Failed old new = FailsOnce old new
LetsIn _ old new = OnlyAccepts old new

-- One was accepted, or this is what it came to.
abbrev pub LetsOneIn : Option DoorTurn → SeenPort → SeenPort → Type 0
LetsOneIn None old new = OnlyAccepts old new
LetsOneIn (Some end) old new = LetsIn end old new

-- ---- how many

-- Where all went well, the last accept found none, or so many sockets were accepted as are in a turn.
abbrev pub LetsAllIn : DoorTurn → SeenPort → SeenPort → Type 0
LetsAllIn turn.Done old new = (new.quiet ≡ true) ⊎ (length new.made ≡ length old.made + MOST_ACCEPTS)
LetsAllIn _ old new = Unit {0}

-- Unless memory ran out each half that stood has taken its turn, and each socket that was asked goes on; and then sockets came. So it is
-- where an accept failed too.
abbrev pub Shakes : DoorTurn → DoorNow → DoorNow → Type 0
Shakes turn.NoMemory old new = Unit {0}
Shakes _ old new = (shaken : DoorNow) × ShakesAll (record old { busy = false }) shaken × HaveCome shaken new

-- Of so many milliseconds its thread waits so many: none where something is to be done at once, and few while an asked socket waits for room.
pub record WaitsAtDoor (d : DoorNow) (most wait : ℕ) : Type 0 where
  pub within : wait ≤ most
  pub at_once : d.busy ≡ true → wait ≡ 0
  pub few : d.asked ≢ [] → wait ≤ ROOM_WAIT

-- One was accepted, or the accept found none.
abbrev pub LetsTheNextIn : Option DoorTurn → SeenPort → SeenPort → Type 0
LetsTheNextIn None old new = length new.made ≡ length old.made + 1
LetsTheNextIn (Some turn.Done) old new = new.quiet ≡ true
LetsTheNextIn (Some _) old new = Unit {0}
