-- What contracts see of the port of an event thread of a node that has several. This project's own.
use Rattle.std.specs.Prelude.{◌≡◌, ◌⊎◌, ℕ, ◌+◌, ◌≤◌, Bool, true, List, [], ◌++◌, map, sum_by, Option, Some, None, IfSome}
use Rattle.std.specs.List.{AllByRecursion}
use Rattle.std.specs.Option.{option_to_list}
use Rattle.m2_fabric.specs.End.{SeenEnd}
use Rattle.m2_fabric.specs.Log.{nothing_done}
use Rattle.m2_fabric.specs.Port.{Accepts, SeenPort}
use Rattle.m2_fabric.specs.Sockets.{goes_to, is_among}
use Rattle.m2_fabric.specs.declared.port.Taken.{Taken}
use Rattle.m2_fabric.specs.declared.port.Taken.TheVariants as accept
use Rattle.m2_fabric.specs.declared.socket.SocketId.{SocketId}
use Rattle.m2_handover.specs.Door.{DoorNow, LetsAllIn, Shakes, WaitsAtDoor, asked_in, unasked_in, weight_of, weight_on_way, weight_put, weight_through}
use Rattle.m2_handover.specs.End.{told_nothing}
use Rattle.m2_handover.specs.Handed.{OnItsWay, left_behind}
use Rattle.m2_handover.specs.Way.{WayNow}
use Rattle.m2_handover.specs.declared.door.DoorTurn.{DoorTurn}
use Rattle.m2_handover.specs.declared.door.DoorTurn.TheVariants as turn
use Rattle.m2_mailbox.specs.Passes.{next_look}
use Rattle.m2_trail.specs.Arrivals.{LooseNow}

-- The port inside; the sockets that this one made, in order, and for how many more there is room; whether its last accept found none;
-- what was taken out of its inbox, in order, and how often something was looked for there; the last of that, where it wasn't
-- accepted yet; whether one was accepted since the last poll; and the node's door, where it has it.
pub record HomeNow : Type 0 where
  pub inner : SeenPort
  pub made : List SocketId
  pub room : ℕ
  pub quiet : Bool
  pub taken : List OnItsWay
  pub looks : ℕ
  pub next : Option OnItsWay
  pub fresh : Bool
  pub door : Option DoorNow

-- What every port shows, of this one: it accepts what is handed over, whether or not the port inside accepts; it tells
-- nothing of what waits, and has no cuts.
abbrev pub shown : HomeNow → SeenPort
shown h = record h.inner { accepts = true; made = h.made; quiet = h.quiet; cuts = []; waiting = None }

-- an end that begins anew
abbrev pub begun_again : SeenEnd → SeenEnd
begun_again e = record (told_nothing e) { log = nothing_done }

-- ---- its calls

-- a socket that was handed over, as an accept gives it; none: every port shows the same
abbrev pub TakesOver : Option (Taken SeenEnd) → HomeNow → HomeNow → Type 0
TakesOver None old new = shown new ≡ shown old
TakesOver (Some taken) old new = Accepts taken (shown old) (shown new)

-- where this port has the node's door: what the door does
abbrev pub ShakesAtDoor : DoorTurn → (old new : Option DoorNow) → Type 0
ShakesAtDoor end (Some old) (Some new) = Shakes end old new
ShakesAtDoor end (Some old) None = ⊥
ShakesAtDoor end None new = Unit {0}

-- Where an accept finds none, something was looked for in the inbox, before the door took its turn and again after it, and nothing that was
-- taken out of it waits to be accepted; and where this port has the node's door, all halves at the door have taken their turns, each
-- socket that was asked and is at the door still was refused by each way, and all that waited at the port inside were let in. Where an
-- accept fails the halves at the door have taken their turns too.
abbrev pub HasTakenAll : {E : Type 0} → Taken E → HomeNow → HomeNow → Type 0
HasTakenAll accept.NotYet old new = (new.next ≡ None) × (new.looks ≡ next_look (next_look old.looks)) × IfSome old.door (λ d. LetsAllIn turn.Done old.inner new.inner) × ShakesAtDoor turn.Done old.door new.door
HasTakenAll accept.Failed old new = ShakesAtDoor turn.Failed old.door new.door
HasTakenAll _ old new = Unit {0}

-- an accept that gives a socket, or finds no memory
abbrev pub GivesOrLacks : {E : Type 0} → Taken E → Type 0
GivesOrLacks (accept.Made e) = Unit {0}
GivesOrLacks accept.NoMemory = Unit {0}
GivesOrLacks _ = ⊥

-- a socket that was accepted is to be read again at once
abbrev pub fresh_behind : {E : Type 0} → Taken E → Bool → Bool
fresh_behind (accept.Made e) fresh = true
fresh_behind _ fresh = fresh

abbrev pub fresh_if_taken : {E : Type 0} → Option (Taken E) → Bool → Bool
fresh_if_taken None fresh = fresh
fresh_if_taken (Some taken) fresh = fresh_behind taken fresh

-- Of so many milliseconds it waits so many: none where a socket was accepted since the last poll, and where one is there to be accepted; and no
-- longer than its door lets it.
pub record WaitsHere (old new : HomeNow) (most wait : ℕ) : Type 0 where
  pub within : wait ≤ most
  pub accepted : old.fresh ≡ true → wait ≡ 0
  pub taken : IfSome new.next (λ h. wait ≡ 0)
  pub door : IfSome new.door (λ d. WaitsAtDoor d most wait)

-- the port inside and the door stay
pub record IsSameInside (old new : HomeNow) : Type 0 where
  pub inner : new.inner ≡ old.inner
  pub door : new.door ≡ old.door

-- only the port inside and the door change
pub record IsSameButInner (old new : HomeNow) : Type 0 where
  pub made : new.made ≡ old.made
  pub room : new.room ≡ old.room
  pub quiet : new.quiet ≡ old.quiet
  pub taken : new.taken ≡ old.taken
  pub looks : new.looks ≡ old.looks
  pub next : new.next ≡ old.next
  pub fresh : new.fresh ≡ old.fresh

-- ---- where its sockets are

abbrev pub weight_at_door : (SocketId → ℕ) → Option DoorNow → ℕ
weight_at_door weight None = 0
weight_at_door weight (Some d) = weight_through weight d

abbrev pub weight_next : (SocketId → ℕ) → Option OnItsWay → ℕ
weight_next weight None = 0
weight_next weight (Some h) = weight_on_way weight h

-- However sockets are weighed: those that the port inside has made, and those that were taken out of the inbox, weigh what those weigh that
-- this port has made, the one that was taken and not accepted yet, those at its door, and those that its door has handed over. So each is in
-- one of these places, as often as it was made or taken.
abbrev pub IsBalanced : HomeNow → Type 0
IsBalanced h = (weight : SocketId → ℕ) → sum_by weight h.inner.made + sum_by (weight_on_way weight) h.taken
    ≡ sum_by weight h.made + weight_next weight h.next + weight_at_door weight h.door

-- each socket that it has made is one of the port inside, or goes to the node's own address
abbrev pub IsKnown : SeenPort → SocketId → Type 0
IsKnown inner socket = (is_among socket inner.made ≡ true) ⊎ (goes_to inner.at socket ≡ true)

-- what its type keeps
abbrev pub IsHome : HomeNow → Type 0
IsHome h = IsBalanced h × AllByRecursion (IsKnown h.inner) h.made

-- ---- its end

abbrev pub unasked_at_door : Option DoorNow → List LooseNow
unasked_at_door None = []
unasked_at_door (Some d) = unasked_in d

abbrev pub asked_at_door : Option DoorNow → List LooseNow
asked_at_door None = []
asked_at_door (Some d) = asked_in d

-- the halves that it has and that no thread of the node went on with: those at its door that weren't asked; and those that were, with the
-- one that was taken and not accepted yet
abbrev pub unasked_at : HomeNow → List LooseNow
unasked_at h = unasked_at_door h.door

abbrev pub asked_at : HomeNow → List LooseNow
asked_at h = asked_at_door h.door ++ map left_behind (option_to_list h.next)

-- the ways of its door
abbrev pub ways_at : Option DoorNow → List WayNow
ways_at None = []
ways_at (Some d) = d.ways

-- The same of a port that was taken apart: its sockets are among those that it has made, in halves that are left, or were handed over.
abbrev pub AreAllThere : HomeNow → List LooseNow → Type 0
AreAllThere h halves = (weight : SocketId → ℕ) → sum_by weight h.inner.made + sum_by (weight_on_way weight) h.taken
    ≡ sum_by weight h.made + sum_by (weight_of weight) halves + weight_put weight (ways_at h.door)
