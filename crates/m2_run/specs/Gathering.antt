-- What a node that has ended gives back to the fabric. This project's own.
use Rattle.std.specs.Prelude.{◌≡◌, ℕ, Bool, true, false, List, ◌++◌, length, map, slice_get, Some, IfSome}
use Rattle.std.specs.List.{flat_map}
use Rattle.std.specs.Option.{option_to_list}
use Rattle.m2_dispatch.specs.declared.logged.Logged.{Logged}
use Rattle.m2_fabric.specs.End.{SeenEnd}
use Rattle.m2_fabric.specs.Fabric.{Gathered, Gathers, SeenFabric}
use Rattle.m2_fabric.specs.Port.{SeenPort}
use Rattle.m2_fabric.specs.declared.port.Cut.{Cut}
use Rattle.m2_fabric.specs.declared.socket.SocketId.{SocketId}
use Rattle.m2_handover.specs.End.{told_nothing}
use Rattle.m2_scenario.specs.declared.node.Node.{Node}
use Rattle.m2_trail.specs.Arrivals.{LooseNow}
use Rattle.m2_run.specs.Cuts.{AreEndsOver}
use Rattle.m2_run.specs.Kept.{ends_of_record}
use Rattle.m2_node.specs.Lists.{SideBySide, joined}
use Rattle.m2_run.specs.Rests.{EndedCenterNow, EndedNow}

-- the ends that are in these go last
pub record Opens (cuts : List Cut) (made : List SocketId) (ends old new : List SeenEnd) : Type 0 where
  pub behind : List SeenEnd
  pub split : new ≡ old ++ behind
  pub over : AreEndsOver cuts made ends behind

-- those inside the ends of these halves, which tell nothing of what will be readable, go last
pub record OpensHalves (halves : List LooseNow) (old new : List SeenEnd) : Type 0 where
  pub behind : List SeenEnd
  pub split : new ≡ old ++ behind
  pub are : map (λ (l : LooseNow). l.end) halves ≡ map told_nothing behind

-- what the centers of a node give: the ports and ends of the fabric, and what the dispatchers of fast kinds were called with
pub record GivenNow : Type 0 where
  pub ports : List SeenPort
  pub ends : List SeenEnd
  pub fast : List Logged

-- What these centers give goes last, center by center.
pub record Gives (cuts : List Cut) (centers : List EndedCenterNow) (old new : GivenNow) : Type 0 where
  pub ends_of_each : List (List SeenEnd)
  pub ports : new.ports ≡ old.ports ++ flat_map (λ (c : EndedCenterNow). option_to_list c.port) centers
  pub ends : new.ends ≡ old.ends ++ joined ends_of_each
  pub over : SideBySide (λ (c : EndedCenterNow) es. AreEndsOver cuts c.made (flat_map ends_of_record c.records) es) centers ends_of_each
  pub fast : new.fast ≡ old.fast ++ flat_map (λ (c : EndedCenterNow). c.fast) centers

-- The ports and ends of the node at place k are gathered, where it is on; else nothing changes.
abbrev pub GathersIf : (started : Bool) → (k : ℕ) → Gathered → (old new : SeenFabric) → Type 0
GathersIf true k what old new = Gathers k what old new
GathersIf false k what old new = new ≡ old

-- The node gives all back, where it is on: a port of each of its threads, and the ends in those of its records, which break where these cuts of
-- the sockets of each thread's port say, and in those of these halves.
pub record GivesBack (cuts : List Cut) (started : Bool) (k : ℕ) (n : EndedNow) (halves : List LooseNow) (old new : SeenFabric) : Type 0 where
  pub of_each : List (List SeenEnd)
  pub of_halves : List SeenEnd
  pub over : SideBySide (λ (c : EndedCenterNow) es. AreEndsOver cuts c.made (flat_map ends_of_record c.records) es) n.centers of_each
  pub halves_are : map (λ (l : LooseNow). l.end) halves ≡ map told_nothing of_halves
  pub whole : started ≡ true → length (flat_map (λ (c : EndedCenterNow). option_to_list c.port) n.centers) ≡ length n.centers
  pub gathers : GathersIf started k (record { ports = flat_map (λ (c : EndedCenterNow). option_to_list c.port) n.centers; ends = joined of_each ++ of_halves }) old new

-- of each of these nodes that is on, of which this is left, the ports that the fabric tells are those inside its threads' ports
abbrev pub ArePortsTold : List Node → List EndedNow → SeenFabric → Type 0
ArePortsTold nodes ends new = (k : ℕ) (x : Node) (e : EndedNow) → slice_get nodes k ≡ Some x → slice_get ends k ≡ Some e → x.started ≡ true →
    IfSome (new.gathered k) (λ (what : Gathered). what.ports ≡ flat_map (λ (c : EndedCenterNow). option_to_list c.port) e.centers)
