-- What contracts see of a node, and what a node in memory shows of its sockets. This project's own.
use Rattle.std.specs.Prelude.{◌≡◌, ◌==◌, ℕ, ◌&&◌, ◌||◌, not, if◌then◌else◌, Bool, true, false, List, [], ◌∷◌, ◌++◌, length, Option, Some, None, IsSome}
use Rattle.std.specs.List.{AllByRecursion, list_all}
use Rattle.std.specs.Option.{option_map}
use Rattle.m2_fabric.specs.declared.socket.SocketId.{SocketId}
use Rattle.m2_fabric.specs.End.{SeenEnd, fresh_end}
use Rattle.m2_fabric.specs.Kinds.{IsInMemory}
use Rattle.m2_fabric.specs.Log.{Log}
use Rattle.m2_fabric.specs.Port.{SeenPort, with_poll}
use Rattle.m2_fabric.specs.Sockets.{IsOfHome, goes_to, is_among, same_socket}
use Rattle.m2_dispatch.specs.Heard.{Heard}
use Rattle.m2_journal.specs.declared.facts.PlanStep.{PlanStep}
use Rattle.m2_center.specs.m2_record.IsRecord.{IsRecord}
use Rattle.m2_center.specs.m2_record.RecordNow.{ids_of}
use Rattle.m2_center.specs.m2_record.Sources.{end_at}
use Rattle.m2_dispatch.specs.m2_shared.Numbers.{SeenNumbers}
use Rattle.m2_dispatch.specs.m2_shared.Gates.{pass_places, places}
use Rattle.m2_dispatch.specs.m2_shared.declared.throttles.Throttles.{Throttles}
use Rattle.m2_center.specs.Center.{CenterNow, IsCenter}
use Rattle.m2_center.specs.CenterTurn.{Answer, TakesTurn, means_at}
use Rattle.m2_center.specs.Plans.{PlansIn}
use Rattle.m2_center.specs.Reaching.{all_ends_in, ends_in, rest_in, waiting_at}
use Rattle.m2_center.specs.m2_turn.Halves.{AreWhole}

-- its center, its counter of global numbers and its throttles
pub record NodeNow (D : Type 0) : Type 0 where
  pub center : CenterNow D
  pub numbers : SeenNumbers
  pub throttles : Throttles

-- the passes of its center are to what it shares
pub record IsNode {D : Type 0} (n : NodeNow D) : Type 0 where
  pub numbers : n.center.numbers.place ≡ n.numbers.place
  pub throttles : pass_places n.center.bytes ≡ places n.throttles

-- What a node in memory keeps: its center is one, each of its records is one, and the trail of each half tells all that its end
-- did; each socket that its port made comes from the port's address or goes to it; and its port and all its ends are in memory.
pub record IsWholeNode {D : Type 0} (n : NodeNow D) : Type 0 where
  pub node : IsNode n
  pub center : IsCenter n.center
  pub records : AllByRecursion IsRecord n.center.records
  pub halves : AreWhole n.center.halves
  pub home : AllByRecursion (IsOfHome n.center.port.at) n.center.port.made
  pub port : IsSome n.center.port.waiting
  pub memory : AllByRecursion IsInMemory (all_ends_in n.center)

-- ---- its ends

-- the first end of a socket, of those that it has and then of those that wait
abbrev pub end_in : {D : Type 0} → CenterNow D → SocketId → Option SeenEnd
end_in c id = end_at (all_ends_in c) id

-- it has an end of the socket that doesn't wait
abbrev pub has_in : {D : Type 0} → CenterNow D → SocketId → Bool
has_in c id = is_among id (ids_of (ends_in c))

-- an end of the socket waits for an accept, and it has no other
abbrev pub waits_in : {D : Type 0} → CenterNow D → SocketId → Bool
waits_in c id = is_among id (ids_of (waiting_at c.port)) && not (has_in c id)

-- those that wait at its port, the one that waits longest first
abbrev pub line_in : {D : Type 0} → CenterNow D → List SocketId
line_in c = ids_of (waiting_at c.port)

-- ---- how they change

-- ends of other sockets, and whether they wait, are as before
pub record KeepsOthers {D : Type 0} (id : SocketId) (old new : CenterNow D) : Type 0 where
  pub ends : (k : SocketId) → same_socket id k ≡ false → end_in new k ≡ end_in old k
  pub waits : (k : SocketId) → same_socket id k ≡ false → waits_in new k ≡ waits_in old k

-- it listens where it did, and its port made the same sockets
pub record KeepsPort {D : Type 0} (old new : CenterNow D) : Type 0 where
  pub at : new.port.at ≡ old.port.at
  pub made : new.port.made ≡ old.port.made

-- the socket goes there, and the port neither made it nor has it waiting
abbrev pub may_come_in : {D : Type 0} → SocketId → CenterNow D → Bool
may_come_in id c = goes_to c.port.at id && (not (is_among id c.port.made) && not (waits_in c id))

-- they stand in line as before, and behind them a socket that comes, where it goes there and the port neither made it nor has it in line
abbrev pub line_after : {D : Type 0} → SocketId → CenterNow D → List SocketId
line_after id c = if goes_to c.port.at id && (not (is_among id c.port.made) && not (is_among id (line_in c))) then line_in c ++ id ∷ [] else line_in c

-- the end of a socket is this, and waits or not
pub record Shows {D : Type 0} (id : SocketId) (what : Option SeenEnd) (waiting : Bool) (c : CenterNow D) : Type 0 where
  pub shows : end_in c id ≡ what
  pub waits : waits_in c id ≡ waiting

-- a socket comes: where it may, a fresh end of it waits
pub record ComesIn {D : Type 0} (id : SocketId) (old new : CenterNow D) : Type 0 where
  pub comes : may_come_in id old ≡ true → Shows id (Some (fresh_end id)) true new
  pub refused : may_come_in id old ≡ false → Shows id (end_in old id) (waits_in old id) new
  pub line : line_in new ≡ line_after id old
  pub others : KeepsOthers id old new
  pub port : KeepsPort old new

-- the end of a socket is told something, whether it waits or not
pub record HearsIn {D : Type 0} (id : SocketId) (hears : SeenEnd → SeenEnd) (old new : CenterNow D) : Type 0 where
  pub there : Shows id (option_map hears (end_in old id)) (waits_in old id) new
  pub line : line_in new ≡ line_in old
  pub others : KeepsOthers id old new
  pub port : KeepsPort old new

-- ---- the rest

-- an end did nothing yet
abbrev pub is_unused : Log → Bool
is_unused l = (length l.got == 0) && ((length l.put == 0) && ((length l.runs == 0) && not (l.closed || (l.dry || (l.blocked || l.ended)))))

-- and its socket goes to the port, which didn't make it
abbrev pub is_to_come : SeenPort → SeenEnd → Bool
is_to_come p e = goes_to p.at e.id && (not (is_among e.id p.made) && is_unused e.log)

-- no two of them are the same
abbrev pub are_apart : List SocketId → Bool
are_apart [] = true
are_apart (k ∷ ks) = not (is_among k ks) && are_apart ks

-- so are all that wait at a port in memory, each of a socket of its own
abbrev pub all_to_come : SeenPort → Option (List SeenEnd) → Bool
all_to_come p (Some es) = list_all (is_to_come p) es && are_apart (ids_of es)
all_to_come p None = false

-- of those that wait only whether all are to come
abbrev pub rest_at : SeenPort → SeenPort
rest_at p = record p { waiting = if all_to_come p p.waiting then Some [] else None }

-- the node, without what its ends were told, and without those that wait at its port but for whether all are to come
abbrev pub rest_of_node : {D : Type 0} → NodeNow D → NodeNow D
rest_of_node n = record n { center = record (rest_in n.center) { port = rest_at n.center.port } }

-- what it shares is the same
pub record KeepsShared {D : Type 0} (old new : NodeNow D) : Type 0 where
  pub numbers : new.numbers ≡ old.numbers
  pub throttles : new.throttles ≡ old.throttles

-- ---- a turn, and a step that is planned

-- its center takes a turn; what it shares is the same
pub record NodeTurns {D : Type 0} (E : Type 0) (heard : D → List Heard) (now : ℕ) (answer : Answer) (old new : NodeNow D) : Type 0 where
  pub turns : TakesTurn E heard (means_at now old.numbers old.throttles) answer old.center new.center
  pub shared : KeepsShared old new

-- its center's first record towards the peer plans the step and takes it; what it shares is the same
pub record NodePlans {D : Type 0} (answer : Answer) (peer : ℕ) (step : PlanStep) (now : ℕ) (old new : NodeNow D) : Type 0 where
  pub plans : PlansIn answer peer step now old.throttles old.center new.center
  pub shared : KeepsShared old new

-- its port has waited for something to do, which may have failed
abbrev pub Polls : {D : Type 0} → NodeNow D → NodeNow D → Type 0
Polls old new = new ≡ record old { center = record old.center { port = with_poll new.center.port.faults old.center.port } }
