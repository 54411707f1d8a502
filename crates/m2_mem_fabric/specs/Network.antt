-- What a connect and an accept of a network give, and what they change of what a port tells.
use Rattle.std.specs.Prelude.{◌≡◌, ℕ, true, List, [], ◌∷◌, ◌++◌, map}
use Rattle.m2_addr.specs.declared.addr.Addr.{Addr}
use Rattle.m2_fabric.specs.Port.{SeenPort}
use Rattle.m2_fabric.specs.Sockets.{goes_to, same_socket}
use Rattle.m2_fabric.specs.declared.socket.SocketId.{SocketId}
use Rattle.m2_ports.specs.Port.{MakesNext}
use Rattle.m2_mem_fabric.specs.declared.bells.TheConstants.{RING}
use Rattle.m2_mem_fabric.specs.declared.network.Arriving.{Arriving}
use Rattle.m2_mem_fabric.specs.declared.network.Opening.{Opening}
use Rattle.m2_mem_fabric.specs.declared.network.Opening.TheVariants as opening
use Rattle.m2_mem_fabric.specs.declared.network.Taking.{Taking}
use Rattle.m2_mem_fabric.specs.declared.network.Taking.TheVariants as taking

-- A connect to an address: the socket goes there, and is the next one of its four numbers that the port made.
abbrev pub Opens : Opening → Addr → SeenPort → SeenPort → Type 0
Opens (opening.Opened id plan) to old new = (goes_to to id ≡ true) × MakesNext id old new
Opens _ to old new = new ≡ old

-- A socket that is opened wakes whoever listens.
abbrev pub Rings : Opening → List ℕ → List ℕ → Type 0
Rings (opening.Opened id plan) old new = new ≡ old ++ RING ∷ []
Rings _ old new = new ≡ old

-- the sockets that wait, by their names
abbrev pub names : {R : Type 0} → List (Arriving R) → List SocketId
names {R = R} waiting = map (λ (a : Arriving R). a.id) waiting

-- A socket that waited is let in under the name under which it waited.
abbrev pub IsNamed : {R : Type 0} → Taking R → SocketId → Type 0
IsNamed (taking.Taken id line) waited = same_socket id waited ≡ true
IsNamed _ waited = Unit {0}

-- A socket that waited is let in: it goes to the port's own address, and is the next one of its four numbers there.
abbrev pub Admits : {R : Type 0} → Taking R → SeenPort → SeenPort → Type 0
Admits (taking.Taken id line) old new = (goes_to old.at id ≡ true) × MakesNext id old new
Admits taking.Nobody old new = ⊥
Admits taking.Refused old new = new ≡ old

-- An accept: only of a port that accepts.
abbrev pub Takes : {R : Type 0} → Taking R → SeenPort → SeenPort → Type 0
Takes (taking.Taken id line) old new = (old.accepts ≡ true) × (goes_to old.at id ≡ true) × MakesNext id old new
Takes _ old new = new ≡ old
