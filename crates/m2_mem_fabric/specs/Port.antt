-- The sockets that a port over sockets between threads makes.
use Rattle.std.specs.Prelude.{◌≡◌}
use Rattle.m2_fabric.specs.Port.{SeenPort}
use Rattle.m2_fabric.specs.declared.port.Connect.{Connect}
use Rattle.m2_fabric.specs.declared.port.Connect.TheVariants as connect
use Rattle.m2_fabric.specs.declared.port.Taken.{Taken}
use Rattle.m2_fabric.specs.declared.port.Taken.TheVariants as accept
use Rattle.m2_ports.specs.Made.{four_of, next_socket}
use Rattle.m2_mem_fabric.specs.End.{MemSeen}

-- A socket that is made is the next one of its four numbers: its turn is one above the count of those before.
abbrev pub ConnectsNext : Connect MemSeen → SeenPort → Type 0
ConnectsNext (connect.Made e) old = e.shows.id ≡ next_socket (four_of e.shows.id) old.made
ConnectsNext _ old = Unit {0}

abbrev pub AcceptsNext : Taken MemSeen → SeenPort → Type 0
AcceptsNext (accept.Made e) old = e.shows.id ≡ next_socket (four_of e.shows.id) old.made
AcceptsNext _ old = Unit {0}
