-- The sockets that a port over sockets of the system makes.
use Rattle.std.specs.Prelude.{◌≡◌}
use Rattle.m2_fabric.specs.Port.{SeenPort}
use Rattle.m2_fabric.specs.declared.port.Connect.{Connect}
use Rattle.m2_fabric.specs.declared.port.Connect.TheVariants as connect
use Rattle.m2_fabric.specs.declared.port.Taken.{Taken}
use Rattle.m2_fabric.specs.declared.port.Taken.TheVariants as accept
use Rattle.m2_ports.specs.Made.{Four, four_of, next_socket}
use Rattle.m2_ports.specs.Port.{MakesNext}
use Rattle.m2_mio.specs.End.{MioSeen, fresh_mio_end}

-- An end of the next socket of these four numbers, which the port makes.
pub record EntersNext (e : MioSeen) (four : Four) (old new : SeenPort) : Type 0 where
  pub fresh : e.shows ≡ fresh_mio_end (next_socket four old.made)
  pub made : MakesNext e.shows.id old new

-- A socket that is made is the next one of its four numbers: its turn is one above the count of those before.
abbrev pub ConnectsNext : Connect MioSeen → SeenPort → Type 0
ConnectsNext (connect.Made e) old = e.shows.id ≡ next_socket (four_of e.shows.id) old.made
ConnectsNext _ old = Unit {0}

abbrev pub AcceptsNext : Taken MioSeen → SeenPort → Type 0
AcceptsNext (accept.Made e) old = e.shows.id ≡ next_socket (four_of e.shows.id) old.made
AcceptsNext _ old = Unit {0}
