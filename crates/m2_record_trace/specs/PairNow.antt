-- What contracts see of a pair, and what its calls do. This project's own.
use Rattle.std.specs.Prelude.{◌≡◌, ℕ, List, [], ◌∷◌, ◌++◌, Option, Some, None}
use Rattle.m2_fabric.specs.declared.end.News.{News}
use Rattle.m2_fabric.specs.declared.socket.SocketId.{SocketId}
use Rattle.m2_fabric.specs.End.{fresh_end}
use Rattle.m2_record_trace.specs.declared.step.Connecting.{Connecting}
use Rattle.m2_record_trace.specs.declared.step.Connecting.TheVariants as connecting
use Rattle.m2_record_trace.specs.declared.which.Which.{Which}
use Rattle.m2_record_trace.specs.declared.which.Which.TheVariants.{First, Second}
use Rattle.m2_record_trace.specs.declared.wire.Wire.{Wire}
use Rattle.m2_record_trace.specs.Hearing.{side_hears}
use Rattle.m2_record_trace.specs.SideNow.{Accepts, IsSameButRoom, Opens, SideNow}

pub record PairNow : Type 0 where
  pub first : SideNow
  pub second : SideNow
  pub wires : List Wire

abbrev pub other : Which → Which
other First = Second
other Second = First

abbrev pub side_at : Which → PairNow → SideNow
side_at First p = p.first
side_at Second p = p.second

abbrev pub with_side : Which → SideNow → PairNow → PairNow
with_side First s p = record p { first = s }
with_side Second s p = record p { second = s }

-- nothing but this side has changed
abbrev pub OnlyAt : Which → PairNow → PairNow → Type 0
OnlyAt at old new = new ≡ with_side at (side_at at new) old

-- ---- sockets

-- a socket that this side opened, on which nothing has flowed
abbrev pub opened_wire : SocketId → Which → Wire
opened_wire socket opener = record { socket = socket; opener = opener; ahead = 0; back = 0 }

-- two sides and the sockets between them, as one of the two sees them
pub record Between : Type 0 where
  pub from : SideNow
  pub to : SideNow
  pub wires : List Wire

abbrev pub between : Which → PairNow → Between
between at p = record { from = side_at at p; to = side_at (other at) p; wires = p.wires }

-- its socket is the feed of the one and the last half of the other
pub record OpensBetween (socket : SocketId) (opener : Which) (old new : Between) : Type 0 where
  pub opens : Opens (fresh_end socket) old.from new.from
  pub accepts : Accepts (fresh_end socket) old.to new.to
  pub wires : new.wires ≡ old.wires ++ opened_wire socket opener ∷ []

-- Opened: that socket is. Else all is as before, but for room.
abbrev pub ConnectsAs : Connecting → Which → Between → Between → Type 0
ConnectsAs (connecting.Opened socket) opener old new = OpensBetween socket opener old new
ConnectsAs connecting.NotDue opener old new = new ≡ old
ConnectsAs connecting.NoMemory opener old new = IsSameButRoom old.from new.from × (new ≡ record old { from = new.from })

-- the end of a wire hears news; where there is no such wire, nobody does
abbrev pub hears_on : Option Wire → News → List ℕ → SideNow → SideNow
hears_on (Some w) news bytes s = side_hears w.socket news bytes s
hears_on None news bytes s = s

-- neither side has a half of its peer any more
abbrev pub without_halves : PairNow → PairNow
without_halves p = record p { first = record p.first { halves = []; loose = [] }; second = record p.second { halves = []; loose = [] } }
