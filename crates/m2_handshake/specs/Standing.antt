-- Where a half stands, and what contracts see of it.
use Rattle.std.specs.Prelude.{◌≡◌, ◌≤◌, ◌<◌, ◌+◌, ◌^◌, ℕ, Bool, true, false, List, [], ◌++◌, length, Option, Some, None}
use Rattle.m2_addr.specs.declared.addr.Addr.{Addr}
use Rattle.m2_bytes.specs.Blob.{Contents}
use Rattle.m2_frame.specs.declared.frame.Frame.{Frame}
use Rattle.m2_frame.specs.Frame.{Parts, parts}
use Rattle.m2_frame.specs.Position.{Position}
use Rattle.m2_policy.specs.declared.rules.AuthPayload.{AuthPayload}
use Rattle.m2_policy.specs.declared.rules.AuthPayload.TheVariants.{Empty}
use Rattle.m2_handshake.specs.declared.fault.HalfFault.{HalfFault}
use Rattle.m2_handshake.specs.declared.stage.HalfSide.{HalfSide}
use Rattle.m2_handshake.specs.declared.stage.HalfSide.TheVariants.{Opener, Acceptor}
use Rattle.m2_handshake.specs.declared.stage.Stage.{Stage}
use Rattle.m2_handshake.specs.declared.stage.Stage.TheVariants.{Opening, Banner, Waits, Authed, Ended, Faulty}

-- the side, what its AUTH_REQUEST carries where it opened, what its HELLO says, its stage, the address of its first
-- ask, a frame that is read and not answered yet, and the bytes that are unread
pub record Standing : Type 0 where
  pub side : HalfSide
  pub auth : AuthPayload
  pub entity : ℕ
  pub seen : Addr
  pub stage : Stage
  pub peer : Option Addr
  pub held : Option Parts
  pub rest : List ℕ

-- ---- where each side begins, by its entity and the address that it knows of the other, and an opener by what its
-- AUTH_REQUEST carries too

abbrev pub at_start : HalfSide → AuthPayload → ℕ → Addr → Standing
at_start side auth entity seen = record { side = side; auth = auth; entity = entity; seen = seen; stage = Opening; peer = None; held = None; rest = [] }

abbrev pub opener_at_start : AuthPayload → ℕ → Addr → Standing
opener_at_start = at_start Opener

abbrev pub acceptor_at_start : ℕ → Addr → Standing
acceptor_at_start = at_start Acceptor Empty

-- ---- more bytes, and a fault

-- more bytes come behind those that are unread
abbrev pub grown : List ℕ → Standing → Standing
grown more s = record s { rest = s.rest ++ more }

-- a half that has answered a fault keeps nothing more
abbrev pub fed_at : Stage → Standing → List ℕ → Standing
fed_at (Faulty f) s piece = s
fed_at _ s piece = grown piece s

abbrev pub fed : Standing → List ℕ → Standing
fed s piece = fed_at s.stage s piece

-- a half keeps its first fault, and lets go of all else that it read
abbrev pub fallen : HalfFault → Standing → Standing
fallen f s = record s { stage = Faulty f; held = None; rest = [] }

abbrev pub faulted_at : Stage → HalfFault → Standing → Standing
faulted_at (Faulty g) f s = s
faulted_at _ f s = fallen f s

abbrev pub faulted : HalfFault → Standing → Standing
faulted f s = faulted_at s.stage f s

-- ---- what contracts see of a half

-- where it stands; how many bytes it was fed; and how many more fit before memory is taken
pub record HalfState : Type 0 where
  pub standing : Standing
  pub count : ℕ
  pub room : ℕ

abbrev pub IsSameButRoom : HalfState → HalfState → Type 0
IsSameButRoom old new = new ≡ record old { room = new.room }

-- so many more bytes can be fed without want of memory
abbrev pub CanFeed : HalfState → ℕ → Type 0
CanFeed h more = (more ≤ h.room) × (h.count + more < 2 ^ 64)

-- a frame is read next: one of the authentication, an ask, or what is too much after the end; an opener that has signed
-- reads no more
abbrev pub awaits_at : Option Parts → Stage → HalfSide → Bool
awaits_at None (Waits awaited) side = true
awaits_at None Authed Acceptor = true
awaits_at None Ended Acceptor = true
awaits_at _ _ _ = false

abbrev pub awaits_frame : Standing → Bool
awaits_frame s = awaits_at s.held s.stage s.side

-- ---- how it is made of a half's fields

-- before the banner was read, bytes lie in front of the decoder
abbrev pub unread_of : Stage → Contents → Position → Position
unread_of Opening early decoder = record { place = 0; rest = early.bytes; granted = false; room = early.room }
unread_of Banner early decoder = record { place = 0; rest = early.bytes; granted = false; room = early.room }
unread_of _ early decoder = decoder

abbrev pub parts_held : Option Frame → Option Parts
parts_held (Some f) = Some (parts f)
parts_held None = None

-- a half's own facts: no size is ever granted, and all that lies unread was fed
pub record Holds (h : HalfState) (unread : Position) : Type 0 where
  pub ungranted : unread.granted ≡ false
  pub counted : unread.place + length unread.rest ≤ h.count
