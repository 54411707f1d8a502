-- What an acceptor is asked once both sides have signed: a CLIENT_IDENT or a SESSION_RECONNECT, each later one
-- under the main address of the first. That a later ask keeps its address is this project's profile.
use Rattle.std.specs.Prelude.{◌≡◌, ◌==◌, ◌&&◌, Bool, true, if◌then◌else◌, Option, Some, None, Result, Ok, Err}
use Rattle.m2_addr.specs.declared.addr.Addr.{Addr}
use Rattle.m2_addr.specs.declared.fault.AddrFault.{AddrFault}
use Rattle.m2_addr.specs.Vector.{main_of}
use Rattle.m2_control.specs.declared.control.Control.{Control}
use Rattle.m2_control.specs.declared.control.Control.TheVariants as control
use Rattle.m2_control.specs.declared.fault.ControlFault.TheVariants.{Address}
use Rattle.m2_frame.specs.declared.tag.Tag.TheVariants as tag
use Rattle.m2_control.specs.ClientIdent.{bare_client_ident}
use Rattle.m2_control.specs.SessionReconnect.{bare_session_reconnect}
use Rattle.m2_control.specs.Control.{tag_of}
use Rattle.m2_frame.specs.Tags.{tag_number}
use Rattle.m2_frame.specs.Frame.{Parts}
use Rattle.m2_handshake.specs.declared.ask.Ask.{Ask}
use Rattle.m2_handshake.specs.declared.ask.Ask.TheVariants.{Ident, Reconnect}
use Rattle.m2_handshake.specs.declared.fault.HalfFault.{HalfFault}
use Rattle.m2_handshake.specs.declared.fault.HalfFault.TheVariants as fault
use Rattle.m2_handshake.specs.declared.halt.Halt.{Halt}
use Rattle.m2_handshake.specs.declared.halt.Halt.TheVariants.{NotYet, Fault, NoMemory}
use Rattle.m2_handshake.specs.Reading.{payload_in}

-- an ask without where its parts lie in memory
abbrev pub bare_ask : Ask → Ask
bare_ask (Ident i) = Ident (bare_client_ident i)
bare_ask (Reconnect r) = Reconnect (bare_session_reconnect r)

abbrev pub same_addr : Addr → Addr → Bool
same_addr a b = (a.kind == b.kind) && (a.nonce == b.nonce) && (a.ip == b.ip) && (a.port == b.port)

-- the first ask comes from any address, a later one from that of the first
abbrev pub is_known : Option Addr → Addr → Bool
is_known None main = true
is_known (Some first) main = same_addr first main

-- the main address, where it is known
abbrev pub known_main : Option Addr → Result Addr AddrFault → Result Addr HalfFault
known_main peer (Ok main) = if is_known peer main then Ok main else Err fault.UnknownPeer
known_main peer (Err e) = Err (fault.Control (Address e))

-- an ask beside its main address
abbrev pub under : Ask → Result Addr HalfFault → Result (Ask × Addr) HalfFault
under ask (Ok main) = Ok (ask, main)
under ask (Err f) = Err f

abbrev pub asked : Option Addr → Control → Result (Ask × Addr) HalfFault
asked peer (control.ClientIdent i) = under (Ident i) (known_main peer (main_of i.addrs))
asked peer (control.SessionReconnect r) = under (Reconnect r) (known_main peer (main_of r.addrs))
asked peer c = Err (fault.Unexpected (tag_number (tag_of c)))

abbrev pub asked_of : Option Addr → Result Control HalfFault → Result (Ask × Addr) HalfFault
asked_of peer (Ok c) = asked peer c
asked_of peer (Err f) = Err f

-- a whole frame: its tag is looked at, then its payload is read
abbrev pub ask_in : Option Addr → Parts → Result (Ask × Addr) HalfFault
ask_in peer f =
    if f.tag == tag_number tag.ClientIdent then asked_of peer (payload_in tag.ClientIdent f.first)
    else if f.tag == tag_number tag.SessionReconnect then asked_of peer (payload_in tag.SessionReconnect f.first)
    else Err (fault.Unexpected f.tag)

-- it was read so, or memory ran out
abbrev pub GivesAsk : Result (Ask × Addr) Halt → Result (Ask × Addr) HalfFault → Type 0
GivesAsk (Ok x) read = read ≡ Ok (bare_ask x.0, x.1)
GivesAsk (Err (Fault f)) read = read ≡ Err f
GivesAsk (Err NoMemory) read = Unit {0}
GivesAsk (Err NotYet) read = ⊥
