-- What a half is asked keeps its bounds and is somebody's.
use Rattle.std.proofs.Common.{◌≡◌, ◌==◌, Bool, true, false, if◌then◌else◌, Option, Some, None, Result, Ok, Err, refl, sym, ◌∙◌, subst}
use Rattle.m2_addr.specs.declared.addr.Addr.{Addr}
use Rattle.m2_addr.specs.declared.fault.AddrFault.{AddrFault}
use Rattle.m2_addr.specs.Vector.{main_of}
use Rattle.m2_control.specs.declared.control.Control.{Control}
use Rattle.m2_control.specs.declared.control.Control.TheVariants as control
use Rattle.m2_control.specs.declared.fault.ControlFault.{ControlFault}
use Rattle.m2_control.specs.Control.{payload_of}
use Rattle.m2_control.specs.Laws.{IsInBounds}
use Rattle.m2_control.proofs.Raised.{main_stays, main_same}
use Rattle.m2_frame.specs.Frame.{Parts}
use Rattle.m2_handshake.specs.declared.ask.Ask.{Ask}
use Rattle.m2_handshake.specs.declared.ask.Ask.TheVariants.{Ident, Reconnect}
use Rattle.m2_handshake.specs.declared.fault.HalfFault.{HalfFault}
use Rattle.m2_handshake.specs.declared.fault.HalfFault.TheVariants as fault
use Rattle.m2_handshake.specs.declared.stage.Stage.{Stage}
use Rattle.m2_handshake.specs.declared.stage.Stage.TheVariants.{Opening, Banner, Waits, Authed, Asked, Ended, Faulty}
use Rattle.m2_handshake.specs.Asks.{bare_ask, is_known, known_main, under, asked, asked_of, ask_in}
use Rattle.m2_handshake.specs.Greeting.{control_of, addrs_of}
use Rattle.m2_handshake.specs.Moves.{Move, asks, take_frame, after_asking, read_held, refuse_held, ask_move_at, ask_move_of}
use Rattle.m2_handshake.specs.Reading.{Found, begun, refused, framed, found_in, of_payload}
use Rattle.m2_handshake.specs.Standing.{Standing}
use Rattle.m2_frame.specs.declared.tag.Tag.TheVariants as tag
use Rattle.m2_frame.specs.Tags.{tag_number}
use Rattle.m2_trail.specs.Asks.{IsMain}
use Rattle.m2_trail.proofs.Reading.{read_ident, read_reconnect}

-- ---- what a frame asks

-- its fields keep their bounds, and this is its main address
pub record IsRead (ask : Ask) (main : Addr) : Type 0 where
  pub bounds : IsInBounds (control_of ask)
  pub is_main : IsMain ask main

abbrev Reads : Result (Ask × Addr) HalfFault → Type 0
Reads (Ok x) = IsRead x.0 x.1
Reads (Err f) = Unit {0}

-- a main address that is known is the main address
known_is : (peer : Option Addr) (found : Result Addr AddrFault) (main : Addr) → known_main peer found ≡ Ok main → found ≡ Ok main
known_is peer (Ok a) main e = by_known (is_known peer a) e
  where
    by_known : (b : Bool) → (let r : Result Addr HalfFault = if b then Ok a else Err fault.UnknownPeer in r) ≡ Ok main → (let r : Result Addr AddrFault = Ok a in r) ≡ Ok main
    by_known true e = cc
    by_known false e = absurd cc
known_is peer (Err f) main e = absurd cc

under_reads : (ask : Ask) (found : Result Addr AddrFault) (known : Result Addr HalfFault) → IsInBounds (control_of ask) → found ≡ main_of (addrs_of ask) →
    ((main : Addr) → known ≡ Ok main → found ≡ Ok main) → Reads (under ask known)
under_reads ask found (Ok main) b s k = record { bounds = b; is_main = sym s ∙ k main refl }
under_reads ask found (Err f) b s k = tt

asked_reads : (peer : Option Addr) (c : Control) → IsInBounds c → Reads (asked peer c)
asked_reads peer (control.ClientIdent i) b = under_reads (Ident i) (main_of i.addrs) (known_main peer (main_of i.addrs)) b refl (known_is peer (main_of i.addrs))
asked_reads peer (control.SessionReconnect r) b = under_reads (Reconnect r) (main_of r.addrs) (known_main peer (main_of r.addrs)) b refl (known_is peer (main_of r.addrs))
asked_reads peer (control.Hello p) b = tt
asked_reads peer (control.AuthRequest p) b = tt
asked_reads peer (control.AuthBadMethod p) b = tt
asked_reads peer (control.AuthDone p) b = tt
asked_reads peer (control.AuthSignature p) b = tt
asked_reads peer (control.ServerIdent p) b = tt
asked_reads peer (control.IdentMissingFeatures p) b = tt
asked_reads peer (control.SessionReset p) b = tt
asked_reads peer (control.SessionRetry p) b = tt
asked_reads peer (control.SessionRetryGlobal p) b = tt
asked_reads peer (control.SessionReconnectOk p) b = tt
asked_reads peer (control.Wait p) b = tt
asked_reads peer (control.Keepalive p) b = tt
asked_reads peer (control.KeepaliveAck p) b = tt
asked_reads peer (control.Ack p) b = tt

payload_reads : (peer : Option Addr) (r : Result Control ControlFault) → ((c : Control) → r ≡ Ok c → IsInBounds c) → Reads (asked_of peer (of_payload r))
payload_reads peer (Ok c) h = asked_reads peer c (h c refl)
payload_reads peer (Err e) h = tt

by_tag : (b : Bool) (x y : Result (Ask × Addr) HalfFault) → Reads x → Reads y → Reads (if b then x else y)
by_tag true x y p q = p
by_tag false x y p q = q

frame_reads : (peer : Option Addr) (f : Parts) → Reads (ask_in peer f)
frame_reads peer f =
    by_tag (f.tag == tag_number tag.ClientIdent) _ _ (payload_reads peer (payload_of tag.ClientIdent f.first) (read_ident f.first))
    (by_tag (f.tag == tag_number tag.SessionReconnect) _ _ (payload_reads peer (payload_of tag.SessionReconnect f.first) (read_reconnect f.first)) tt)

-- ---- the move that asks

-- where it leads: the half owes the reply, and has nothing in hand
pub record Asks (ask : Ask) (new : Standing) : Type 0 where
  pub stage : new.stage ≡ Asked
  pub held : new.held ≡ None
  pub main : Addr
  pub read : IsRead ask main

abbrev pub AsksWell : Move → Type 0
AsksWell (asks ask new) = Asks ask new
AsksWell _ = Unit {0}

after_well : (s : Standing) (r : Result (Ask × Addr) HalfFault) → Reads r → AsksWell (after_asking s r)
after_well s (Ok x) h = record { stage = refl; held = refl; main = x.1; read = h }
after_well s (Err f) h = tt

pub take_well : (s : Standing) (found : Found) → AsksWell (take_frame s found)
take_well s begun = tt
take_well s (refused f) = tt
take_well s (framed f n) = tt

read_well : (s : Standing) (held : Option Parts) → AsksWell (read_held s held)
read_well s (Some f) = after_well s (ask_in s.peer f) (frame_reads s.peer f)
read_well s None = take_well s (found_in s.rest)

refuse_well : (s : Standing) (held : Option Parts) → AsksWell (refuse_held s held)
refuse_well s (Some f) = tt
refuse_well s None = take_well s (found_in s.rest)

pub move_well : (stage : Stage) (s : Standing) → AsksWell (ask_move_at stage s)
move_well Opening s = tt
move_well Banner s = tt
move_well (Waits awaited) s = tt
move_well Authed s = read_well s s.held
move_well Asked s = tt
move_well Ended s = refuse_well s s.held
move_well (Faulty f) s = tt

pub asks_well : (s new : Standing) (ask : Ask) → ask_move_of s ≡ asks ask new → Asks ask new
asks_well s new ask e = subst AsksWell e (move_well s.stage s)

-- ---- an ask, and where its parts lie in memory

pub bounds_stay : (ask : Ask) → IsInBounds (control_of (bare_ask ask)) → IsInBounds (control_of ask)
bounds_stay (Ident i) b = (sym (main_stays i.addrs) ∙ b.0, b.1, b.2)
bounds_stay (Reconnect r) b = (sym (main_stays r.addrs) ∙ b.0, b.1, b.2, b.3, b.4, b.5)

pub main_stays_of : (ask : Ask) (main : Addr) → IsMain (bare_ask ask) main → IsMain ask main
main_stays_of (Ident i) main m = sym (main_same i.addrs) ∙ m
main_stays_of (Reconnect r) main m = sym (main_same r.addrs) ∙ m
