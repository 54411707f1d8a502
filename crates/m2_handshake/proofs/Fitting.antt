-- A fault is of what was read.
use Rattle.std.proofs.Common.{◌≡◌, ℕ, ◌==◌, List, drop, Option, Some, None, Result, Ok, Err, refl, subst}
use Rattle.m2_addr.specs.declared.addr.Addr.{Addr}
use Rattle.m2_addr.specs.declared.fault.AddrFault.{AddrFault}
use Rattle.m2_addr.specs.Vector.{main_of}
use Rattle.m2_control.specs.declared.banner.BannerStep.{BannerStep}
use Rattle.m2_control.specs.declared.banner.BannerStep.TheVariants.{Got, NotYet, BadBanner}
use Rattle.m2_control.specs.declared.control.Control.{Control}
use Rattle.m2_control.specs.declared.control.Control.TheVariants as control
use Rattle.m2_control.specs.declared.fault.ControlFault.{ControlFault}
use Rattle.m2_frame.specs.declared.tag.Tag.TheVariants as tag
use Rattle.m2_frame.specs.Tags.{tag_number}
use Rattle.m2_frame.specs.Frame.{Parts}
use Rattle.m2_frame.specs.Reading.{whole, dropped, Front, start, bad, text, judge, size_of}
use Rattle.m2_policy.specs.declared.rules.AuthPayload.{AuthPayload}
use Rattle.m2_handshake.specs.declared.ask.Ask.{Ask}
use Rattle.m2_handshake.specs.declared.ask.Ask.TheVariants.{Ident, Reconnect}
use Rattle.m2_handshake.specs.declared.fault.HalfFault.{HalfFault}
use Rattle.m2_handshake.specs.declared.fault.HalfFault.TheVariants as fault
use Rattle.m2_handshake.specs.declared.stage.Awaited.{Awaited}
use Rattle.m2_handshake.specs.declared.stage.Awaited.TheVariants.{Hello, Request, Done, Signature}
use Rattle.m2_handshake.specs.declared.stage.HalfSide.{HalfSide}
use Rattle.m2_handshake.specs.declared.stage.HalfSide.TheVariants.{Opener, Acceptor}
use Rattle.m2_handshake.specs.declared.stage.Stage.{Stage}
use Rattle.m2_handshake.specs.declared.stage.Stage.TheVariants.{Opening, Banner, Waits, Authed, Asked, Ended, Faulty}
use Rattle.m2_handshake.specs.declared.texts.TheConstants.{CRC}
use Rattle.m2_handshake.specs.Asks.{is_known, known_main, under, asked, asked_of, ask_in}
use Rattle.m2_control.specs.Banner.{banner_in}
use Rattle.m2_handshake.specs.Laws.{IsOfBytes, KeepsOfBytes}
use Rattle.m2_handshake.specs.Moves.{Move, stays, quiet, writes, signs, asks, fails, is_agreed, after_banner, take_frame, after_reaction, answer_held, after_asking, read_held, refuse_held, ask_move_at, ask_move_of, move_at, move_of}
use Rattle.m2_handshake.specs.Reading.{Found, begun, refused, framed, found_by, found_in, of_payload, payload_in}
use Rattle.m2_handshake.specs.Standing.{Standing}
use Rattle.m2_handshake.specs.Steps.{Reaction, says, listens, signed, refuses, is_served, is_unsigned, after, after_payload, after_frame, awaited_tag, unawaited}
use Rattle.m2_handshake.specs.Texts.{frame_text, hello}
use Rattle.m2_handshake.proofs.Leading.{either}
use Rattle.m2_handshake.proofs.Payloads.{Fails, OfAddress, OfPayload, main_reads, hello_payload, request_payload, done_payload, signature_payload, ident_payload, reconnect_payload}

-- where a move leads no fault is kept that isn't, and a fault is of what was read
abbrev pub Fits : Standing → Move → Type 0
Fits a stays = Unit {0}
Fits a (quiet b) = KeepsOfBytes b.stage
Fits a (writes words b) = KeepsOfBytes b.stage
Fits a (signs b) = KeepsOfBytes b.stage
Fits a (asks ask b) = KeepsOfBytes b.stage
Fits a (fails f) = IsOfBytes f

-- ---- refusals

abbrev pub IsFair : Reaction → Type 0
IsFair (refuses f) = IsOfBytes f
IsFair _ = Unit {0}

after_fair : (auth : AuthPayload) (side : HalfSide) (awaited : Awaited) (c : Control) → IsFair (after auth side awaited c)
after_fair auth Opener Hello (control.Hello p) = tt
after_fair auth Acceptor Hello (control.Hello p) = tt
after_fair auth side Request (control.AuthRequest r) = either IsFair (is_served r) _ _ tt tt
after_fair auth side Done (control.AuthDone d) = either IsFair (d.mode == CRC) _ _ tt tt
after_fair auth side Signature (control.AuthSignature s) = either IsFair (is_unsigned s.signature.bytes) _ _ tt tt
after_fair auth side awaited c = tt

raised_fair : (read : Result Control ControlFault) → Fails OfPayload read → Fails IsOfBytes (of_payload read)
raised_fair (Ok c) h = tt
raised_fair (Err e) h = h

payload_fair : (auth : AuthPayload) (side : HalfSide) (awaited : Awaited) (read : Result Control HalfFault) → Fails IsOfBytes read → IsFair (after_payload auth side awaited read)
payload_fair auth side awaited (Ok c) h = after_fair auth side awaited c
payload_fair auth side awaited (Err e) h = h

awaited_payload : (awaited : Awaited) (bytes : List ℕ) → Fails IsOfBytes (payload_in (awaited_tag awaited) bytes)
awaited_payload Hello bytes = raised_fair _ (hello_payload bytes)
awaited_payload Request bytes = raised_fair _ (request_payload bytes)
awaited_payload Done bytes = raised_fair _ (done_payload bytes)
awaited_payload Signature bytes = raised_fair _ (signature_payload bytes)

unawaited_fair : (awaited : Awaited) (t : ℕ) → IsOfBytes (unawaited awaited t)
unawaited_fair Hello t = tt
unawaited_fair Request t = tt
unawaited_fair Done t = either IsOfBytes (t == tag_number tag.AuthBadMethod) _ _ tt tt
unawaited_fair Signature t = tt

frame_fair : (auth : AuthPayload) (side : HalfSide) (awaited : Awaited) (f : Parts) → IsFair (after_frame auth side awaited f)
frame_fair auth side awaited f = either IsFair (f.tag == tag_number (awaited_tag awaited)) _ _
    (payload_fair auth side awaited (payload_in (awaited_tag awaited) f.first) (awaited_payload awaited f.first))
    (unawaited_fair awaited f.tag)

known_fair : (peer : Option Addr) (main : Result Addr AddrFault) → Fails OfAddress main → Fails IsOfBytes (known_main peer main)
known_fair peer (Ok main) h = either (Fails IsOfBytes) (is_known peer main) (Ok main) (Err fault.UnknownPeer) tt tt
known_fair peer (Err e) h = h

under_fair : (ask : Ask) (main : Result Addr HalfFault) → Fails IsOfBytes main → Fails IsOfBytes (under ask main)
under_fair ask (Ok main) h = tt
under_fair ask (Err f) h = h

asked_fair : (peer : Option Addr) (c : Control) → Fails IsOfBytes (asked peer c)
asked_fair peer (control.ClientIdent i) = under_fair (Ident i) (known_main peer (main_of i.addrs)) (known_fair peer (main_of i.addrs) (main_reads i.addrs))
asked_fair peer (control.SessionReconnect r) = under_fair (Reconnect r) (known_main peer (main_of r.addrs)) (known_fair peer (main_of r.addrs) (main_reads r.addrs))
asked_fair peer c = tt

asked_of_fair : (peer : Option Addr) (read : Result Control HalfFault) → Fails IsOfBytes read → Fails IsOfBytes (asked_of peer read)
asked_of_fair peer (Ok c) h = asked_fair peer c
asked_of_fair peer (Err e) h = h

ask_in_fair : (peer : Option Addr) (f : Parts) → Fails IsOfBytes (ask_in peer f)
ask_in_fair peer f = either (Fails IsOfBytes) (f.tag == tag_number tag.ClientIdent) _ _
    (asked_of_fair peer (payload_in tag.ClientIdent f.first) (raised_fair _ (ident_payload f.first)))
    (either (Fails IsOfBytes) (f.tag == tag_number tag.SessionReconnect) _ _
    (asked_of_fair peer (payload_in tag.SessionReconnect f.first) (raised_fair _ (reconnect_payload f.first))) tt)

-- ---- moves

abbrev FindsFair : Found → Type 0
FindsFair (refused f) = IsOfBytes f
FindsFair _ = Unit {0}

found_fair : (size : Option ℕ) (front : Front) → FindsFair (found_by size front)
found_fair (Some n) front = tt
found_fair None start = tt
found_fair None (bad f) = tt
found_fair None (text (dropped tag) n) = tt
found_fair None (text (whole f) n) = tt

found_fits : (s : Standing) (found : Found) → FindsFair found → KeepsOfBytes s.stage → Fits s (take_frame s found)
found_fits s begun h c = tt
found_fits s (refused f) h c = h
found_fits s (framed f n) h c = c

take_fits : (s : Standing) → KeepsOfBytes s.stage → Fits s (take_frame s (found_in s.rest))
take_fits s c = found_fits s (found_in s.rest) (found_fair (size_of s.rest) (judge s.rest)) c

banner_fits : (s : Standing) (b : BannerStep) → Fits s (after_banner s b)
banner_fits s (Got b used) = either (Fits s) (is_agreed b)
    (writes (frame_text (hello s.entity s.seen)) (record s { stage = Waits Hello; rest = drop used s.rest })) (fails fault.BannerFeatures) tt tt
banner_fits s NotYet = tt
banner_fits s BadBanner = tt

reaction_fits : (s : Standing) (r : Reaction) → IsFair r → Fits s (after_reaction s r)
reaction_fits s (says next words) h = tt
reaction_fits s (listens next) h = tt
reaction_fits s signed h = tt
reaction_fits s (refuses f) h = h

held_fits : (s : Standing) (awaited : Awaited) (held : Option Parts) → KeepsOfBytes s.stage → Fits s (answer_held s awaited held)
held_fits s awaited (Some f) k = reaction_fits s (after_frame s.auth s.side awaited f) (frame_fair s.auth s.side awaited f)
held_fits s awaited None k = take_fits s k

fits_at : (stage : Stage) (s : Standing) → s.stage ≡ stage → KeepsOfBytes s.stage → Fits s (move_at stage s)
fits_at Opening s q k = tt
fits_at Banner s q k = banner_fits s (banner_in s.rest)
fits_at (Waits awaited) s q k = held_fits s awaited s.held k
fits_at Authed s q k = k
fits_at Asked s q k = k
fits_at Ended s q k = k
fits_at (Faulty f) s q k = subst KeepsOfBytes q k

pub fits : (s : Standing) → KeepsOfBytes s.stage → Fits s (move_of s)
fits s k = fits_at s.stage s refl k

asking_fits : (s : Standing) (r : Result (Ask × Addr) HalfFault) → Fails IsOfBytes r → Fits s (after_asking s r)
asking_fits s (Ok (ask, main)) h = tt
asking_fits s (Err f) h = h

read_fits : (s : Standing) (held : Option Parts) → KeepsOfBytes s.stage → Fits s (read_held s held)
read_fits s (Some f) k = asking_fits s (ask_in s.peer f) (ask_in_fair s.peer f)
read_fits s None k = take_fits s k

refuse_fits : (s : Standing) (held : Option Parts) → KeepsOfBytes s.stage → Fits s (refuse_held s held)
refuse_fits s (Some f) k = tt
refuse_fits s None k = take_fits s k

ask_fits_at : (stage : Stage) (s : Standing) → s.stage ≡ stage → KeepsOfBytes s.stage → Fits s (ask_move_at stage s)
ask_fits_at Opening s q k = tt
ask_fits_at Banner s q k = tt
ask_fits_at (Waits awaited) s q k = tt
ask_fits_at Authed s q k = read_fits s s.held k
ask_fits_at Asked s q k = tt
ask_fits_at Ended s q k = refuse_fits s s.held k
ask_fits_at (Faulty f) s q k = subst KeepsOfBytes q k

pub ask_fits : (s : Standing) → KeepsOfBytes s.stage → Fits s (ask_move_of s)
ask_fits s k = ask_fits_at s.stage s refl k
