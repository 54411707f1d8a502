-- The frame of an ask is read whole, and under the address that stands in it, whatever its numbers are.
use Rattle.std.proofs.Common.{◌≡◌, ℕ, ◌≤◌, ◌<◌, ◌⊎◌, inl, inr, Bool, true, false, if◌then◌else◌, List, [], ◌∷◌, ◌++◌, length, Option, None, Result, Ok, Err, refl, arith}
use Rattle.std.specs.Prelude.{pos, ◌==◌}
use Rattle.std.specs.List.{All}
use Rattle.std.specs.Int.{w32, w64, to_le_bytes, cast_unsigned}
use Rattle.std.proofs.lemmas.Bool.{eq-eqb}
use Rattle.std.proofs.lemmas.List.Elements.{All-cons, All-append}
use Rattle.m2_fabric.specs.m2_addr.declared.addr.Addr.{Addr}
use Rattle.m2_fabric.specs.m2_addr.declared.addr.AnyAddr.{AnyAddr}
use Rattle.m2_fabric.specs.m2_addr.declared.addr.AnyAddr.TheVariants.{V4}
use Rattle.m2_fabric.specs.m2_addr.declared.addr.TheConstants.Addr.{MSGR2}
use Rattle.m2_fabric.specs.m2_addr.declared.fault.AddrFault.{AddrFault}
use Rattle.m2_fabric.specs.m2_addr.Addr.{ipv4_text, ipv4_at}
use Rattle.m2_fabric.specs.m2_addr.Reading.{◌>>=◌, ◌⊳◌, made}
use Rattle.m2_fabric.specs.m2_addr.Vector.{IsKept, main_of, vector_at, vector_text}
use Rattle.m2_fabric.proofs.m2_addr.Addresses.{ipv4_spelled, vector_exact, vector_spelled}
use Rattle.m2_weave.specs.m2_control.declared.control.Control.{Control}
use Rattle.m2_weave.specs.m2_control.declared.control.Control.TheVariants as control
use Rattle.m2_weave.specs.m2_control.declared.fault.ControlFault.{ControlFault}
use Rattle.m2_weave.specs.m2_control.declared.fault.ControlFault.TheVariants.{Extra}
use Rattle.m2_weave.specs.m2_control.ClientIdent.{make_client_ident}
use Rattle.m2_weave.specs.m2_control.Control.{whole}
use Rattle.m2_weave.specs.m2_control.Fields.{bounded_at, cookie_at, lifted, vector_field}
use Rattle.m2_weave.specs.m2_control.Ident.{tail_at}
use Rattle.m2_weave.specs.m2_control.SessionReconnect.{make_session_reconnect}
use Rattle.m2_dispatch.specs.m2_frame.Frame.{Parts, message_tag}
use Rattle.m2_dispatch.specs.m2_frame.Text as frame
use Rattle.m2_dispatch.specs.m2_frame.declared.tag.Tag.TheVariants as tag
use Rattle.m2_dispatch.specs.m2_frame.declared.tag.TheConstants.{FIRST_TAG, LAST_TAG}
use Rattle.m2_dispatch.specs.m2_frame.Tags.{tag_number}
use Rattle.m2_turn.specs.m2_handshake.declared.ask.Ask.{Ask}
use Rattle.m2_turn.specs.m2_handshake.declared.ask.Ask.TheVariants.{Ident, Reconnect}
use Rattle.m2_turn.specs.m2_handshake.declared.fault.HalfFault.{HalfFault}
use Rattle.m2_turn.specs.m2_handshake.declared.fault.HalfFault.TheVariants as fault
use Rattle.m2_turn.specs.m2_handshake.Asks.{is_known, known_main, under, asked, asked_of, ask_in}
use Rattle.m2_turn.specs.m2_handshake.Greeting.{addrs_of}
use Rattle.m2_turn.specs.m2_handshake.Reading.{of_payload, payload_in}
use Rattle.m2_turn.proofs.m2_handshake.Greeting.{no_bytes, address_bytes}
use Rattle.m2_weave.specs.m2_journal.Laws.{IsWritable}
use Rattle.m2_weave.specs.m2_journal.OutFrames as out
use Rattle.m2_weave.specs.m2_journal.OutFrames.{OutFrame, is_unnamed}
use Rattle.m2_weave.specs.m2_journal.SideFacts.{SideFacts}
use Rattle.m2_bytes_fit.specs.m2_never_reset.Frames.{is_ask}
use Rattle.m2_bytes_fit.specs.m2_trail.Asks.{IsMain}
use Rattle.m2_bytes_fit.specs.Halves.{KeepsRanges}
use Rattle.m2_bytes_fit.proofs.m2_trail.Reading.{Holds, mapped}
use Rattle.m2_bytes_fit.proofs.Says.{part}
use Rattle.m2_bytes_fit.proofs.Sent.{IsByte, ack_writable, eight_bytes, stamp_writable}
use Rattle.m2_fabric.proofs.m2_lemmas.Booleans.{from_false_true}
use Rattle.m2_fabric.proofs.m2_lemmas.Bytes.{four_bytes}

-- ---- whose ask a frame is

-- it is under this main address, and later ones under that of the first
abbrev pub IsUnder : Option Addr → Result (Ask × Addr) HalfFault → Type 0
IsUnder peer (Ok x) = IsMain x.0 x.1 × (is_known peer x.1 ≡ true)
IsUnder peer (Err f) = Unit {0}

under_so : (peer : Option Addr) (ask : Ask) (found : Result Addr AddrFault) → main_of (addrs_of ask) ≡ found → IsUnder peer (under ask (known_main peer found))
under_so peer ask (Ok main) e = at (is_known peer main) refl
  where
    at : (b : Bool) → is_known peer main ≡ b → IsUnder peer (under ask (if b then Ok main else Err fault.UnknownPeer))
    at true q = (e, q)
    at false q = tt
under_so peer ask (Err f) e = tt

asked_so : (peer : Option Addr) (c : Control) → IsUnder peer (asked peer c)
asked_so peer (control.ClientIdent i) = under_so peer (Ident i) (main_of i.addrs) refl
asked_so peer (control.SessionReconnect r) = under_so peer (Reconnect r) (main_of r.addrs) refl
asked_so peer c = tt

payload_so : (peer : Option Addr) (r : Result Control HalfFault) → IsUnder peer (asked_of peer r)
payload_so peer (Ok c) = asked_so peer c
payload_so peer (Err f) = tt

by_tag : (P : Result (Ask × Addr) HalfFault → Type 0) (b : Bool) (x y : Result (Ask × Addr) HalfFault) → P x → P y → P (if b then x else y)
by_tag P true x y p q = p
by_tag P false x y p q = q

pub asks_under : (peer : Option Addr) (p : Parts) → IsUnder peer (ask_in peer p)
asks_under peer p =
    by_tag (IsUnder peer) (p.tag == tag_number tag.ClientIdent) _ _ (payload_so peer (payload_in tag.ClientIdent p.first))
    (by_tag (IsUnder peer) (p.tag == tag_number tag.SessionReconnect) _ _ (payload_so peer (payload_in tag.SessionReconnect p.first)) tt)

-- ---- a payload that begins with a vector of addresses

paired : {B F : Type 0} (addrs : List AnyAddr) (r : Result (B × List ℕ) F) →
    Holds (λ (x : (List AnyAddr) × B). x.0 ≡ addrs) (r >>= λ y. Ok ((addrs, y.0), y.1))
paired addrs (Ok y) = refl
paired addrs (Err e) = tt

begins_with : {B : Type 0} (addrs : List AnyAddr) (more : List ℕ → Result (B × List ℕ) ControlFault) (bytes rest : List ℕ) →
    vector_field bytes ≡ Ok (addrs, rest) → Holds (λ (x : (List AnyAddr) × B). x.0 ≡ addrs) ((vector_field ⊳ more) bytes)
begins_with addrs more bytes rest e = rw e (paired addrs (more rest))

-- under this main address, where it is an ask
abbrev pub IsMine : Addr → Result (Ask × Addr) HalfFault → Type 0
IsMine mine (Ok x) = x.1 ≡ mine
IsMine mine (Err f) = Unit {0}

abbrev PayloadMine : Addr → Control → Type 0
PayloadMine mine c = IsMine mine (asked None c)

whole_mine : (mine : Addr) (r : Result (Control × List ℕ) ControlFault) → Holds (PayloadMine mine) r → IsMine mine (asked_of None (of_payload (whole r)))
whole_mine mine (Ok x) h = at (length x.1 == 0)
  where
    at : (b : Bool) → IsMine mine (asked_of None (of_payload (if b then Ok x.0 else Err Extra)))
    at true = h
    at false = tt
whole_mine mine (Err e) h = tt

mine_under : (a : Addr) (ask : Ask) (addrs : List AnyAddr) → addrs ≡ V4 a ∷ [] → a.kind ≡ MSGR2 → IsMine a (under ask (known_main None (main_of addrs)))
mine_under a ask addrs e k = rw (e, eq-eqb a.kind MSGR2 k) refl

module _ (f : SideFacts) (k : KeepsRanges f) where
  abbrev own : List AnyAddr
  own = V4 f.mine ∷ []

  kept : IsKept own
  kept = record { few = omega arith; sound = (ipv4_spelled f.mine k.mine.0 k.mine.1 k.mine.2 k.mine.3, tt) }

  read_at : (rest : List ℕ) → vector_at (vector_text own ++ rest) ≡ Ok (own, rest)
  read_at rest = vector_exact.again own (vector_text own) rest (vector_spelled own kept)

  field_read : (rest : List ℕ) → vector_field (vector_text own ++ rest) ≡ Ok (own, rest)
  unfolding vector_field
  field_read rest = rw (read_at rest, eq-eqb f.mine.kind MSGR2 k.kind) refl

  -- what follows the addresses
  abbrev numbers : (cookie global : ℕ) → List ℕ
  numbers cookie global =
      to_le_bytes w64 (cast_unsigned w64 (pos f.node.number)) ++ to_le_bytes w64 global ++ to_le_bytes w64 f.node.supports ++ to_le_bytes w64 f.node.requires_
      ++ to_le_bytes w64 (if f.policy.lossy then 1 else 0) ++ to_le_bytes w64 cookie

  abbrev behind_ident : (cookie global : ℕ) → List ℕ
  behind_ident cookie global = ipv4_text f.peer ++ numbers cookie global

  abbrev behind_reconnect : (client server global connect seen : ℕ) → List ℕ
  behind_reconnect client server global connect seen =
      to_le_bytes w64 client ++ (to_le_bytes w64 server ++ (to_le_bytes w64 global ++ (to_le_bytes w64 connect ++ to_le_bytes w64 seen)))

  ident_mine : (cookie global : ℕ) → IsMine f.mine (ask_in None (part f (out.ident cookie global)))
  ident_mine cookie global =
      let rest = behind_ident cookie global in
      let text : List ℕ = vector_text own ++ rest in
      let more = lifted ipv4_at ⊳ tail_at 3 in
      whole_mine f.mine (made control.ClientIdent (made make_client_ident (vector_field ⊳ more)) text)
      (mapped (λ i. i.addrs ≡ own) (PayloadMine f.mine) control.ClientIdent (made make_client_ident (vector_field ⊳ more) text) (λ i h. mine_under f.mine (Ident i) i.addrs h k.kind)
      (mapped (λ x. x.0 ≡ own) (λ i. i.addrs ≡ own) make_client_ident ((vector_field ⊳ more) text) (λ x h. h) (begins_with own more text rest (field_read rest))))

  reconnect_mine : (client server global connect seen : ℕ) → IsMine f.mine (ask_in None (part f (out.reconnect client server global connect seen)))
  reconnect_mine client server global connect seen =
      let rest = behind_reconnect client server global connect seen in
      let text : List ℕ = vector_text own ++ rest in
      let more = cookie_at 2 ⊳ cookie_at 3 ⊳ bounded_at 4 ⊳ bounded_at 5 ⊳ bounded_at 6 in
      whole_mine f.mine (made control.SessionReconnect (made make_session_reconnect (vector_field ⊳ more)) text)
      (mapped (λ i. i.addrs ≡ own) (PayloadMine f.mine) control.SessionReconnect (made make_session_reconnect (vector_field ⊳ more) text) (λ i h. mine_under f.mine (Reconnect i) i.addrs h k.kind)
      (mapped (λ x. x.0 ≡ own) (λ i. i.addrs ≡ own) make_session_reconnect ((vector_field ⊳ more) text) (λ x h. h) (begins_with own more text rest (field_read rest))))

  -- ---- it is written whole

  vector_bytes : All (λ b. b < 256) (vector_text own)
  vector_bytes =
      let one = ipv4_text f.mine ++ [] in
      All-cons IsByte 2 (to_le_bytes w32 1 ++ one) (omega arith)
      (All-append IsByte (to_le_bytes w32 1) one (four_bytes 1) (All-append IsByte (ipv4_text f.mine) [] (address_bytes f.mine) no_bytes))

  few_writable : (tag : ℕ) (text : List ℕ) → FIRST_TAG ≤ tag → tag ≤ LAST_TAG → (tag == message_tag) ≡ false → length text ≤ 200 → All (λ b. b < 256) text →
      IsWritable (record { tag = tag; first = text; second = []; third = []; fourth = [] })
  few_writable tag text from to other few bytes = record {
    fits = record {
      tag_from = from;
      tag_to = to;
      count = rw other (omega arith);
      first = rw other (omega (arith, few));
      second = rw other (omega arith);
      third = rw other (omega arith);
      fourth = rw other (omega arith);
    };
    bytes = record { first = bytes; second = no_bytes; third = no_bytes; fourth = no_bytes };
  }

  number_bytes : (n : ℕ) (more : List ℕ) → All (λ b. b < 256) more → All (λ b. b < 256) (to_le_bytes w64 n ++ more)
  number_bytes n more h = All-append IsByte (to_le_bytes w64 n) more (eight_bytes n) h

  ident_written : (cookie global : ℕ) → IsWritable (part f (out.ident cookie global))
  ident_written cookie global =
      let last = to_le_bytes w64 (if f.policy.lossy then 1 else 0) ++ to_le_bytes w64 cookie in
      let required = to_le_bytes w64 f.node.requires_ ++ last in
      let supported = to_le_bytes w64 f.node.supports ++ required in
      let globals = to_le_bytes w64 global ++ supported in
      let all = number_bytes (cast_unsigned w64 (pos f.node.number)) globals (number_bytes global supported (number_bytes f.node.supports required (number_bytes f.node.requires_ last
      (number_bytes (if f.policy.lossy then 1 else 0) (to_le_bytes w64 cookie) (eight_bytes cookie))))) in
      few_writable 8 (vector_text own ++ behind_ident cookie global) (omega arith) (omega arith) refl (omega arith)
      (All-append IsByte (vector_text own) (behind_ident cookie global) vector_bytes (All-append IsByte (ipv4_text f.peer) (numbers cookie global) (address_bytes f.peer) all))

  reconnect_written : (client server global connect seen : ℕ) → IsWritable (part f (out.reconnect client server global connect seen))
  reconnect_written client server global connect seen =
      let last = to_le_bytes w64 connect ++ to_le_bytes w64 seen in
      let globals = to_le_bytes w64 global ++ last in
      let servers = to_le_bytes w64 server ++ globals in
      few_writable 11 (vector_text own ++ behind_reconnect client server global connect seen) (omega arith) (omega arith) refl (omega arith)
      (All-append IsByte (vector_text own) (behind_reconnect client server global connect seen) vector_bytes
      (number_bytes client servers (number_bytes server globals (number_bytes global last (number_bytes connect (to_le_bytes w64 seen) (eight_bytes seen))))))

-- ---- the frames with which a side may begin on a socket that it opened

abbrev pub MayBegin : OutFrame → Type 0
MayBegin w = (is_ask w ≡ true) ⊎ (is_unnamed w ≡ true)

abbrev IsBeginning : OutFrame → Type 0
IsBeginning (out.ident cookie global) = Unit {0}
IsBeginning (out.reconnect client server global connect seen) = Unit {0}
IsBeginning (out.acknowledgement number) = Unit {0}
IsBeginning (out.keepalive_answer s) = Unit {0}
IsBeginning w = ⊥

neither : {X : Type 0} → (false ≡ true) ⊎ (false ≡ true) → X
neither (inl e) = from_false_true e
neither (inr e) = from_false_true e

beginning : (w : OutFrame) → MayBegin w → IsBeginning w
beginning (out.ident cookie global) h = tt
beginning (out.reconnect client server global connect seen) h = tt
beginning (out.acknowledgement number) h = tt
beginning (out.keepalive_answer s) h = tt
beginning out.greeting h = neither h
beginning (out.server_ident cookie global) h = neither h
beginning (out.reconnect_ok seen) h = neither h
beginning (out.reset full) h = neither h
beginning (out.retry connect) h = neither h
beginning (out.retry_global global) h = neither h
beginning out.wait h = neither h
beginning (out.message number acked m) h = neither h

-- such a frame is read whole, and whoever it asks for is this side
pub record BeginsAs (f : SideFacts) (w : OutFrame) : Type 0 where
  pub writable : IsWritable (part f w)
  pub text : out.text_of f w ≡ frame.text_of (part f w)
  pub mine : IsMine f.mine (ask_in None (part f w))

begins_by : (f : SideFacts) → KeepsRanges f → (w : OutFrame) → IsBeginning w → BeginsAs f w
begins_by f k (out.ident cookie global) h = record { writable = ident_written f k cookie global; text = refl; mine = ident_mine f k cookie global }
begins_by f k (out.reconnect client server global connect seen) h =
    record { writable = reconnect_written f k client server global connect seen; text = refl; mine = reconnect_mine f k client server global connect seen }
begins_by f k (out.acknowledgement number) h = record { writable = ack_writable number; text = refl; mine = tt }
begins_by f k (out.keepalive_answer s) h = record { writable = stamp_writable s.seconds s.nanos; text = refl; mine = tt }
begins_by f k w h = elim h [ ]

pub begins_as : (f : SideFacts) → KeepsRanges f → (w : OutFrame) → MayBegin w → BeginsAs f w
begins_as f k w h = begins_by f k w (beginning w h)
