-- An ident that is read under a lossless policy and agreed carries a cookie.
use Rattle.std.proofs.Common.{◌≡◌, ◌≢◌, ℕ, zero, suc, ◌<◌, Bool, true, false, not, ◌&&◌, ◌==◌, ◌%◌, if◌then◌else◌, List, Result, Ok, Err, Option, Some, None, length, refl, ap, subst, arith}
use Rattle.std.proofs.lemmas.Bool.{eq-eqb}
use Rattle.std.specs.Int.{w64}
use Rattle.std.specs.Option.{option_map}
use Rattle.std.specs.Result.{is_ok}
use Rattle.m2_policy.specs.m2_addr.declared.addr.Addr.{Addr}
use Rattle.m2_policy.specs.m2_addr.declared.fault.AddrFault.{AddrFault}
use Rattle.m2_policy.specs.m2_addr.Reading.{◌>>=◌, number, checked, ◌⊳◌, made}
use Rattle.m2_policy.specs.m2_addr.Vector.{main_of}
use Rattle.m2_policy.proofs.m2_addr.Exact.{bind_ok, test_ok, ok_is}
use Rattle.m2_handshake.specs.m2_control.declared.control.Control.{Control}
use Rattle.m2_handshake.specs.m2_control.declared.control.Control.TheVariants as control
use Rattle.m2_handshake.specs.m2_control.declared.fault.ControlFault.{ControlFault}
use Rattle.m2_handshake.specs.m2_control.declared.fault.ControlFault.TheVariants.{BadValue, Extra, Short}
use Rattle.m2_message.specs.MessageFrame.{message_in}
use Rattle.m2_handshake.specs.m2_control.declared.server_ident.ServerIdent.{ServerIdent}
use Rattle.m2_handshake.specs.m2_control.Ack.{ack_at}
use Rattle.m2_handshake.specs.m2_control.Control.{whole}
use Rattle.m2_handshake.specs.m2_control.Fields.{bounded_at, signed, vector_field}
use Rattle.m2_handshake.specs.m2_control.Ident.{keeps_cookie, make_tail, tail_at}
use Rattle.m2_handshake.specs.m2_control.IdentMissingFeatures.{ident_missing_features_at}
use Rattle.m2_handshake.specs.m2_control.Keepalive.{keepalive_at}
use Rattle.m2_handshake.specs.m2_control.KeepaliveAck.{keepalive_ack_at}
use Rattle.m2_handshake.specs.m2_control.ServerIdent.{make_server_ident, server_ident_at}
use Rattle.m2_handshake.specs.m2_control.SessionReconnectOk.{session_reconnect_ok_at}
use Rattle.m2_handshake.specs.m2_control.SessionReset.{session_reset_at}
use Rattle.m2_handshake.specs.m2_control.SessionRetry.{session_retry_at}
use Rattle.m2_handshake.specs.m2_control.SessionRetryGlobal.{session_retry_global_at}
use Rattle.m2_message.specs.m2_frame.Frame.{Parts}
use Rattle.m2_message.specs.m2_frame.Reading as reading
use Rattle.m2_message.specs.m2_frame.Reading.{Item}
use Rattle.m2_handshake.specs.Asks.{same_addr}
use Rattle.m2_handshake.specs.declared.fault.HalfFault.TheVariants.{WrongAddress, FlagDisagrees}
use Rattle.m2_handshake.specs.Ident.{is_lossy, same_flag}
use Rattle.m2_message.specs.declared.header_text.TheConstants.{HEADER_BYTES}
use Rattle.m2_message.specs.m2_frame.declared.tag.Tag.{Tag}
use Rattle.m2_message.specs.m2_frame.declared.tag.Tag.TheVariants as tag
use Rattle.m2_message.specs.m2_frame.Tags.{tag_in}
use Rattle.m2_journal.specs.Said.{Said, says, brings, garbles, said, said_by, said_of_message, said_of_payload}
use Rattle.m2_journal.specs.SideFacts.{SideFacts}
use Rattle.m2_journal.specs.Steps.{agrees, is_agreed}

-- ---- what a text says that was read

-- a session that isn't lossy has a cookie, where an ident says so
abbrev pub HasCookie : ServerIdent → Type 0
HasCookie i = not ((i.flags % 2 == 0) && (i.cookie == 0)) ≡ true

abbrev pub Keeps : Control → Type 0
Keeps (control.ServerIdent i) = HasCookie i
Keeps _ = Unit {0}

abbrev pub SaysKept : Said → Type 0
SaysKept (says c) = Keeps c
SaysKept _ = Unit {0}

checked_ok : {A F : Type 0} (test : A → Bool) (fault : F) (read : List ℕ → Result (A × List ℕ) F) (bytes : List ℕ) (y : A × List ℕ) →
    checked test fault read bytes ≡ Ok y → test y.0 ≡ true
checked_ok {F = F} test fault read bytes y e =
    let x = bind_ok (read bytes) (λ x. if test x.0 then Ok x else Err fault) y e in
    let t = test_ok (test x.0.0) fault (Ok x.0) y x.2 in
    subst (λ z. test z.0 ≡ true) (ok_is {F = F} x.0 y t.1) t.0

seq_ok : {A B F : Type 0} (first : List ℕ → Result (A × List ℕ) F) (second : List ℕ → Result (B × List ℕ) F) (bytes : List ℕ) (y : (A × B) × List ℕ) →
    (first ⊳ second) bytes ≡ Ok y → (rest : List ℕ) × (b : B × List ℕ) × (second rest ≡ Ok b) × (b.0 ≡ y.0.1)
seq_ok {F = F} first second bytes y e =
    let v = bind_ok (first bytes) (λ x. second x.1 >>= λ z. Ok ((x.0, z.0), z.1)) y e in
    let t = bind_ok (second v.0.1) (λ z. Ok ((v.0.0, z.0), z.1)) y v.2 in
    (v.0.1, t.0, t.1, ap (λ z. z.0.1) (ok_is {F = F} ((v.0.0, t.0.0), t.0.1) y t.2))

made_ok : {A B F : Type 0} (make : A → B) (read : List ℕ → Result (A × List ℕ) F) (bytes : List ℕ) (y : B × List ℕ) →
    made make read bytes ≡ Ok y → (x : A × List ℕ) × (read bytes ≡ Ok x) × (make x.0 ≡ y.0)
made_ok {F = F} make read bytes y e =
    let x = bind_ok (read bytes) (λ x. Ok (make x.0, x.1)) y e in
    (x.0, x.1, ap (λ z. z.0) (ok_is {F = F} (make x.0.0, x.0.1) y x.2))

ident_keeps : (bytes : List ℕ) (i : ServerIdent) (rest : List ℕ) → server_ident_at bytes ≡ Ok (i, rest) → HasCookie i
unfolding tail_at
ident_keeps bytes i rest e =
    let fields = made make_tail (signed w64 ⊳ bounded_at 3 ⊳ number w64 Short ⊳ number w64 Short ⊳ number w64 Short ⊳ number w64 Short) in
    let m = made_ok make_server_ident (vector_field ⊳ tail_at 2) bytes (i, rest) e in
    let s = seq_ok vector_field (tail_at 2) bytes m.0 m.1 in
    let kept = checked_ok keeps_cookie (BadValue 7) fields s.0 s.1 s.2 in
    subst HasCookie m.2 (subst (λ t. keeps_cookie t ≡ true) s.3 kept)

-- of a payload whose fields are read so
payload_keeps : {X : Type 0} (make : X → Control) (r : Result (X × List ℕ) ControlFault) →
    ((x : X) (rest : List ℕ) → r ≡ Ok (x, rest) → Keeps (make x)) →
    SaysKept (said_of_payload (whole (r >>= λ x. Ok (make x.0, x.1))))
payload_keeps make (Ok x) keeps = at (length x.1 == 0)
  where
    at : (b : Bool) → SaysKept (said_of_payload (if b then Ok (make x.0) else Err Extra))
    at true = keeps x.0 x.1 refl
    at false = tt
payload_keeps make (Err e) keeps = tt

message_keeps : (f : Parts) → SaysKept (said_of_message f)
message_keeps f = at (length f.first == HEADER_BYTES)
  where
    at : (b : Bool) → SaysKept (if b then brings (message_in f) else garbles)
    at true = tt
    at false = tt

by_tag : (o : Option Tag) (f : Parts) → SaysKept (said_by o f)
by_tag None f = tt
by_tag (Some tag.Message) f = message_keeps f
by_tag (Some tag.ServerIdent) f = payload_keeps control.ServerIdent (server_ident_at f.first) (λ x rest e. ident_keeps f.first x rest e)
by_tag (Some tag.IdentMissingFeatures) f = payload_keeps control.IdentMissingFeatures (ident_missing_features_at f.first) (λ x rest e. tt)
by_tag (Some tag.SessionReset) f = payload_keeps control.SessionReset (session_reset_at f.first) (λ x rest e. tt)
by_tag (Some tag.SessionRetry) f = payload_keeps control.SessionRetry (session_retry_at f.first) (λ x rest e. tt)
by_tag (Some tag.SessionRetryGlobal) f = payload_keeps control.SessionRetryGlobal (session_retry_global_at f.first) (λ x rest e. tt)
by_tag (Some tag.SessionReconnectOk) f = payload_keeps control.SessionReconnectOk (session_reconnect_ok_at f.first) (λ x rest e. tt)
by_tag (Some tag.Wait) f = payload_keeps control.Wait (Ok (record {}, f.first)) (λ x rest e. tt)
by_tag (Some tag.Keepalive) f = payload_keeps control.Keepalive (keepalive_at f.first) (λ x rest e. tt)
by_tag (Some tag.KeepaliveAck) f = payload_keeps control.KeepaliveAck (keepalive_ack_at f.first) (λ x rest e. tt)
by_tag (Some tag.Ack) f = payload_keeps control.Ack (ack_at f.first) (λ x rest e. tt)
by_tag (Some tag.Hello) f = tt
by_tag (Some tag.AuthRequest) f = tt
by_tag (Some tag.AuthBadMethod) f = tt
by_tag (Some tag.AuthReplyMore) f = tt
by_tag (Some tag.AuthRequestMore) f = tt
by_tag (Some tag.AuthDone) f = tt
by_tag (Some tag.AuthSignature) f = tt
by_tag (Some tag.ClientIdent) f = tt
by_tag (Some tag.SessionReconnect) f = tt
by_tag (Some tag.CompressionRequest) f = tt
by_tag (Some tag.CompressionDone) f = tt

-- an ident that a text says has a cookie, where it says that its session isn't lossy
pub said_keeps : (x : Item) → SaysKept (said x)
said_keeps (reading.whole f) = by_tag (tag_in f.tag) f
said_keeps (reading.dropped t) = tt

abbrev pub MayKeep : Option Said → Type 0
MayKeep (Some x) = SaysKept x
MayKeep None = Unit {0}

pub read_keeps : (o : Option Item) → MayKeep (option_map said o)
read_keeps (Some x) = said_keeps x
read_keeps None = tt

-- ---- an ident that is agreed

agreed_ok : {F : Type 0} (wrong other : F) (same flag : Bool) →
    is_ok (if same then (if flag then (let r : Result (Unit {0}) F = Ok tt in r) else Err other) else Err wrong) ≡ true →
    flag ≡ true
agreed_ok wrong other true true e = refl
agreed_ok wrong other true false e = cc
agreed_ok wrong other false flag e = cc

flag_agrees : (f : SideFacts) (i : ServerIdent) → is_agreed f i ≡ true →
    same_flag (is_lossy i.flags) f.policy.lossy ≡ true
flag_agrees f i e = at (main_of i.addrs) e
  where
    at : (r : Result Addr AddrFault) → agrees f i r ≡ true → same_flag (is_lossy i.flags) f.policy.lossy ≡ true
    at (Ok main) g = agreed_ok WrongAddress FlagDisagrees (same_addr main f.peer) (same_flag (is_lossy i.flags) f.policy.lossy) g
    at (Err fault) g = cc

-- bit 0 isn't set where the policy isn't lossy
bit_is_0 : (n : ℕ) (lossy : Bool) → lossy ≡ false → same_flag (n % 2 == 1) lossy ≡ true → (n % 2 == 0) ≡ true
bit_is_0 n lossy e same = even (n % 2) (omega arith) (subst (λ (b : Bool). same_flag (n % 2 == 1) b ≡ true) e same)
  where
    even : (m : ℕ) → m < 2 → same_flag (m == 1) false ≡ true → (m == 0) ≡ true
    even zero few g = refl
    even (suc zero) few g = cc
    even (suc (suc m)) few g = absurd (omega (arith, few))

some_cookie : (even : Bool) (n : ℕ) → even ≡ true → not (even && (n == 0)) ≡ true → n ≢ 0
some_cookie true n e kept is_0 = differ (n == 0) (eq-eqb n 0 is_0) kept
  where
    differ : (b : Bool) → b ≡ true → not b ≡ true → ⊥
    differ true e kept = cc
    differ false e kept = cc
some_cookie false n e kept is_0 = absurd cc

-- a SERVER_IDENT that brings a session that isn't lossy brings its server cookie
pub brings_cookie : (f : SideFacts) (i : ServerIdent) → Keeps (control.ServerIdent i) → is_agreed f i ≡ true →
    f.policy.lossy ≡ false → i.cookie ≢ 0
brings_cookie f i kept agreed lossless =
    some_cookie (i.flags % 2 == 0) i.cookie (bit_is_0 i.flags f.policy.lossy lossless (flag_agrees f i agreed)) kept
