-- A frame that keeps the bounds of its format is read as what was sent.
use Rattle.std.proofs.Common.{◌≡◌, ℕ, zero, suc, Bool, true, false, if◌then◌else◌, List, [], ◌∷◌, ◌++◌, length, take, map, refl, sym, ap, ◌∙◌, subst}
use Rattle.std.specs.Prelude.{◌<◌, ◌≤◌, ◌^◌, ◌==◌, nat_le, Err}
use Rattle.std.specs.Int.{w64, to_le_bytes}
use Rattle.std.proofs.lemmas.Bool.{leb-true, leb-false}
use Rattle.std.proofs.lemmas.Nat.{from_le_bytes-to_le_bytes_8}
use Rattle.std.specs.List.{AllByRecursion, flat_map}
use Rattle.m2_feed.specs.m2_control.declared.control.Control.TheVariants as control
use Rattle.m2_feed.specs.m2_control.declared.fault.ControlFault.TheVariants.{BadValue}
use Rattle.m2_feed.specs.m2_control.declared.fields.TheConstants.{GREATEST_NUMBER}
use Rattle.m2_feed.specs.m2_control.Control as payload
use Rattle.m2_feed.specs.m2_control.Control.{bare}
use Rattle.m2_feed.specs.m2_control.Fields.{bounded_at}
use Rattle.m2_feed.proofs.m2_control.Written.{written_is_read}
use Rattle.m2_feed.specs.m2_frame.Frame.{Parts}
use Rattle.m2_feed.specs.m2_frame.Reading.{whole}
use Rattle.m2_feed.specs.m2_frame.Text as frame
use Rattle.m2_feed.specs.m2_handshake.Texts.{control_parts}
use Rattle.m2_feed.specs.m2_message.Message.{with_numbers}
use Rattle.m2_feed.specs.m2_message.declared.header_text.TheConstants.{HEADER_BYTES}
use Rattle.m2_feed.specs.m2_message.MessageFrame.{parts_of, message_in}
use Rattle.m2_feed.proofs.m2_message.Carried.{message_in-carried}
use Rattle.m2_feed.proofs.m2_message.Headers.{length-header_text}
use Rattle.m2_feed.specs.m2_journal.Laws.{IsWritable}
use Rattle.m2_feed.specs.m2_journal.OutFrames as out
use Rattle.m2_feed.specs.m2_journal.OutFrames.{OutFrame, is_unnamed, server_ident_of}
use Rattle.m2_feed.specs.m2_journal.Said.{Said, says, brings, garbles, said, said_of_payload}
use Rattle.m2_feed.specs.m2_journal.SideFacts.{SideFacts}
use Rattle.m2_never_reset.specs.Fits.{Says, IsRefusal, AreSaid}
use Rattle.m2_never_reset.specs.Frames.{is_ask}
use Rattle.m2_feed.specs.m2_frame.declared.tag.Tag.TheVariants as tag
use Rattle.m2_trail.specs.Replies.{refusal}
use Rattle.m2_bytes_fit.proofs.Sent.{ack_writable, stamp_writable}
use Rattle.m2_bytes_fit.specs.Texts.{Made, of_message, of_payload, of_none, made, KeepsFormat, CanBeSent, texts_of}
use Rattle.m2_feed.proofs.m2_lemmas.Booleans.{from_false_true}

-- ---- the parts of a frame

pub nothing_made : Parts
nothing_made = record { tag = 0; first = []; second = []; third = []; fourth = [] }

abbrev pub parts_made : Made → Parts
parts_made (of_message m) = parts_of m
parts_made (of_payload c) = control_parts c
parts_made of_none = nothing_made

abbrev pub part : SideFacts → OutFrame → Parts
part f w = parts_made (made f w)

-- those that no entry names can be written whatever stands in them
abbrev pub CanBeWritten : SideFacts → OutFrame → Type 0
CanBeWritten f (out.acknowledgement number) = Unit {0}
CanBeWritten f (out.keepalive_answer k) = Unit {0}
CanBeWritten f w = CanBeSent f w

pub written : (f : SideFacts) (w : OutFrame) → CanBeSent f w → CanBeWritten f w
written f out.greeting k = k
written f (out.ident cookie global) k = k
written f (out.reconnect client server global connect seen) k = k
written f (out.server_ident cookie global) k = k
written f (out.reconnect_ok seen) k = k
written f (out.reset full) k = k
written f (out.retry connect) k = k
written f (out.retry_global global) k = k
written f out.wait k = k
written f (out.message number acked m) k = k
written f (out.acknowledgement number) k = tt
written f (out.keepalive_answer s) k = tt

pub unnamed_written : (f : SideFacts) (w : OutFrame) → is_unnamed w ≡ true → CanBeWritten f w
unnamed_written f (out.acknowledgement number) e = tt
unnamed_written f (out.keepalive_answer s) e = tt
unnamed_written f out.greeting e = from_false_true e
unnamed_written f (out.ident cookie global) e = from_false_true e
unnamed_written f (out.reconnect client server global connect seen) e = from_false_true e
unnamed_written f (out.server_ident cookie global) e = from_false_true e
unnamed_written f (out.reconnect_ok seen) e = from_false_true e
unnamed_written f (out.reset full) e = from_false_true e
unnamed_written f (out.retry connect) e = from_false_true e
unnamed_written f (out.retry_global global) e = from_false_true e
unnamed_written f out.wait e = from_false_true e
unnamed_written f (out.message number acked m) e = from_false_true e

pub writable : (f : SideFacts) (w : OutFrame) → CanBeWritten f w → IsWritable (part f w)
writable f out.greeting k = absurd k
writable f (out.ident cookie global) k = k.writable
writable f (out.reconnect client server global connect seen) k = k.writable
writable f (out.server_ident cookie global) k = k.writable
writable f (out.reconnect_ok seen) k = k.writable
writable f (out.reset full) k = k.writable
writable f (out.retry connect) k = k.writable
writable f (out.retry_global global) k = k.writable
writable f out.wait k = k.writable
writable f (out.message number acked m) k = k.writable
writable f (out.acknowledgement number) k = ack_writable number
writable f (out.keepalive_answer s) k = stamp_writable s.seconds s.nanos

pub text_made : (f : SideFacts) (w : OutFrame) → CanBeWritten f w → out.text_of f w ≡ frame.text_of (part f w)
text_made f out.greeting k = absurd k
text_made f (out.ident cookie global) k = refl
text_made f (out.reconnect client server global connect seen) k = refl
text_made f (out.server_ident cookie global) k = refl
text_made f (out.reconnect_ok seen) k = refl
text_made f (out.reset full) k = refl
text_made f (out.retry connect) k = refl
text_made f (out.retry_global global) k = refl
text_made f out.wait k = refl
text_made f (out.message number acked m) k = refl
text_made f (out.acknowledgement number) k = refl
text_made f (out.keepalive_answer s) k = refl

abbrev pub parts_all : SideFacts → List OutFrame → List Parts
parts_all f ws = map (part f) ws

pub all_written : (f : SideFacts) (ws : List OutFrame) → AllByRecursion (CanBeSent f) ws → AllByRecursion (CanBeWritten f) ws
all_written f [] k = tt
all_written f (w ∷ ws) k = (written f w k.0, all_written f ws k.1)

pub texts_made : (f : SideFacts) (ws : List OutFrame) → AllByRecursion (CanBeWritten f) ws → texts_of f ws ≡ flat_map frame.text_of (parts_all f ws)
texts_made f [] k = refl
texts_made f (w ∷ ws) k = ap (λ t. t ++ texts_of f ws) (text_made f w k.0) ∙ ap (λ t. frame.text_of (part f w) ++ t) (texts_made f ws k.1)

pub all_writable : (f : SideFacts) (ws : List OutFrame) → AllByRecursion (CanBeWritten f) ws → AllByRecursion IsWritable (parts_all f ws)
all_writable f [] k = tt
all_writable f (w ∷ ws) k = (writable f w k.0, all_writable f ws k.1)

-- ---- what it says

brought : (b : Bool) (m : Said) → b ≡ true → (if b then m else garbles) ≡ m
brought true m e = refl
brought false m e = from_false_true e

-- a SESSION_RETRY with a greater number is refused
retry_refused : (n : ℕ) → n < 2 ^ 64 → nat_le n GREATEST_NUMBER ≡ false → payload.payload_of tag.SessionRetry (to_le_bytes w64 n) ≡ Err (BadValue 1)
unfolding bounded_at
retry_refused n h e = rw (from_le_bytes-to_le_bytes_8 n h, e) refl

pub says_sent : (f : SideFacts) (w : OutFrame) → is_ask w ≡ false → CanBeSent f w → Says (said (whole (part f w))) w
says_sent f out.greeting n k = absurd k
says_sent f (out.ident cookie global) n k = from_false_true (sym n)
says_sent f (out.reconnect client server global connect seen) n k = from_false_true (sym n)
says_sent f (out.server_ident cookie global) n k =
    let both : Says (says (bare (server_ident_of f cookie global))) (out.server_ident cookie global) = (refl, refl) in
    subst (λ s. Says s (out.server_ident cookie global)) (sym (ap said_of_payload (written_is_read (server_ident_of f cookie global) k.ranges k.bounds).read)) both
says_sent f (out.reconnect_ok seen) n k =
    subst (λ s. Says s (out.reconnect_ok seen)) (sym (ap said_of_payload (written_is_read (control.SessionReconnectOk (record { seen = seen })) k.ranges k.bounds).read)) refl
says_sent f (out.reset full) n k =
    subst (λ s. Says s (out.reset full)) (sym (ap said_of_payload (written_is_read (control.SessionReset (record { full = full })) k.ranges k.bounds).read)) refl
says_sent f (out.retry connect) n k = at (nat_le connect GREATEST_NUMBER) refl
  where
    at : (t : Bool) → nat_le connect GREATEST_NUMBER ≡ t → Says (said (whole (part f (out.retry connect)))) (out.retry connect)
    at true e =
        let few : connect ≤ GREATEST_NUMBER = leb-true connect GREATEST_NUMBER e in
        let it : Says (says (control.SessionRetry (record { connect = connect }))) (out.retry connect) = (refl, few) in
        subst (λ s. Says s (out.retry connect)) (sym (ap said_of_payload (written_is_read (control.SessionRetry (record { connect = connect })) k.ranges few).read)) it
    at false e =
        let many = leb-false connect GREATEST_NUMBER e in
        subst (λ s. Says s (out.retry connect)) (sym (ap said_of_payload (retry_refused connect k.ranges e))) many
says_sent f (out.retry_global global) n k =
    subst (λ s. Says s (out.retry_global global)) (sym (ap said_of_payload (written_is_read (control.SessionRetryGlobal (record { global = global })) k.ranges k.bounds).read)) refl
says_sent f out.wait n k =
    subst (λ s. Says s out.wait) (sym (ap said_of_payload (written_is_read (control.Wait (record {})) k.ranges k.bounds).read)) tt
says_sent f (out.message number acked m) n k =
    let c = with_numbers number acked m in
    let first : (length (parts_of c).first == HEADER_BYTES) ≡ true = ap (λ n. n == HEADER_BYTES) (length-header_text c.header) in
    let it : said (whole (parts_of c)) ≡ brings (message_in (parts_of c)) = brought (length (parts_of c).first == HEADER_BYTES) (brings (message_in (parts_of c))) first in
    subst (λ s. Says s (out.message number acked m)) (sym it)
    (sym (message_in-carried (parts_of c) c (record { fields = k.fields; parts = refl })))
says_sent f (out.acknowledgement number) n k =
    subst (λ s. Says s (out.acknowledgement number)) (sym (ap said_of_payload (written_is_read (control.Ack (record { seen = number })) k.ranges k.bounds).read)) refl
says_sent f (out.keepalive_answer s) n k =
    let c = control.KeepaliveAck (record { seconds = s.seconds; nanos = s.nanos }) in
    let both : Says (says (bare c)) (out.keepalive_answer s) = (refl, refl) in
    subst (λ s'. Says s' (out.keepalive_answer s)) (sym (ap said_of_payload (written_is_read c k.ranges k.bounds).read)) both

-- ---- the first of frames are what was sent

abbrev pub NoAsk : OutFrame → Type 0
NoAsk w = is_ask w ≡ false

pub said_first : (f : SideFacts) (n : ℕ) (ws : List OutFrame) → AllByRecursion NoAsk ws → AllByRecursion (CanBeSent f) ws →
    AreSaid (map whole (take n (parts_all f ws))) ws
said_first f zero ws a k = tt
said_first f (suc n) [] a k = tt
said_first f (suc n) (w ∷ ws) a k = (says_sent f w a.0 k.0, said_first f n ws a.1 k.1)

-- and a refusal behind them
says_refusal : (bits : ℕ) → KeepsFormat (refusal bits) → IsRefusal (said (whole (control_parts (refusal bits))))
says_refusal bits k = subst IsRefusal (sym (ap said_of_payload (written_is_read (refusal bits) k.ranges k.bounds).read)) tt

pub said_refused : (f : SideFacts) (n : ℕ) (bits : ℕ) (ws : List OutFrame) → KeepsFormat (refusal bits) → AllByRecursion NoAsk ws → AllByRecursion (CanBeSent f) ws →
    AreSaid (map whole (take n (parts_all f ws ++ control_parts (refusal bits) ∷ []))) ws
said_refused f zero bits ws r a k = tt
said_refused f (suc zero) bits [] r a k = (says_refusal bits r, refl)
said_refused f (suc (suc n)) bits [] r a k = (says_refusal bits r, refl)
said_refused f (suc n) bits (w ∷ ws) r a k = (says_sent f w a.0 k.0, said_refused f n bits ws r a.1 k.1)
