-- A frame that brings a message is a MESSAGE with a whole header.
use Rattle.std.proofs.Common.{◌≡◌, ◌≢◌, ℕ, Bool, true, false, List, length, Option, Some, None, Result, Ok, Err, refl, sym, ap, subst, ◌∙◌}
use Rattle.std.specs.Prelude.{◌==◌, if◌then◌else◌}
use Rattle.std.proofs.lemmas.Bool.{eqb-true}
use Rattle.m2_control.specs.declared.control.Control.{Control}
use Rattle.m2_control.specs.declared.fault.ControlFault.{ControlFault}
use Rattle.m2_control.specs.Control.{payload_of}
use Rattle.m2_frame.specs.Frame.{Parts, message_tag}
use Rattle.m2_frame.specs.Reading.{whole}
use Rattle.m2_journal.specs.Said.{Said, says, brings, garbles, said, said_by, said_of_control, said_of_message, said_of_payload, is_read_at_feed}
use Rattle.m2_message.specs.Message.{Content}
use Rattle.m2_message.specs.declared.header_text.TheConstants.{HEADER_BYTES}
use Rattle.m2_message.specs.MessageFrame.{message_in}
use Rattle.m2_frame.specs.declared.tag.Tag.{Tag}
use Rattle.m2_frame.specs.declared.tag.Tag.TheVariants as tag
use Rattle.m2_frame.specs.Tags.{tag_in}
use Rattle.m2_feed.specs.declared.frame_heard.FrameHeard.{FrameHeard}
use Rattle.m2_feed.specs.declared.frame_heard.FrameHeard.TheVariants.{Brings}
use Rattle.m2_feed.specs.declared.hearer.Hearer.{Hearer}
use Rattle.m2_feed.specs.FrameHeard.{heard_of}
use Rattle.m2_feed.specs.FrameLaws.{BringsMessages, IsAsReplayed, IsMessageFrame}
use Rattle.m2_feed.proofs.Heeding.{heeds}

-- ---- the number of its tag

past : (b : Bool) (t : Tag) (rest : Option Tag) → (t ≡ tag.Message → ⊥) → (if b then Some t else rest) ≡ Some tag.Message → rest ≡ Some tag.Message
past true t rest other e = let same : t ≡ tag.Message = cc in absurd (other same)
past false t rest other e = e

here : (n : ℕ) (b : Bool) (rest : Option Tag) → (n == message_tag) ≡ b → (rest ≡ Some tag.Message → ⊥) → (if b then Some tag.Message else rest) ≡ Some tag.Message → n ≡ message_tag
here n true rest q none e = eqb-true n message_tag q
here n false rest q none e = absurd (none e)

never : None ≡ Some tag.Message → ⊥
never e = cc

message_number : (n : ℕ) → tag_in n ≡ Some tag.Message → n ≡ message_tag
message_number n e0 =
    let e1 = past (n == 1) tag.Hello _ (λ q. cc) e0 in
    let e2 = past (n == 2) tag.AuthRequest _ (λ q. cc) e1 in
    let e3 = past (n == 3) tag.AuthBadMethod _ (λ q. cc) e2 in
    let e4 = past (n == 4) tag.AuthReplyMore _ (λ q. cc) e3 in
    let e5 = past (n == 5) tag.AuthRequestMore _ (λ q. cc) e4 in
    let e6 = past (n == 6) tag.AuthDone _ (λ q. cc) e5 in
    let e7 = past (n == 7) tag.AuthSignature _ (λ q. cc) e6 in
    let e8 = past (n == 8) tag.ClientIdent _ (λ q. cc) e7 in
    let e9 = past (n == 9) tag.ServerIdent _ (λ q. cc) e8 in
    let e10 = past (n == 10) tag.IdentMissingFeatures _ (λ q. cc) e9 in
    let e11 = past (n == 11) tag.SessionReconnect _ (λ q. cc) e10 in
    let e12 = past (n == 12) tag.SessionReset _ (λ q. cc) e11 in
    let e13 = past (n == 13) tag.SessionRetry _ (λ q. cc) e12 in
    let e14 = past (n == 14) tag.SessionRetryGlobal _ (λ q. cc) e13 in
    let e15 = past (n == 15) tag.SessionReconnectOk _ (λ q. cc) e14 in
    let e16 = past (n == 16) tag.Wait _ (λ q. cc) e15 in
    here n (n == 17) _ refl (λ r18.
    let r19 = past (n == 18) tag.Keepalive _ (λ q. cc) r18 in
    let r20 = past (n == 19) tag.KeepaliveAck _ (λ q. cc) r19 in
    let r21 = past (n == 20) tag.Ack _ (λ q. cc) r20 in
    let r22 = past (n == 21) tag.CompressionRequest _ (λ q. cc) r21 in
    let r23 = past (n == 22) tag.CompressionDone _ (λ q. cc) r22 in
    never r23) e16

-- ---- what is said

abbrev IsOf : Option Tag → Parts → Type 0
IsOf o f = (o ≡ Some tag.Message) × (length f.first ≡ HEADER_BYTES) × (said_by o f ≡ brings (message_in f))

message_says : (f : Parts) (m : Content) → said_of_message f ≡ brings m → (length f.first ≡ HEADER_BYTES) × (said_of_message f ≡ brings (message_in f))
message_says f m = at (length f.first == HEADER_BYTES) refl
  where
    at : (b : Bool) → (length f.first == HEADER_BYTES) ≡ b → (if b then brings (message_in f) else garbles) ≡ brings m →
        (length f.first ≡ HEADER_BYTES) × ((if b then brings (message_in f) else garbles) ≡ brings (message_in f))
    at true q e = (eqb-true (length f.first) HEADER_BYTES q, refl)
    at false q e = let no_way : ⊥ = cc in absurd no_way

payload_says : (r : Result Control ControlFault) (b : Bool) (m : Content) → (if b then said_of_payload r else garbles) ≡ brings m → ⊥
payload_says (Ok c) true m e = cc
payload_says (Err f) true m e = cc
payload_says r false m e = cc

said_brings : (o : Option Tag) (f : Parts) (m : Content) → said_by o f ≡ brings m → IsOf o f
said_brings (Some tag.Message) f m e = let s = message_says f m e in (refl, s.0, s.1)
said_brings (Some t) f m e = absurd (payload_says (payload_of t f.first) (is_read_at_feed t) m e)
said_brings None f m e = let no_way : ⊥ = cc in absurd no_way

pub are_messages : BringsMessages
are_messages h f n e =
    let k : IsAsReplayed (Brings n) h (said (whole f)) = subst (λ (x : FrameHeard). IsAsReplayed x h (said (whole f))) e (heeds h (whole f)) in
    let s = said_brings (tag_in f.tag) f k.message k.said in
    record { tag = message_number f.tag s.0; header = s.1; says = s.2 }
