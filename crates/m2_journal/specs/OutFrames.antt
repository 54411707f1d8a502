-- The frames that a record writes, and their one text each. What stands in them is the protocol's; the values that
-- are chosen are this project's profile.
use Rattle.std.specs.Prelude.{ℕ, pos, Bool, true, false, if◌then◌else◌, List, [], ◌∷◌}
use Rattle.m2_policy.specs.m2_addr.declared.addr.AnyAddr.TheVariants.{V4}
use Rattle.m2_session.specs.Frames as answers
use Rattle.m2_handshake.specs.m2_control.declared.control.Control.{Control}
use Rattle.m2_handshake.specs.m2_control.declared.control.Control.TheVariants as control
use Rattle.m2_handshake.specs.m2_control.declared.keepalive.Keepalive.{Keepalive}
use Rattle.m2_message.specs.m2_frame.Text as frame
use Rattle.m2_handshake.specs.Texts.{frame_text}
use Rattle.m2_message.specs.Message.{Content, with_numbers}
use Rattle.m2_message.specs.MessageFrame.{parts_of}
use Rattle.m2_session.specs.declared.answer.Answer.{Answer}
use Rattle.m2_session.specs.declared.answer.Answer.TheVariants as answer
use Rattle.m2_journal.specs.SideFacts.{SideFacts, speaker_of}

-- A frame by what matters of it to the other side; `greeting` is all that a handshake writes. IDENT_MISSING_FEATURES is
-- none of these: a half writes it by itself, without a judgement.
pub data OutFrame : Type 0 where
  greeting : OutFrame
  ident : (cookie global : ℕ) → OutFrame
  reconnect : (client server global connect seen : ℕ) → OutFrame
  server_ident : (cookie global : ℕ) → OutFrame
  reconnect_ok : (seen : ℕ) → OutFrame
  reset : (full : Bool) → OutFrame
  retry : (connect : ℕ) → OutFrame
  retry_global : (global : ℕ) → OutFrame
  wait : OutFrame
  message : (number acked : ℕ) → Content → OutFrame
  acknowledgement : (number : ℕ) → OutFrame
  keepalive_answer : Keepalive → OutFrame

-- ---- their texts

-- a SERVER_IDENT that carries these two numbers
abbrev pub server_ident_of : SideFacts → (cookie global : ℕ) → Control
server_ident_of f cookie global = control.ServerIdent (answers.server_ident (speaker_of f) (record { cookie = cookie; global = global; last = 0 }))

abbrev pub client_ident_of : SideFacts → (cookie global : ℕ) → Control
client_ident_of f cookie global = control.ClientIdent (record {
  addrs = V4 f.mine ∷ [];
  target = f.peer;
  gid = pos f.node.number;
  global = global;
  supported = f.node.supports;
  required = f.node.requires_;
  flags = (if f.policy.lossy then 1 else 0);
  cookie = cookie;
})

-- a handshake's text isn't that of one frame
abbrev pub text_of : SideFacts → OutFrame → List ℕ
text_of f greeting = []
text_of f (ident cookie global) = frame_text (client_ident_of f cookie global)
text_of f (reconnect client server global connect seen) = frame_text (control.SessionReconnect (record {
  addrs = V4 f.mine ∷ [];
  client = client;
  server = server;
  global = global;
  connect = connect;
  seen = seen;
}))
text_of f (server_ident cookie global) = frame_text (server_ident_of f cookie global)
text_of f (reconnect_ok seen) = frame_text (control.SessionReconnectOk (record { seen = seen }))
text_of f (reset full) = frame_text (control.SessionReset (record { full = full }))
text_of f (retry connect) = frame_text (control.SessionRetry (record { connect = connect }))
text_of f (retry_global global) = frame_text (control.SessionRetryGlobal (record { global = global }))
text_of f wait = frame_text (control.Wait (record {}))
text_of f (message number acked m) = frame.text_of (parts_of (with_numbers number acked m))
text_of f (acknowledgement number) = frame_text (control.Ack (record { seen = number }))
text_of f (keepalive_answer k) = frame_text (control.KeepaliveAck (record { seconds = k.seconds; nanos = k.nanos }))

-- ---- words of them

-- the frame of an answer that takes no socket; Close is said by closing
abbrev pub replies_of : Answer → List OutFrame
replies_of answer.Wait = wait ∷ []
replies_of (answer.Reset full) = reset full ∷ []
replies_of answer.ResetPending = reset false ∷ []
replies_of (answer.RetryGlobal number) = retry_global number ∷ []
replies_of (answer.Retry number) = retry number ∷ []
replies_of _ = []

-- whether it acknowledges what was accepted
abbrev pub acknowledges : OutFrame → Bool
acknowledges (message number acked m) = true
acknowledges (acknowledgement number) = true
acknowledges _ = false

-- the frames that no entry names: they count as sent when they are wholly put
abbrev pub is_unnamed : OutFrame → Bool
is_unnamed (acknowledgement number) = true
is_unnamed (keepalive_answer k) = true
is_unnamed _ = false

abbrev pub keepalives_answered : OutFrame → ℕ
keepalives_answered (keepalive_answer k) = 1
keepalives_answered _ = 0
