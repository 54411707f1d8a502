-- The facts of an ask, their judgement, and what a session is told of it. The two tables of judgement and the table of
-- steps are those of the session (docs/PROTOCOL.md).
use Rattle.std.specs.Prelude.{ℕ, true, false, if◌then◌else◌, Option}
use Rattle.m2_control.specs.declared.client_ident.ClientIdent.{ClientIdent}
use Rattle.m2_control.specs.declared.session_reconnect.SessionReconnect.{SessionReconnect}
use Rattle.m2_session.specs.declared.answer.Answer.{Answer}
use Rattle.m2_session.specs.declared.event.Event.{Event}
use Rattle.m2_session.specs.declared.session.Session.{Session}
use Rattle.m2_session.specs.Ident.{ident_answer}
use Rattle.m2_session.specs.SessionLaws.{ident_event, reconnect_event}
use Rattle.m2_session.specs.Reconnect.{Reconnect, reconnect_answer}
use Rattle.m2_session.specs.declared.ask.AskFacts.{AskFacts}

-- ---- from an ask to its facts

abbrev pub facts_of_ident : ClientIdent → AskFacts
facts_of_ident p = record {
  ident = true;
  client = p.cookie;
  server = 0;
  global = p.global;
  connect = 0;
  seen = 0;
}

abbrev pub facts_of_reconnect : SessionReconnect → AskFacts
facts_of_reconnect p = record {
  ident = false;
  client = p.client;
  server = p.server;
  global = p.global;
  connect = p.connect;
  seen = p.seen;
}

-- ---- from the facts to the answer, and to what the session is told

-- what the judge of reconnects takes
abbrev pub reconnect_of : AskFacts → Reconnect
reconnect_of a = record { client = a.client; server = a.server; global = a.global; connect = a.connect; seen = a.seen }

abbrev pub answer_to : Session → AskFacts → (written : ℕ) → Answer
answer_to s a written =
    if a.ident then ident_answer s a.client a.global
    else reconnect_answer s (reconnect_of a) written

abbrev pub told_of_ident : AskFacts → Answer → (server : ℕ) → Option Event
told_of_ident a answer server = ident_event answer a.client server a.global

abbrev pub told_of_reconnect : AskFacts → Answer → Option Event
told_of_reconnect a answer = reconnect_event answer (reconnect_of a)

-- `server` is the cookie that was drawn for a SERVER_IDENT
abbrev pub event_of : AskFacts → Answer → (server : ℕ) → Option Event
event_of a answer server = if a.ident then told_of_ident a answer server else told_of_reconnect a answer
