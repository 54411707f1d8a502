-- What each call of a core that makes an entry leaves of it. This project's own.
use Rattle.std.specs.Prelude.{◌≡◌, ℕ, ◌==◌, ◌||◌, Bool, true, false, List, ◌++◌, nat_lt, Option, Some}
use Rattle.std.specs.List.{list_any}
use Rattle.std.specs.Option.{option_to_list}
use Rattle.m2_session.specs.declared.ask.AskFacts.{AskFacts}
use Rattle.m2_session.specs.Asks as asks
use Rattle.m2_session.specs.Dials.{at_rest}
use Rattle.m2_control.specs.declared.fields.TheConstants.{GREATEST_NUMBER}
use Rattle.m2_fabric.specs.End.{SeenEnd}
use Rattle.m2_feed.specs.Calls.{at_opening}
use Rattle.m2_feed.specs.FeedNow.{FeedNow}
use Rattle.m2_journal.specs.Lawful.{dial_connect, where_so}
use Rattle.m2_journal.specs.OutFrames as out
use Rattle.m2_journal.specs.OutFrames.{OutFrame}
use Rattle.m2_journal.specs.SideFacts.{SideFacts, cookie_of, opener_half}
use Rattle.m2_journal.specs.Steps.{kept_of}
use Rattle.m2_queues.specs.OutQueues.{next_number}
use Rattle.m2_session.specs.declared.answer.Answer.{Answer}
use Rattle.m2_session.specs.declared.event.Event.{Event}
use Rattle.m2_session.specs.declared.event.Event.TheVariants as event
use Rattle.m2_session.specs.declared.session.Phase.TheVariants.{Connecting}
use Rattle.m2_session.specs.Phases as phase
use Rattle.m2_core.specs.LiveNow.{LiveNow}
use Rattle.m2_core.specs.Effects.{tells}
use Rattle.m2_core.specs.CoreNow.{CoreNow, may_dial}

-- ---- the plan

abbrev pub after_dial : CoreNow → CoreNow
after_dial c = record c { dials = c.dials || phase.is_among c.live.session.phase at_rest }

abbrev pub after_down : CoreNow → CoreNow
after_down c = record c { live = tells event.MarkedDown c.live; dials = false }

-- ---- numbers that are used up

-- the numbers that are needed next: that of the next message, that of a dial which is due, that of the next ask
abbrev pub needed : CoreNow → List ℕ
needed c =
    option_to_list (next_number c.live.out.queue)
    ++ where_so (may_dial c) (dial_connect c.live.session)
    ++ where_so (phase.is c.live.session.phase Connecting) c.live.session.connect

abbrev pub are_above : List ℕ → Bool
are_above numbers = list_any (nat_lt GREATEST_NUMBER) numbers

abbrev pub lacks_message_number : LiveNow → Bool
lacks_message_number l = are_above (option_to_list (next_number l.out.queue))

abbrev pub lacks_connect_number : CoreNow → Bool
lacks_connect_number c =
    are_above (where_so (may_dial c) (dial_connect c.live.session))
    || are_above (where_so (phase.is c.live.session.phase Connecting) c.live.session.connect)

abbrev pub is_exhausted : CoreNow → Bool
is_exhausted c = list_any (nat_lt GREATEST_NUMBER) (needed c)

-- ---- sockets

-- a socket that was opened is the feed; only room is left open
abbrev pub after_opened : FeedNow → CoreNow → CoreNow
after_opened v c = record c { live = record (tells event.Dialled c.live) { feed = Some v }; dials = false }

abbrev pub IsOpening : SideFacts → SeenEnd → FeedNow → Type 0
IsOpening f end v = v ≡ at_opening end (opener_half f) v

-- ---- asking

-- what the session is told where it asks with this number
abbrev pub ask_event : SideFacts → (ident : Bool) → (number : ℕ) → Event
ask_event f true number = event.AskedIdent (cookie_of f number)
ask_event f false number = event.AskedReconnect

-- an ident where no server cookie is kept
abbrev pub asks_ident : LiveNow → Bool
asks_ident l = l.session.server_cookie == 0

-- the ask, of a session that was told of it
abbrev pub ask_frame : (ident : Bool) → (number : ℕ) → LiveNow → OutFrame
ask_frame true number l = out.ident l.session.client_cookie number
ask_frame false number l = out.reconnect l.session.client_cookie l.session.server_cookie number l.session.connect l.last

-- ---- judging

abbrev pub answer_to : AskFacts → LiveNow → Answer
answer_to a l = asks.answer_to l.session a l.out.queue.written

abbrev pub event_of : SideFacts → AskFacts → ℕ → Answer → Option Event
event_of f a number answer = asks.event_of (kept_of f a) answer (cookie_of f number)
