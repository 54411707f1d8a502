-- Where the records of a node stand, as lines. This project's own.
use Rattle.std.specs.Prelude.{ℕ, zero, suc, ◌+◌, ◌==◌, ◌&&◌, Bool, true, false, not, if◌then◌else◌, List, [], ◌++◌, codes, length, slice_get, Option, Some}
use Rattle.m2_dispatch.specs.m2_queues.OutQueues.{last_number}
use Rattle.m2_dispatch.specs.m2_shared.Gates.{dispatch, held}
use Rattle.m2_promise.specs.m2_script.m2_record.RecordNow.{RecordNow}
use Rattle.m2_run_trace.specs.declared.standing.Counts.{Counts}
use Rattle.m2_run_trace.specs.declared.standing.SessionMark.{SessionMark}
use Rattle.m2_run_trace.specs.Telling.{Telling}
use Rattle.m2_run_trace.specs.Words.{name_in, session_head}
use Rattle.m2_session.specs.declared.session.Session.{Session}
use Rattle.m2_session.specs.Phases as phase
use Rattle.m2_trace.specs.Sides.{session_words}
use Rattle.m2_trace.specs.Words.{Text, number_word}

-- how far its messages have come: the last that it accepted, what is granted for the one that is being read, up to which its own
-- are acknowledged, the last number that it gave, and how many have none
abbrev pub counts_of : RecordNow → Counts
counts_of r = record {
  accepted = r.core.live.last;
  granted = held r.core.live.granted dispatch;
  acked = r.core.live.out.queue.base;
  last = last_number r.core.live.out.queue;
  waiting = length r.core.live.out.queue.waiting;
}

-- its session, the moment before which no connect is due, and how far its messages have come
abbrev pub standing_of : RecordNow → SessionMark
standing_of r = record { session = r.core.live.session; next_dial = r.waits.next_dial; counts = counts_of r }

abbrev pub agree : Bool → Bool → Bool
agree true b = b
agree false b = not b

-- the same is told of both
abbrev pub is_same_session : Session → Session → Bool
is_same_session a b =
    phase.is a.phase b.phase && (a.client_cookie == b.client_cookie) && (a.server_cookie == b.server_cookie)
    && (a.peer_global == b.peer_global) && (a.connect == b.connect) && agree a.lost_ready b.lost_ready

abbrev pub are_same_counts : Counts → Counts → Bool
are_same_counts a b =
    (a.accepted == b.accepted) && (a.granted == b.granted) && (a.acked == b.acked) && (a.last == b.last) && (a.waiting == b.waiting)

abbrev pub is_same : SessionMark → SessionMark → Bool
is_same a b = is_same_session a.session b.session && (a.next_dial == b.next_dial) && are_same_counts a.counts b.counts

unfoldable pub counts_words : Counts → Text
counts_words c = number_word c.accepted ++ number_word c.granted ++ number_word c.acked ++ number_word c.last ++ number_word c.waiting

unfoldable pub standing_line : Telling → (peer : Text) → SessionMark → Text
standing_line t peer s = session_head t.own.name peer ++ session_words s.session ++ number_word s.next_dial ++ counts_words s.counts ++ codes "\n"

-- of a record that stood otherwise before
abbrev pub changed_line : Telling → Option SessionMark → Option RecordNow → Text
changed_line t (Some old) (Some r) = if is_same old (standing_of r) then [] else standing_line t (name_in t.nodes r.place) (standing_of r)
changed_line t _ _ = []

-- of so many records, from a place on, with where they stood before
abbrev pub changed_lines : Telling → List SessionMark → (place count : ℕ) → Text
changed_lines t olds place zero = []
changed_lines t olds place (suc n) = changed_line t (slice_get olds place) (slice_get t.center.records place) ++ changed_lines t olds (place + 1) n
