-- What a node did since it was marked, as lines. This project's own.
use Rattle.std.specs.Prelude.{ℕ, zero, suc, ◌+◌, ◌-◌, ◌&&◌, count_by, not, if◌then◌else◌, Bool, true, false, List, [], ◌∷◌, ◌++◌, drop, length, slice_get, slice_set, Option, Some, None}
use Rattle.std.specs.List.{flat_map}
use Rattle.std.specs.Option.{is_none, is_some}
use Rattle.m2_dispatch.specs.declared.logged.Logged.{Logged}
use Rattle.m2_fabric.specs.declared.socket.SocketId.{SocketId}
use Rattle.m2_fabric.specs.Log.{Log}
use Rattle.m2_fabric.specs.Sockets.{same_socket}
use Rattle.m2_journal.specs.declared.entry.Entry.{Entry}
use Rattle.m2_journal.specs.declared.entry.Entry.TheVariants as entry
use Rattle.m2_promise.specs.m2_script.m2_record.RecordNow.{RecordNow}
use Rattle.m2_run_trace.specs.declared.dials.DialMark.{DialMark}
use Rattle.m2_run_trace.specs.declared.marks.EndMark.{EndMark}
use Rattle.m2_run_trace.specs.declared.news.Judgement.{Judgement}
use Rattle.m2_run_trace.specs.Cause.{cause_of_half, leaves_own}
use Rattle.m2_run_trace.specs.Dials.{with_mark}
use Rattle.m2_run_trace.specs.Dispatches.{call_line}
use Rattle.m2_run_trace.specs.Ends.{accepted_words, behind_read, closed_words, run_lines, trail_line}
use Rattle.m2_run_trace.specs.Entries.{calls_left, entry_before, lines_of}
use Rattle.m2_run_trace.specs.Marks.{MarksNow}
use Rattle.m2_run_trace.specs.Sockets.{comes_to, trail_in}
use Rattle.m2_run_trace.specs.Standing.{changed_lines}
use Rattle.m2_run_trace.specs.Telling.{TracedCenter, Telling, log_in}
use Rattle.m2_run_trace.specs.Throttle.{changed_throttle}
use Rattle.m2_trace.specs.Words.{Text}
use Rattle.m2_trail.specs.Trails.{TrailNow}

-- up to where a node's doings are told: of each record how many entries of its journal, and the calls of the dispatcher of fast
-- kinds that are left; and of each record what made a connect due where it was marked
pub record ToldNow : Type 0 where
  pub journals : List ℕ
  pub fast : List Logged
  pub dials : List DialMark

-- lines, and up to where all is told behind them
pub record Said : Type 0 where
  pub text : Text
  pub told : ToldNow

-- nothing more
abbrev pub silence : ToldNow → Said
silence told = record { text = []; told = told }

-- ---- what records did

-- the entries of a record's journal that aren't told yet, up to a place
abbrev pub up_to : Telling → (record_place to : ℕ) → ToldNow → Option ℕ → Option RecordNow → Said
up_to t place to told (Some from) (Some r) = record {
  text = lines_of t (with_mark r (slice_get told.dials place)) from (to - from) told.fast;
  told = record told { journals = slice_set told.journals place to; fast = calls_left r.journal from (to - from) told.fast };
}
up_to t place to told _ _ = silence told

abbrev pub journal_up_to : Telling → (record_place to : ℕ) → ToldNow → Said
journal_up_to t place to told = up_to t place to told (slice_get told.journals place) (slice_get t.center.records place)

-- one after the other
abbrev pub and_then : Said → (ToldNow → Said) → Said
and_then first next = record { text = first.text ++ (next first.told).text; told = (next first.told).told }

-- ---- judgements

abbrev pub is_judged_on : SocketId → Entry → Bool
is_judged_on s (entry.Judged other ask number answer) = same_socket s other
is_judged_on s e = false

-- behind the last of these entries by which an ask on the socket was judged; the first of them stands at a place
abbrev pub judged_by : SocketId → List Entry → (place : ℕ) → (found : Option ℕ) → Option ℕ
judged_by s [] place found = found
judged_by s (e ∷ es) place found = judged_by s es (place + 1) (if is_judged_on s e then Some (place + 1) else found)

-- of a record, from where its journal isn't told yet
abbrev pub judgement_by : (record_place : ℕ) → Option ℕ → Option Judgement
judgement_by place (Some entry) = Some (record { record_place = place; behind = entry })
judgement_by place None = None

abbrev pub judgement_at : SocketId → (record_place : ℕ) → Option ℕ → Option RecordNow → Option Judgement
judgement_at s place (Some from) (Some r) = judgement_by place (judged_by s (drop from r.journal) from None)
judgement_at s place _ _ = None

abbrev pub or_else : Option Judgement → Option Judgement → Option Judgement
or_else (Some j) other = Some j
or_else None other = other

-- the first of so many records, from a place on, that has judged an ask on the socket of which isn't told yet
abbrev pub judgement_from : SocketId → List ℕ → List RecordNow → (place count : ℕ) → Option Judgement
judgement_from s journals records place zero = None
judgement_from s journals records place (suc n) =
    or_else (judgement_at s place (slice_get journals place) (slice_get records place)) (judgement_from s journals records (place + 1) n)

-- ---- what halves did

-- a half of a marked socket: the log of its end, its trail if a record has taken it, and where its ask was judged if it was
pub record HalfNow : Type 0 where
  pub mark : EndMark
  pub log : Log
  pub trail : Option TrailNow
  pub judged : Option Judgement

abbrev pub is_move : Entry → Bool
is_move (entry.Read s count) = true
is_move (entry.Wrote s count) = true
is_move e = false

-- how many reads and writes it has made: those of its trail, or all of its end
abbrev pub moves_of : Option TrailNow → Log → ℕ
moves_of (Some t) log = count_by is_move t.entries
moves_of None log = length log.runs

-- behind which of them its ask was judged: the last of its trail, or the last read since the mark
abbrev pub asked_behind : Option TrailNow → Log → (from : ℕ) → ℕ
asked_behind (Some t) log from = moves_of (Some t) log
asked_behind None log from = behind_read (drop from log.runs) from from

-- by the entry another socket is closed
abbrev pub closes_another : SocketId → Entry → Bool
closes_another s (entry.Closed other) = not (same_socket s other)
closes_another s e = false

-- behind the entry at a place by which another socket is closed; else that place
abbrev pub behind_closing : SocketId → (place : ℕ) → Option Entry → ℕ
behind_closing s place (Some e) = if closes_another s e then place + 1 else place
behind_closing s place None = place

-- behind the entry at a place by which an acknowledgement is counted; else that place
abbrev pub behind_counting : (place : ℕ) → Option Entry → ℕ
behind_counting place (Some (entry.Acked number)) = place + 1
behind_counting place e = place

-- by this entry an ask was judged so that the side's own socket is left
abbrev pub leaves_own_by : Option Entry → Bool
leaves_own_by (Some (entry.Judged other ask number answer)) = leaves_own answer
leaves_own_by e = false

-- behind what is done by a judgement on the socket, whose entry stands before this place: another socket is closed, and then what
-- the ask acknowledges is counted
abbrev pub behind_judging : SocketId → List Entry → (place : ℕ) → ℕ
behind_judging s journal place =
    if leaves_own_by (entry_before journal place)
    then behind_counting (behind_closing s place (slice_get journal place)) (slice_get journal (behind_closing s place (slice_get journal place)))
    else place

abbrev pub judging_behind : SocketId → Option RecordNow → (place : ℕ) → ℕ
judging_behind s (Some r) place = behind_judging s r.journal place
judging_behind s None place = place

-- the entries of a record up to a judgement, with what it closed and counted by that
abbrev pub judgement_said : Telling → SocketId → Judgement → ToldNow → Said
judgement_said t s j told = journal_up_to t j.record_place (judging_behind s (slice_get t.center.records j.record_place) j.behind) told

-- its reads and writes since the mark, and between them what was done by its ask
abbrev pub moves_said : Telling → HalfNow → ToldNow → Option Judgement → Said
moves_said t h told None = record { text = run_lines t h.mark.socket h.log h.mark.runs (moves_of h.trail h.log - h.mark.runs); told = told }
moves_said t h told (Some j) =
    let asked = asked_behind h.trail h.log h.mark.runs in
    let said = judgement_said t h.mark.socket j told in
    record {
      text = run_lines t h.mark.socket h.log h.mark.runs (asked - h.mark.runs) ++ said.text ++ run_lines t h.mark.socket h.log asked (moves_of h.trail h.log - asked);
      told = said.told;
    }

-- where no record took it, that its end was closed since the mark
abbrev pub closing_of : Telling → HalfNow → Text
closing_of t h =
    if is_none h.trail && (h.log.closed && not h.mark.closed) then trail_line t (closed_words t.nodes h.mark.socket (cause_of_half (is_some h.judged) h.log)) else []

abbrev pub half_in : Telling → EndMark → Log → ToldNow → HalfNow
half_in t m log told = record {
  mark = m;
  log = log;
  trail = trail_in t.center.records m.socket;
  judged = judgement_from m.socket told.journals t.center.records 0 (length t.center.records);
}

abbrev pub half_said : Telling → HalfNow → ToldNow → Said
half_said t h told = record { text = (moves_said t h told h.judged).text ++ closing_of t h; told = (moves_said t h told h.judged).told }

-- of a socket that was opened to the node and has an end there
abbrev pub said_of : Telling → EndMark → ToldNow → Option Log → Said
said_of t m told (Some log) = if comes_to t m.socket then half_said t (half_in t m log told) told else silence told
said_of t m told None = silence told

abbrev pub halves_said : Telling → List EndMark → ToldNow → Said
halves_said t [] told = silence told
halves_said t (m ∷ ms) told = and_then (said_of t m told (log_in t.center m.socket)) (halves_said t ms)

-- ---- all of it

-- a socket that was accepted, or opened by the node, since the mark
abbrev pub accepted_line : Telling → EndMark → Text
accepted_line t m = if not m.there && is_some (log_in t.center m.socket) then trail_line t (accepted_words t.nodes m.socket) else []

abbrev pub journal_length : Option RecordNow → ℕ
journal_length (Some r) = length r.journal
journal_length None = 0

-- what so many records did besides, one after the other, from a place on
abbrev pub journals_said : Telling → (place count : ℕ) → ToldNow → Said
journals_said t place zero told = silence told
journals_said t place (suc n) told =
    and_then (journal_up_to t place (journal_length (slice_get t.center.records place)) told) (journals_said t (place + 1) n)

abbrev pub told_at : TracedCenter → MarksNow → ToldNow
told_at c m = record { journals = m.journals; fast = drop m.fast c.out.fast; dials = m.dials }

abbrev pub doings : Telling → List EndMark → ToldNow → Said
doings t ms told = and_then (halves_said t ms told) (journals_said t 0 (length t.center.records))

-- with the dispatches that are left: those at once, and then the queued ones
abbrev pub with_calls : Telling → (queued : ℕ) → Said → Text
with_calls t queued said = said.text ++ flat_map (call_line t) said.told.fast ++ flat_map (call_line t) (drop queued t.center.queued.inner)

-- the sockets that were accepted; what the halves did, each in its turn, with what the records did by their asks; what else the
-- records did; the dispatches that are left; where those records stand by it that stood otherwise before; and what the throttle has out
-- by it, where it had otherwise before
abbrev pub news : Telling → MarksNow → Text
news t m =
    flat_map (accepted_line t) m.ends ++ with_calls t m.queued (doings t m.ends (told_at t.center m))
    ++ changed_lines t m.standings 0 (length t.center.records) ++ changed_throttle t m.out

-- where there is no such node it did nothing
abbrev pub news_of : Option Telling → MarksNow → Text
news_of (Some t) m = news t m
news_of None m = []
