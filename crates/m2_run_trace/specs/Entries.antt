-- What a record did, as lines. This project's own.
use Rattle.std.specs.Prelude.{ℕ, zero, suc, ◌+◌, ◌-◌, Bool, false, if◌then◌else◌, List, [], ◌++◌, codes, drop, length, slice_get, take, Option, Some, None}
use Rattle.m2_session.specs.declared.ask.AskFacts.{AskFacts}
use Rattle.m2_dispatch.specs.Heard.{is_path}
use Rattle.m2_dispatch.specs.declared.logged.Logged.{Logged}
use Rattle.m2_fabric.specs.declared.socket.SocketId.{SocketId}
use Rattle.m2_fabric.specs.Log.{Log}
use Rattle.m2_journal.specs.declared.entry.Entry.{Entry}
use Rattle.m2_journal.specs.declared.entry.Entry.TheVariants as entry
use Rattle.m2_journal.specs.Items.{runs_on}
use Rattle.m2_policy.specs.declared.path.Path.TheVariants.{Fast}
use Rattle.m2_promise.specs.m2_script.m2_record.RecordNow.{RecordNow}
use Rattle.m2_scenario.specs.declared.node.Node.{Node}
use Rattle.m2_session.specs.declared.answer.Answer.{Answer}
use Rattle.m2_trace.specs.Entries.{answer_words, ask_words, entry_words}
use Rattle.m2_trace.specs.Rows.{held_behind, row_word}
use Rattle.m2_trace.specs.Words.{Text, number_word}
use Rattle.m2_trail.specs.Trails.{written_by}
use Rattle.m2_run_trace.specs.Cause.{cause_in_journal}
use Rattle.m2_run_trace.specs.Dials.{MarkedNow, dial_word}
use Rattle.m2_run_trace.specs.Dispatches.{first_line}
use Rattle.m2_run_trace.specs.Ends.{closed_words, opened_words, read_words, wrote_words}
use Rattle.m2_run_trace.specs.Telling.{Telling, log_in}
use Rattle.m2_run_trace.specs.Words.{journal_head, name_in, socket_name}

-- an ask on a socket of the peer that was judged, with its global number and its answer
unfoldable pub judged_words : List Node → SocketId → AskFacts → (number : ℕ) → Answer → Text
judged_words nodes s ask number answer = codes " judged" ++ number_word number ++ codes " " ++ socket_name nodes s ++ (ask_words ask ++ answer_words answer)

-- all that an end put
abbrev pub put_of : Option Log → Text
put_of (Some log) = log.put
put_of None = []

-- the entry in front of the one at a place
abbrev pub entry_before : List Entry → (place : ℕ) → Option Entry
entry_before journal zero = None
entry_before journal (suc n) = slice_get journal n

-- where what an entry and those behind it put on a socket begins, of all that the end put
abbrev pub start_on : SocketId → List Entry → Option Log → ℕ
start_on s entries log = length (put_of log) - written_by (runs_on s entries)

-- the name of the row by which the ask that was judged at a place was answered, by what the entries before it have left
abbrev pub row_at : RecordNow → (place : ℕ) → AskFacts → Answer → Text
row_at r place ask answer = row_word (held_behind r.core.facts (take place r.journal)) ask answer

-- what the entry at a place of a record's journal tells; of a connect also what made it due
abbrev pub told_by : Telling → MarkedNow → (place : ℕ) → Entry → Text
told_by t m place (entry.Opened s) = opened_words t.nodes s (dial_word m place)
told_by t m place (entry.Read s count) = read_words t.nodes s count
told_by t m place (entry.Wrote s count) = let log = log_in t.center s in wrote_words t.nodes s count (start_on s (drop place m.kept.journal) log) (put_of log)
told_by t m place (entry.Closed s) = closed_words t.nodes s (cause_in_journal (entry_before m.kept.journal place) s (log_in t.center s))
told_by t m place (entry.Judged s ask number answer) = judged_words t.nodes s ask number answer ++ row_at m.kept place ask answer
told_by t m place e = entry_words e

unfoldable pub told_line : Telling → MarkedNow → (place : ℕ) → Entry → Text
told_line t m place e = journal_head t.own.name (name_in t.nodes m.kept.place) ++ told_by t m place e ++ codes "\n"

-- ---- with the dispatches of fast kinds

-- a message was accepted that is dispatched at once
abbrev pub is_fast : Entry → Bool
is_fast (entry.Accepted number key) = is_path key.path Fast
is_fast e = false

-- the line of an entry, and behind an accepted message of a fast kind that of its dispatch: the first call that isn't told yet
abbrev pub entry_lines : Telling → MarkedNow → (place : ℕ) → (calls : List Logged) → Option Entry → Text
entry_lines t m place calls (Some e) = told_line t m place e ++ (if is_fast e then first_line t calls else [])
entry_lines t m place calls None = []

-- the calls that are left behind it
abbrev pub calls_behind : (calls : List Logged) → Option Entry → List Logged
calls_behind calls (Some e) = if is_fast e then drop 1 calls else calls
calls_behind calls None = calls

-- so many entries of a record's journal, from a place on
abbrev pub lines_of : Telling → MarkedNow → (from count : ℕ) → (calls : List Logged) → Text
lines_of t m from zero calls = []
lines_of t m from (suc n) calls =
    entry_lines t m from calls (slice_get m.kept.journal from) ++ lines_of t m (from + 1) n (calls_behind calls (slice_get m.kept.journal from))

abbrev pub calls_left : (journal : List Entry) → (from count : ℕ) → (calls : List Logged) → List Logged
calls_left journal from zero calls = calls
calls_left journal from (suc n) calls = calls_left journal (from + 1) n (calls_behind calls (slice_get journal from))
