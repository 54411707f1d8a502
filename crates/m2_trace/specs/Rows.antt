-- The row that gave the answer to an ask, as a word. The rows are those of docs/PROTOCOL.md, "An ident is judged" and "A reconnect
-- is judged". This project's own.
use Rattle.std.specs.Prelude.{ℕ, ◌&&◌, if◌then◌else◌, Bool, true, false, List, [], ◌∷◌, codes, Option, Some, None}
use Rattle.m2_journal.specs.declared.entry.Entry.{Entry}
use Rattle.m2_journal.specs.declared.entry.Entry.TheVariants as entry
use Rattle.m2_journal.specs.declared.facts.NodeFacts.{NodeFacts}
use Rattle.m2_journal.specs.SideFacts.{SideFacts, cookie_of}
use Rattle.m2_session.specs.declared.answer.Answer.{Answer}
use Rattle.m2_session.specs.declared.answer.Answer.TheVariants as answer
use Rattle.m2_session.specs.declared.ask.AskFacts.{AskFacts}
use Rattle.m2_session.specs.declared.session.Phase.TheVariants.{Absent}
use Rattle.m2_session.specs.declared.session.Session.{Session}
use Rattle.m2_session.specs.Asks.{reconnect_of}
use Rattle.m2_session.specs.Conditions.{differs, is_kept}
use Rattle.m2_session.specs.Ident as ident
use Rattle.m2_session.specs.Ident.{IdentRow, ident_rows}
use Rattle.m2_session.specs.Phases as phase
use Rattle.m2_session.specs.Reconnect as reconnect
use Rattle.m2_session.specs.Reconnect.{ReconnectRow, reconnect_rows}
use Rattle.m2_session.specs.SessionLaws.{takes}
use Rattle.m2_session.specs.Table.{Row}
use Rattle.m2_trace.specs.declared.rows.Held.{Held}
use Rattle.m2_trace.specs.Words.{Text}

-- ---- by the tables

-- the name of the first row that holds
abbrev pub first_row : {N A : Type 0} → List (Row N A) → Option N
first_row [] = None
first_row (r ∷ rows) = if r.holds then Some r.name else first_row rows

-- where no row holds this node has won the race
abbrev pub ident_row_word : Option IdentRow → Text
ident_row_word (Some ident.no_session) = codes " no_session"
ident_row_word (Some ident.old_number) = codes " old_number"
ident_row_word (Some ident.lossy) = codes " lossy"
ident_row_word (Some ident.another_client) = codes " another_client"
ident_row_word (Some ident.same_client) = codes " same_client"
ident_row_word (Some ident.settled) = codes " settled"
ident_row_word (Some ident.peer_wins) = codes " peer_wins"
ident_row_word None = codes " mine_wins"

-- where no row holds the session goes on
abbrev pub reconnect_row_word : Option ReconnectRow → Text
reconnect_row_word (Some reconnect.no_session) = codes " no_session"
reconnect_row_word (Some reconnect.another_client) = codes " another_client"
reconnect_row_word (Some reconnect.never_established) = codes " never_established"
reconnect_row_word (Some reconnect.another_server) = codes " another_server"
reconnect_row_word (Some reconnect.old_number) = codes " old_number"
reconnect_row_word (Some reconnect.old_connect) = codes " old_connect"
reconnect_row_word (Some reconnect.mine_wins) = codes " mine_wins"
reconnect_row_word (Some reconnect.never_written) = codes " never_written"
reconnect_row_word None = codes " goes_on"

-- the row of the ask's table by which this session answers it
abbrev pub row_in_table : Session → AskFacts → (written : ℕ) → Text
row_in_table s a written =
    if a.ident then ident_row_word (first_row (ident_rows s a.client a.global))
    else reconnect_row_word (first_row (reconnect_rows s (reconnect_of a) written))

-- ---- by the answer

-- each answer to an ident is that of one row
abbrev pub row_of_ident : Answer → Text
row_of_ident answer.Accept = codes " no_session"
row_of_ident answer.Close = codes " old_number"
row_of_ident answer.AcceptOver = codes " lossy"
row_of_ident (answer.AcceptReset full) = codes " another_client"
row_of_ident answer.AcceptAgain = codes " same_client"
row_of_ident answer.AcceptReplace = codes " settled"
row_of_ident answer.AcceptRace = codes " peer_wins"
row_of_ident _ = codes " mine_wins"

-- three rows answer a reconnect by a reset: which of them did says what was held of a session
abbrev pub row_of_reset : Held → AskFacts → Text
row_of_reset h a = if h.absent then codes " no_session" else if differs h.client a.client then codes " another_client" else codes " another_server"

-- each other answer to a reconnect is that of one row
abbrev pub row_of_reconnect : Held → AskFacts → Answer → Text
row_of_reconnect h a (answer.Reset full) = row_of_reset h a
row_of_reconnect h a answer.ResetPending = codes " never_established"
row_of_reconnect h a (answer.RetryGlobal number) = codes " old_number"
row_of_reconnect h a (answer.Retry number) = codes " old_connect"
row_of_reconnect h a answer.Wait = codes " mine_wins"
row_of_reconnect h a answer.Close = codes " never_written"
row_of_reconnect h a _ = codes " goes_on"

abbrev pub row_word : Held → AskFacts → Answer → Text
row_word h a given = if a.ident then row_of_ident given else row_of_reconnect h a given

-- ---- what is held

abbrev pub held_of : Session → Held
held_of s = record { absent = phase.is s.phase Absent; client = s.client_cookie }

abbrev pub nothing_held : Held
nothing_held = record { absent = true; client = 0 }

-- a client's ident that is accepted names the session
abbrev pub held_judging : AskFacts → Answer → Held → Held
held_judging a given h = if a.ident && takes given then record { absent = false; client = a.client } else h

-- a cookie is drawn where none is kept
abbrev pub held_asking : SideFacts → Bool → (number : ℕ) → Held → Held
held_asking f true number h = record { absent = false; client = (if is_kept h.client then h.client else cookie_of f number) }
held_asking f false number h = h

abbrev pub held_obeying : Bool → Held → Held
held_obeying full h = record h { client = (if full then 0 else h.client) }

-- behind an entry, of a session that isn't lossy: what is read, and a socket that breaks, change nothing of it
abbrev pub held_after : SideFacts → Entry → Held → Held
held_after f (entry.Opened s) h = record h { absent = false }
held_after f (entry.Judged s a number given) h = held_judging a given h
held_after f (entry.Asked by_ident number) h = held_asking f by_ident number h
held_after f (entry.Obeyed full) h = held_obeying full h
held_after f (entry.Down planned) h = nothing_held
held_after f e h = h

abbrev pub held_from : SideFacts → Held → List Entry → Held
held_from f h [] = h
held_from f h (e ∷ es) = held_from f (held_after f e h) es

-- behind the entries of a journal from its beginning
abbrev pub held_behind : SideFacts → List Entry → Held
held_behind f journal = held_from f nothing_held journal

-- what never changes of a record, by its session and by what its node tells it
abbrev pub side_of : Session → NodeFacts → SideFacts
side_of s node = record { mine = s.mine; peer = s.peer; policy = s.policy; node = node }
