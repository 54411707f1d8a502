-- The entries of a journal, and of a trail, as words. This project's own.
use Rattle.std.specs.Prelude.{Bool, true, false, List, [], ◌∷◌, ◌++◌, codes}
use Rattle.m2_session.specs.declared.ask.AskFacts.{AskFacts}
use Rattle.m2_fabric.specs.declared.socket.SocketId.{SocketId}
use Rattle.m2_journal.specs.declared.entry.Entry.{Entry}
use Rattle.m2_journal.specs.declared.entry.Entry.TheVariants as entry
use Rattle.m2_journal.specs.SideFacts.{SideFacts}
use Rattle.m2_session.specs.declared.answer.Answer.{Answer}
use Rattle.m2_session.specs.declared.answer.Answer.TheVariants as answer
use Rattle.m2_trace.specs.declared.rows.Held.{Held}
use Rattle.m2_trace.specs.Rows.{held_after, row_word}
use Rattle.m2_trace.specs.Words.{Text, number_word, socket_word, key_words, line}

-- which of the two asks
unfoldable pub ask_name : Bool → Text
ask_name true = codes " ident"
ask_name false = codes " reconnect"

-- the five numbers of an ask: both cookies, the global and the connect number, and what was seen
unfoldable pub cookies_words : AskFacts → Text
cookies_words a = number_word a.client ++ number_word a.server

unfoldable pub counts_words : AskFacts → Text
counts_words a = number_word a.global ++ number_word a.connect ++ number_word a.seen

unfoldable pub ask_words : AskFacts → Text
ask_words a = ask_name a.ident ++ cookies_words a ++ counts_words a

-- whether messages are thrown away
unfoldable pub full_word : Bool → Text
full_word true = codes " full"
full_word false = codes " part"

unfoldable pub answer_words : Answer → Text
answer_words answer.Accept = codes " accept"
answer_words answer.AcceptOver = codes " accept_over"
answer_words (answer.AcceptReset full) = codes " accept_reset" ++ full_word full
answer_words answer.AcceptAgain = codes " accept_again"
answer_words answer.AcceptReplace = codes " accept_replace"
answer_words answer.AcceptRace = codes " accept_race"
answer_words answer.Close = codes " close"
answer_words answer.Wait = codes " wait"
answer_words (answer.Reset full) = codes " reset" ++ full_word full
answer_words answer.ResetPending = codes " reset_pending"
answer_words (answer.RetryGlobal number) = codes " retry_global" ++ number_word number
answer_words (answer.Retry number) = codes " retry" ++ number_word number
answer_words answer.Resume = codes " resume"

-- an ask on a socket and its answer
unfoldable pub judged_words : SocketId → AskFacts → Answer → Text
judged_words socket ask given = socket_word socket ++ ask_words ask ++ answer_words given

-- whether the plan asked for it
unfoldable pub planned_word : Bool → Text
planned_word true = codes " planned"
planned_word false = codes " used_up"

-- the entry of a judgement has the global number that was drawn for it before its answer
unfoldable pub entry_words : Entry → Text
entry_words (entry.Post place) = codes " post" ++ number_word place
entry_words entry.Dial = codes " dial"
entry_words (entry.Opened socket) = codes " opened" ++ socket_word socket
entry_words (entry.Read socket count) = codes " read" ++ socket_word socket ++ number_word count
entry_words (entry.Wrote socket count) = codes " wrote" ++ socket_word socket ++ number_word count
entry_words (entry.Closed socket) = codes " closed" ++ socket_word socket
entry_words (entry.Judged socket ask number given) = codes " judged" ++ number_word number ++ judged_words socket ask given
entry_words (entry.Asked ident number) = codes " asked" ++ ask_name ident ++ number_word number
entry_words (entry.Numbered number) = codes " numbered" ++ number_word number
entry_words (entry.Accepted number key) = codes " accepted" ++ number_word number ++ key_words key
entry_words (entry.Acked number) = codes " acked" ++ number_word number
entry_words (entry.Obeyed full) = codes " obeyed" ++ full_word full
entry_words (entry.Down planned) = codes " down" ++ planned_word planned

-- the line of an entry of a trail
unfoldable pub entry_line : (side what : Text) → Entry → Text
entry_line side what e = line side what (entry_words e)

-- ---- a journal

-- behind a judgement the row by which the ask was answered, by what is held until then
abbrev pub row_told : Held → Entry → Text
row_told h (entry.Judged socket ask number given) = row_word h ask given
row_told h e = []

unfoldable pub journal_line : (side : Text) → Held → Entry → Text
journal_line side h e = line side (codes "journal") (entry_words e ++ row_told h e)

-- of entries that come where this is held
abbrev pub journal_lines : SideFacts → (side : Text) → Held → List Entry → Text
journal_lines f side h [] = []
journal_lines f side h (e ∷ es) = journal_line side h e ++ journal_lines f side (held_after f e h) es
