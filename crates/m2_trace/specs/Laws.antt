-- What a reader expects of the words of a trace.
use Rattle.std.specs.Prelude.{◌≡◌, ℕ, ◌⊎◌, Bool, true, false, List, [], ◌∷◌, ◌++◌, Some}
use Rattle.std.specs.Option.{is_some}
use Rattle.m2_fabric.specs.declared.socket.SocketId.{SocketId}
use Rattle.m2_journal.specs.declared.entry.Entry.{Entry}
use Rattle.m2_journal.specs.declared.entry.Entry.TheVariants as entry
use Rattle.m2_journal.specs.Items.{Sources, items_of}
use Rattle.m2_journal.specs.Replay.{AreLawful, replay}
use Rattle.m2_journal.specs.SideFacts.{SideFacts}
use Rattle.m2_journal.specs.State.{State, start}
use Rattle.m2_session.specs.declared.answer.Answer.{Answer}
use Rattle.m2_session.specs.declared.ask.AskFacts.{AskFacts}
use Rattle.m2_session.specs.declared.session.Session.{Session}
use Rattle.m2_session.specs.Dials.{dials}
use Rattle.m2_trace.specs.declared.dials.DialCause.{DialCause}
use Rattle.m2_trace.specs.Dials.{cause_behind, cause_in, cause_of}
use Rattle.m2_trace.specs.Rows.{held_behind, row_in_table, row_word}

-- the row of its table by which an ask is answered in this state
abbrev pub row_at : State → AskFacts → List ℕ
row_at s a = row_in_table s.session a s.out.queue.written

-- The word told of a judgement is the name of the first row of its table that holds where the entries before it lead. The session
-- that judges a reconnect isn't lossy here: a side that keeps no server cookie, as a lossy one, asks by an ident.
abbrev pub RowsAreTold : Type 0
RowsAreTold = (f : SideFacts) (sources : Sources) (before : List Entry) (socket : SocketId) (a : AskFacts) (number : ℕ) (given : Answer) →
    AreLawful f (items_of sources (before ++ entry.Judged socket a number given ∷ [])) (start f) →
    (a.ident ≡ true) ⊎ (f.policy.lossy ≡ false) →
    row_word (held_behind f before) a given ≡ row_at (replay f sources before) a

-- There is a cause exactly where a connect is due, the moment aside.
abbrev pub CausesAreOfDials : Type 0
CausesAreOfDials = (s : Session) (waits wanted : Bool) → is_some (cause_of s waits wanted) ≡ dials s waits wanted

-- The cause told of a connect is what makes one due where the entries before it lead: it is told by where the first of them led,
-- and by the entries since then.
abbrev pub ConnectsAreTold : Type 0
ConnectsAreTold = (f : SideFacts) (sources : Sources) (before since : List Entry) (c : DialCause) →
    AreLawful f (items_of sources (before ++ since)) (start f) →
    cause_behind (cause_in (replay f sources before)) since ≡ Some c →
    cause_in (replay f sources (before ++ since)) ≡ Some c
