-- What makes a connect of a side due, as a word. docs/PROTOCOL.md, "When a side connects". This project's own.
use Rattle.std.specs.Prelude.{if◌then◌else◌, Bool, List, [], ◌∷◌, codes, Option, Some, None}
use Rattle.m2_journal.specs.declared.entry.Entry.{Entry}
use Rattle.m2_journal.specs.declared.entry.Entry.TheVariants as entry
use Rattle.m2_journal.specs.State.{State}
use Rattle.m2_journal.specs.Steps.{is_waiting}
use Rattle.m2_session.specs.declared.session.Phase.{Phase}
use Rattle.m2_session.specs.declared.session.Phase.TheVariants.{Wait}
use Rattle.m2_session.specs.declared.session.Session.{Session}
use Rattle.m2_session.specs.Dials.{at_rest}
use Rattle.m2_session.specs.Phases as phase
use Rattle.m2_session.specs.SessionLaws.{takes}
use Rattle.m2_trace.specs.declared.dials.DialCause.{DialCause}
use Rattle.m2_trace.specs.declared.dials.DialCause.TheVariants as cause
use Rattle.m2_trace.specs.Words.{Text}

-- of a side at rest: what it has to write goes before a dial that was asked for
abbrev pub cause_at_rest : (waits wanted : Bool) → Option DialCause
cause_at_rest waits wanted = if waits then Some cause.Posted else if wanted then Some cause.Dialled else None

abbrev pub cause_in_phase : Phase → (waits wanted : Bool) → Option DialCause
cause_in_phase p waits wanted =
    if phase.is p Wait then Some cause.Waited else if phase.is_among p at_rest then cause_at_rest waits wanted else None

-- the moment aside. `waits`: something is kept or waits to be written; `wanted`: a dial was asked for that wasn't made yet. A server
-- never connects.
abbrev pub cause_of : Session → (waits wanted : Bool) → Option DialCause
cause_of s waits wanted = if s.policy.server then None else cause_in_phase s.phase waits wanted

-- where entries lead
abbrev pub cause_in : State → Option DialCause
cause_in s = cause_of s.session (is_waiting s) s.dials

-- Behind an ask that was judged and not taken it is the same. Behind any other entry it isn't known.
abbrev pub cause_after : Entry → Option DialCause → Option DialCause
cause_after (entry.Judged s a number given) c = if takes given then None else c
cause_after e c = None

abbrev pub cause_behind : Option DialCause → List Entry → Option DialCause
cause_behind c [] = c
cause_behind c (e ∷ es) = cause_behind (cause_after e c) es

abbrev pub cause_word : Option DialCause → Text
cause_word (Some cause.Posted) = codes " posted"
cause_word (Some cause.Dialled) = codes " dialled"
cause_word (Some cause.Waited) = codes " waited"
cause_word None = []
