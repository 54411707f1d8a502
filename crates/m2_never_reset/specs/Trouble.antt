-- The trouble of an entry: what its step of the session throws away or sets back.
use Rattle.std.specs.Prelude.{ℕ, ◌+◌, if◌then◌else◌, length, Option, Some, None}
use Rattle.m2_session.specs.declared.event.Effects.{Effects}
use Rattle.m2_session.specs.declared.event.Event.{Event}
use Rattle.m2_session.specs.declared.session.Session.{Session}
use Rattle.m2_session.specs.Steps.{step_of}
use Rattle.m2_journal.specs.Items.{JournalItem}
use Rattle.m2_journal.specs.SideFacts.{SideFacts}
use Rattle.m2_journal.specs.State.{State}
use Rattle.m2_journal.specs.Steps.{event_at}
use Rattle.m2_never_reset.specs.Steps.{times}
use Rattle.m2_never_reset.specs.LinkOf.{letters}

-- one where messages are thrown away, and all that was accepted by either side where numbers are set back
abbrev pub trouble_by : Effects → (accepted : ℕ) → ℕ
trouble_by e accepted = times e.discard + (if e.set_back then accepted else 0)

abbrev pub trouble_told : Option Event → Session → (accepted : ℕ) → ℕ
trouble_told (Some e) s accepted = trouble_by (step_of s e).effects accepted
trouble_told None s accepted = 0

-- of an entry of the near side
abbrev pub trouble_at : SideFacts → JournalItem → (near far : State) → ℕ
trouble_at f i a b =
    trouble_told (event_at f i a) a.session (length (letters a.deliveries) + length (letters b.deliveries))
