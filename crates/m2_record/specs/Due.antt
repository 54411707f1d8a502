-- The first step of a record that is due, by a table: the first row that holds. The table is this project's profile
-- (docs/PROTOCOL.md has it in the same order).
use Rattle.std.specs.Prelude.{ℕ, ◌&&◌, ◌||◌, not, Bool, true, false, nat_le, List, [], ◌∷◌, slice_get, Option, Some, None}
use Rattle.std.specs.Option.{is_none, is_some}
use Rattle.m2_core.specs.Calls.{is_exhausted}
use Rattle.m2_core.specs.CoreNow.{may_dial}
use Rattle.m2_core.specs.Front.{resumption_at}
use Rattle.m2_core.specs.ToCompose.{to_compose}
use Rattle.m2_dispatch.specs.declared.parcel.Parcel.{Parcel}
use Rattle.m2_feed.specs.Calls.{is_empty}
use Rattle.m2_feed.specs.FeedNow.{FeedNow, Reading, shaking, framing}
use Rattle.m2_handshake.specs.m2_frame.Reading.{Front, judge, owed_at, start}
use Rattle.m2_handshake.specs.Moves.{is_at_rest}
use Rattle.m2_journal.specs.declared.facts.PlanStep.{PlanStep}
use Rattle.m2_session.specs.Table.{Row, row, first_that_holds}
use Rattle.m2_record.specs.declared.due.Due.{Due}
use Rattle.m2_record.specs.declared.due.Due.TheVariants as due
use Rattle.m2_record.specs.RecordNow.{RecordNow}

-- ---- words of the table

-- the plan's next step
abbrev pub next_step : RecordNow → Option PlanStep
next_step r = slice_get r.plan r.steps

abbrev pub has_parcel : List Parcel → Bool
has_parcel [] = false
has_parcel (x ∷ xs) = true

-- there is a feed, of which this holds
abbrev pub on_feed : (FeedNow → Bool) → Option FeedNow → Bool
on_feed has (Some v) = has v
on_feed has None = false

-- no text begins at the front, nor can one be refused there
abbrev pub is_start : Front → Bool
is_start start = true
is_start _ = false

-- nothing is to be done before more bytes come
abbrev pub rests : Reading → Bool
rests (shaking s) = is_at_rest s
rests (framing rest granted) = is_none (owed_at rest granted) && is_start (judge rest)

-- ---- its rows

-- a step is left, or the session is to be given up since a number that is needed next is above the greatest
abbrev pub has_plan : RecordNow → Bool
has_plan r = is_some (next_step r) || is_exhausted r.core

-- a dial is wanted, and no wait is on
abbrev pub may_connect : (now : ℕ) → RecordNow → Bool
may_connect now r = may_dial r.core && nat_le r.waits.next_dial now

-- bytes are composed, and the feed isn't held
abbrev pub may_write : RecordNow → Bool
may_write r = on_feed (λ v. not (is_empty v.composed) && not r.held) r.core.live.feed

-- the half or the decoder has an answer to what was read, or a resumption acknowledges more than was written
abbrev pub has_frame : RecordNow → Bool
has_frame r = on_feed (λ v. not (rests v.reading)) r.core.live.feed || is_some (resumption_at r.core)

-- nothing is to be composed
abbrev pub may_read : RecordNow → Bool
may_read r = on_feed (λ v. is_none (to_compose r.core)) r.core.live.feed

abbrev pub may_compose : RecordNow → Bool
may_compose r = is_some (to_compose r.core)

-- ---- the table

abbrev pub feed_rows : RecordNow → List (Row Due Due)
feed_rows r =
    row due.Write (may_write r) due.Write ∷
    row due.Frame (has_frame r) due.Frame ∷
    row due.Read (may_read r) due.Read ∷
    row due.Compose (may_compose r) due.Compose ∷ []

abbrev pub due_rows : (now : ℕ) → RecordNow → List (Row Due Due)
due_rows now r =
    row due.Plan (has_plan r) due.Plan ∷
    row due.Hand (has_parcel r.parcels) due.Hand ∷
    row (due.Connect r.waits.next_dial) (may_connect now r) (due.Connect r.waits.next_dial) ∷ feed_rows r

abbrev pub due_step : (now : ℕ) → RecordNow → Due
due_step now r = first_that_holds (due_rows now r) due.Nothing
