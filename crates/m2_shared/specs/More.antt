-- What asking for the grants that are missing does at each stage, and what giving them back does.
use Rattle.std.specs.Prelude.{◌≡◌, ℕ, Option, Some, None}
use Rattle.m2_shared.specs.Stages.{amount}
use Rattle.m2_shared.specs.Taking.{IsAnswer, IsGivenBack, Taking, TakesNothing, grant_of, taking}
use Rattle.m2_shared.specs.Throttle.{SeenGrant, SeenTakePass, SeenThrottle}
use Rattle.m2_shared.specs.declared.grants.Asked.{Asked}
use Rattle.m2_shared.specs.declared.grants.Asked.TheVariants as asked
use Rattle.m2_shared.specs.declared.more.More.{More}
use Rattle.m2_shared.specs.declared.more.More.TheVariants as more
use Rattle.m2_shared.specs.declared.stage.Stage.{Stage}
use Rattle.m2_shared.specs.declared.stage.Stage.TheVariants.{Messages, Bytes, Dispatch}
use Rattle.m2_shared.specs.declared.take.Take.TheVariants as take

-- ---- how a stage comes out

pub data Course : Type 0 where
  -- it has granted at the end
  passes : Course
  -- it was asked, and one has to wait by the word that it found
  is_full : (held : ℕ) → Course
  -- it was asked, and its word had changed
  had_changed : (seen now : ℕ) → Course
  -- it wasn't asked
  unasked : Course

-- Where the first stage named comes out otherwise, those before it have granted, and those behind it weren't asked.
abbrev pub until : Stage → Course → Stage → Course
until Messages refusal Messages = refusal
until Messages refusal Bytes = unasked
until Messages refusal Dispatch = unasked
until Bytes refusal Messages = passes
until Bytes refusal Bytes = refusal
until Bytes refusal Dispatch = unasked
until Dispatch refusal Messages = passes
until Dispatch refusal Bytes = passes
until Dispatch refusal Dispatch = refusal

abbrev pub course : More → Stage → Course
course more.Whole stage = passes
course (more.Full first held) stage = until first (is_full held) stage
course (more.Again first seen now) stage = until first (had_changed seen now) stage

-- From what a stage had granted to what it has then, where it is asked for n: what was there stays, and what is missing is asked for.
abbrev pub Goes : Course → Taking → ℕ → (before after : Option SeenGrant) → Type 0
Goes passes t n (Some g) after = (after ≡ Some g) × TakesNothing t
Goes passes t n None after = (after ≡ Some (grant_of t.throttle n)) × IsAnswer t n (take.Grant (grant_of t.throttle n))
Goes (is_full held) t n before after = (before ≡ None) × (after ≡ None) × IsAnswer t n (take.Full held)
Goes (had_changed seen now) t n before after = (before ≡ None) × (after ≡ None) × IsAnswer t n (take.Again seen now)
Goes unasked t n before after = (after ≡ before) × TakesNothing t

-- each stage goes as the answer says
abbrev pub Asks : More → (size : ℕ) → (Stage → SeenThrottle) → (old new : Stage → SeenTakePass) → (before after : Stage → Option SeenGrant) → Type 0
Asks answer size throttles old new before after = (stage : Stage) →
    Goes (course answer stage) (taking (throttles stage) (old stage) (new stage)) (amount stage size) (before stage) (after stage)

-- what each stage had granted comes back
abbrev pub GivesBack : (Stage → SeenThrottle) → (old new : Stage → SeenTakePass) → (Stage → Option SeenGrant) → Type 0
GivesBack throttles old new grants = (stage : Stage) → IsGivenBack (taking (throttles stage) (old stage) (new stage)) (grants stage)

-- ---- one stage by itself

abbrev pub asked_course : Asked → Course
asked_course asked.Given = passes
asked_course (asked.Full held) = is_full held
asked_course (asked.Again seen now) = had_changed seen now

abbrev pub more_at : Stage → Asked → More
more_at stage asked.Given = more.Whole
more_at stage (asked.Full held) = more.Full stage held
more_at stage (asked.Again seen now) = more.Again stage seen now
