-- What the program told, by its words. This project's own.
use Rattle.std.specs.Prelude.{◌≡◌, ◌⊎◌, ℕ, false, List, [], ◌∷◌, Option, Some, None, codes, if◌then◌else◌}
use Rattle.std.specs.Str.{bytes_eq}
use Rattle.m2_edge.specs.Sink.{SeenSink}
use Rattle.m2_edge.specs.Source.{SeenSource}
use Rattle.m2_frame_facts.specs.declared.style.Style.{Style}
use Rattle.m2_frame_facts.specs.declared.style.Style.TheVariants as style
use Rattle.m2_frame_facts.specs.declared.telling.Ended.{Ended}
use Rattle.m2_frame_facts.specs.declared.status.FactsStatus.{FactsStatus}
use Rattle.m2_frame_facts.specs.declared.status.FactsStatus.TheVariants as status
use Rattle.m2_frame_facts.specs.Ended.{status_of}
use Rattle.m2_frame_facts.specs.Head.{StandsBy, Tells}

-- what the words ask for: a form, and the file of a name
pub record AskedNow : Type 0 where
  pub form : Style
  pub file : List ℕ

-- where they are words of this program
abbrev pub asked_in : List (List ℕ) → Option AskedNow
asked_in (file ∷ []) = Some (record { form = style.Line; file = file })
asked_in (option ∷ file ∷ []) = if bytes_eq option (codes "--json") then Some (record { form = style.Json; file = file }) else None
asked_in _ = None

-- that file was told in that form, and how that ended is answered, but for a fault of an output or want of memory
pub record IsTold (asked : AskedNow) (answer : FactsStatus) (old new : SeenSource) (before after : SeenSink) : Type 0 where
  pub ended : Ended
  pub middle : SeenSink
  pub stands : StandsBy ended.listing asked.file old new
  pub tells : Tells asked.form ended new before middle
  pub same : after.taken ≡ middle.taken
  pub answered : (answer ≡ status_of ended.skipped ended.listing) ⊎ (answer ≡ status.WriteFault) ⊎ (answer ≡ status.NoMemory)

-- other words are answered as such: nothing is read, and nothing is told
abbrev pub TellsAs : Option AskedNow → FactsStatus → SeenSource → SeenSource → SeenSink → SeenSink → Type 0
TellsAs (Some asked) answer old new before after = IsTold asked answer old new before after
TellsAs None answer old new before after =
    (new ≡ old) × (after ≡ before) × ((answer ≡ status.Usage) ⊎ (answer ≡ status.WriteFault) ⊎ (answer ≡ status.NoMemory))

-- a fault is answered only where it happened, in reading or in writing
abbrev pub IsCaused : FactsStatus → (read written : Type 0) → Type 0
IsCaused status.ReadFault read written = read
IsCaused status.WriteFault read written = written
IsCaused _ read written = Unit {0}

-- a source of which nothing was begun, and a sink that took nothing; neither knows more
abbrev pub new_source : SeenSource
new_source = record { faults = 0; given = []; ended = false; begun = None; inputs = λ _. None }

abbrev pub new_sink : SeenSink
new_sink = record { faults = 0; taken = []; flushed = [] }
