-- What stands before the frames of a file, a banner or nothing, and what is written of the file: the line of the banner,
-- and then those of the frames, each with its place in the file.
use Rattle.std.specs.Prelude.{◌≡◌, ℕ, ◌+◌, ◌⊎◌, IsTrue, List, [], take, Result, Ok, Err}
use Rattle.m2_control.specs.declared.banner.BannerStep.{BannerStep}
use Rattle.m2_control.specs.declared.banner.BannerStep.TheVariants as step
use Rattle.m2_control.specs.Banner.{banner_in}
use Rattle.m2_edge.specs.Sink.{SeenSink, TakesBytes, TakesPrefix}
use Rattle.m2_edge.specs.Source.{IsPrefixOf, IsWhereItWas, SeenSource}
use Rattle.m2_edge.specs.Whole.{StandsIn}
use Rattle.m2_edge.specs.declared.whole.ReadFault.{ReadFault}
use Rattle.m2_frame_facts.specs.declared.style.Style.{Style}
use Rattle.m2_frame_facts.specs.Line.{banner_line, line_of}
use Rattle.m2_frame.specs.Reading.{Item}
use Rattle.m2_listing.specs.declared.listing.Listing.{Listing}
use Rattle.m2_listing.specs.declared.listing.Listing.TheVariants as listing
use Rattle.m2_listing.specs.Listing.{Lists, terms}
use Rattle.m2_listing.specs.declared.listing.TheConstants.{LIMIT}
use Rattle.m2_listing.specs.Reading.{Grows}
use Rattle.m2_frame_facts.specs.declared.telling.Ended.{Ended}

-- these bytes are all that the reads gave so far, and they show whether a banner stands there, or the file ends with them
pub record IsHead (head : List ℕ) (src : SeenSource) : Type 0 where
  pub given : head ≡ src.given
  pub shows : banner_in head ≡ step.NotYet → IsTrue src.ended

-- how many bytes of the head a banner takes
abbrev pub used_in : BannerStep → ℕ
used_in (step.Got banner used) = used
used_in step.NotYet = 0
used_in step.BadBanner = 0

-- the line of what stands before the frames
abbrev pub front_line : Style → BannerStep → List ℕ
front_line form (step.Got banner used) = banner_line form banner
front_line form step.NotYet = []
front_line form step.BadBanner = []

-- the line of a frame, whose place is counted from the file's first byte
abbrev pub line_behind : Style → ℕ → ℕ → Item → List ℕ
line_behind form skipped place item = line_of form (skipped + place) item

-- The head of what was read says whether there is a banner, and how many bytes that has; its line was written, and then the
-- lines of the frames behind it.
pub record TellsFrames (form : Style) (ended : Ended) (src : SeenSource) (before after : SeenSink) : Type 0 where
  pub head : List ℕ
  pub at_head : SeenSource
  pub is_head : IsHead head at_head
  pub grows : Grows at_head src
  pub skipped : ended.skipped ≡ used_in (banner_in head)
  pub middle : SeenSink
  pub front : TakesBytes (front_line form (banner_in head)) before middle
  pub lists : Lists ended.listing (terms (take (used_in (banner_in head)) head) LIMIT (line_behind form (used_in (banner_in head)))) src middle after

-- before any frame was listed: of the line of what stands before them a prefix was written
abbrev pub TellsNothing : Style → SeenSource → SeenSink → SeenSink → Type 0
TellsNothing form src before after = (head : List ℕ) × IsPrefixOf head src.given × TakesPrefix (front_line form (banner_in head)) before after

-- for these causes it may end before any frame is listed
abbrev pub IsFault : Listing → Type 0
IsFault listing.ReadFault = Unit {0}
IsFault listing.WriteFault = Unit {0}
IsFault listing.NoMemory = Unit {0}
IsFault _ = ⊥

abbrev pub Tells : Style → Ended → SeenSource → SeenSink → SeenSink → Type 0
Tells form ended src before after = TellsFrames form ended src before after ⊎ (IsFault ended.listing × TellsNothing form src before after)

-- the source stands in the file of this name; where it failed, or memory did, it may stand where it was before
abbrev pub StandsBy : Listing → (name : List ℕ) → SeenSource → SeenSource → Type 0
StandsBy listing.ReadFault name old new = IsWhereItWas old new ⊎ StandsIn name old new
StandsBy listing.NoMemory name old new = IsWhereItWas old new ⊎ StandsIn name old new
StandsBy _ name old new = StandsIn name old new

-- the head of the file of this name was read, or reading it failed
abbrev pub BeginsIn : {X : Type 0} → Result X ReadFault → (name : List ℕ) → SeenSource → SeenSource → Type 0
BeginsIn (Ok _) name old new = StandsIn name old new
BeginsIn (Err _) name old new = IsWhereItWas old new ⊎ StandsIn name old new

-- the line of the banner is written, or a prefix of it
abbrev pub PutsFront : Result (Unit {0}) Listing → List ℕ → SeenSink → SeenSink → Type 0
PutsFront (Ok _) line old new = TakesBytes line old new
PutsFront (Err listing.WriteFault) line old new = TakesPrefix line old new
PutsFront (Err listing.NoMemory) line old new = new ≡ old
PutsFront (Err _) line old new = ⊥
