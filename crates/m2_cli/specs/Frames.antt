-- What `frames FILE` leaves, by its status. The numbers of faults are this project's own (docs/FRAMES.md).
use Rattle.std.specs.Prelude.{◌≡◌, ◌≢◌, ℕ, ◌⊎◌, List, []}
use Rattle.m2_edge.specs.Faults.{HasRisen}
use Rattle.m2_edge.specs.Sink.{SeenSink, IsFlushed}
use Rattle.m2_edge.specs.Source.{IsWhereItWas, SeenSource}
use Rattle.m2_edge.specs.Whole.{StandsIn}
use Rattle.m2_frame.specs.declared.fault.FrameFault.{FrameFault}
use Rattle.m2_frame.specs.declared.fault.FrameFault.TheVariants as fault
use Rattle.m2_frame.specs.Reading.{Item}
use Rattle.m2_listing.specs.Listing.{Lists, ListsPrefix, Terms, terms}
use Rattle.m2_listing.specs.declared.listing.Listing.{Listing}
use Rattle.m2_listing.specs.declared.listing.Listing.TheVariants as listing
use Rattle.m2_cli.specs.Edge.{Edge, SourceFailed, OutFailed, StandsSomewhere}
use Rattle.m2_cli.specs.Lines.{line_of}
use Rattle.m2_cli.specs.declared.frames.TheConstants.{LIMIT}
use Rattle.m2_cli.specs.declared.status.Status.{Status}
use Rattle.m2_cli.specs.declared.status.Status.TheVariants.{Done, Usage, BadScenario, ReadFault, WriteFault, BindFault, Unfit, Stalled, Left, NoMemory, BadFrames}

-- the number of a frame's fault, in the order in which they are judged
abbrev pub number_of_fault : FrameFault → ℕ
number_of_fault fault.BadPreambleCrc = 1
number_of_fault fault.BadCount = 2
number_of_fault fault.LastEmpty = 3
number_of_fault fault.Compressed = 4
number_of_fault fault.BadTag = 5
number_of_fault fault.BadSegments = 6
number_of_fault fault.TooLong = 7
number_of_fault (fault.BadSegmentCrc segment) = 8
number_of_fault fault.BadLate = 9

-- 10 where the file ends inside a frame, 11 where it goes on beyond the limit
abbrev pub status_of_listing : Listing → Status
status_of_listing listing.Whole = Done
status_of_listing (listing.Bad place f) = BadFrames place (number_of_fault f)
status_of_listing (listing.Cut place) = BadFrames place 10
status_of_listing (listing.TooLong place) = BadFrames place 11
status_of_listing listing.ReadFault = ReadFault
status_of_listing listing.WriteFault = WriteFault
status_of_listing listing.NoMemory = NoMemory

-- the line of a frame, wherever it stands
abbrev pub plain_line : (place : ℕ) → Item → List ℕ
plain_line place item = line_of item

-- what is listed of a file: all of it, up to the limit
abbrev pub of_file : Terms
of_file = terms [] LIMIT plain_line

-- the source stands in the file; where it failed it may stand where it was before
abbrev pub StandsBy : Listing → (file : List ℕ) → SeenSource → SeenSource → Type 0
StandsBy listing.ReadFault file old new = IsWhereItWas old new ⊎ StandsIn file old new
StandsBy _ file old new = StandsIn file old new

-- a prefix of the lines of a prefix of the file was written
pub record IsListedInPart (file : List ℕ) (before after : Edge) : Type 0 where
  pub stands : StandsSomewhere file before.source after.source
  pub lists : ListsPrefix of_file after.source before.out after.out

-- What `frames FILE` leaves, by what its work came to.
-- Done: the file is frames and nothing else, and each has its line. BadFrames: each frame before the place has
-- its line, and there the file stops being frames for exactly the cause that the number says. ReadFault,
-- WriteFault and NoMemory: a prefix of the lines was written. With Done, BadFrames and ReadFault all that was
-- written is flushed. It never comes to the statuses of a scenario.
abbrev pub ListsFile : List ℕ → Status → Edge → Edge → Type 0
ListsFile file Done before after = StandsIn file before.source after.source × Lists listing.Whole of_file after.source before.out after.out × IsFlushed after.out
ListsFile file (BadFrames place fault) before after =
    StandsIn file before.source after.source
    × ((l : Listing) × (status_of_listing l ≡ BadFrames place fault) × Lists l of_file after.source before.out after.out) × IsFlushed after.out
ListsFile file ReadFault before after = SourceFailed before after × IsListedInPart file before after × IsFlushed after.out
ListsFile file WriteFault before after = OutFailed before after × IsListedInPart file before after
ListsFile file NoMemory before after = IsListedInPart file before after
ListsFile file Usage before after = ⊥
ListsFile file (BadScenario line kind) before after = ⊥
ListsFile file (Left count) before after = ⊥
ListsFile file (BindFault node) before after = ⊥
ListsFile file (Unfit socket opener place why) before after = ⊥
ListsFile file (Stalled left) before after = ⊥

-- a listing whose lines were passed on, or couldn't be; by what is seen of the output before that and after
abbrev pub IsPassedOn : Listing → Listing → SeenSink → SeenSink → Type 0
IsPassedOn listed result old new =
    ((result ≡ listed) × (listed ≢ listing.WriteFault → IsFlushed new)) ⊎ ((result ≡ listing.WriteFault) × HasRisen old.faults new.faults)
