-- How the program ended: its exit code, and its line on standard error. Codes and numbers of faults are those of the
-- command `frames` of `msgr2` (docs/FRAMES.md).
use Rattle.std.specs.Prelude.{ℕ, ◌+◌, min, ◌-◌, ◌^◌, List, [], ◌++◌, codes}
use Rattle.std.specs.Fmt.{decimal}
use Rattle.m2_frame.specs.declared.fault.FrameFault.{FrameFault}
use Rattle.m2_frame.specs.declared.fault.FrameFault.TheVariants as fault
use Rattle.m2_listing.specs.declared.listing.Listing.{Listing}
use Rattle.m2_listing.specs.declared.listing.Listing.TheVariants as listing
use Rattle.m2_frame_facts.specs.declared.status.FactsStatus.{FactsStatus}
use Rattle.m2_frame_facts.specs.declared.status.FactsStatus.TheVariants as status

abbrev pub number_of : FrameFault → ℕ
number_of fault.BadPreambleCrc = 1
number_of fault.BadCount = 2
number_of fault.LastEmpty = 3
number_of fault.Compressed = 4
number_of fault.BadTag = 5
number_of fault.BadSegments = 6
number_of fault.TooLong = 7
number_of (fault.BadSegmentCrc segment) = 8
number_of fault.BadLate = 9

abbrev pub status_of : ℕ → Listing → FactsStatus
status_of skipped listing.Whole = status.Done
status_of skipped (listing.Bad place f) = status.BadFrames (min (skipped + place) (2 ^ 64 - 1)) (number_of f)
status_of skipped (listing.Cut place) = status.BadFrames (min (skipped + place) (2 ^ 64 - 1)) 10
status_of skipped (listing.TooLong place) = status.BadFrames (min (skipped + place) (2 ^ 64 - 1)) 11
status_of skipped listing.ReadFault = status.ReadFault
status_of skipped listing.WriteFault = status.WriteFault
status_of skipped listing.NoMemory = status.NoMemory

abbrev pub code_of : FactsStatus → ℕ
code_of status.Done = 0
code_of status.Usage = 1
code_of status.ReadFault = 3
code_of status.WriteFault = 4
code_of status.NoMemory = 9
code_of (status.BadFrames place f) = 10

-- of a place where no frame stands, and the number of the fault
unfoldable pub fault_end : ℕ → List ℕ
fault_end f = codes " fault " ++ decimal f ++ codes "\n"

unfoldable pub bad_frames : ℕ → ℕ → List ℕ
bad_frames place f = codes "bad frames: place " ++ decimal place ++ fault_end f

-- its line, with a line feed; nothing where the work is done
abbrev pub line_of : FactsStatus → List ℕ
line_of status.Done = []
line_of status.Usage = codes "usage: frame_facts [--json] FILE\n"
line_of status.ReadFault = codes "read fault\n"
line_of status.WriteFault = codes "write fault\n"
line_of status.NoMemory = codes "no memory\n"
line_of (status.BadFrames place f) = bad_frames place f
