-- How a program of one file ended: its exit code, and its line on standard error. This project's own.
use Rattle.std.specs.Prelude.{ℕ, List, [], codes}
use Rattle.m2_edge.specs.declared.whole.ReadFault.{ReadFault}
use Rattle.m2_edge.specs.declared.whole.ReadFault.TheVariants as faults
use Rattle.m2_program.specs.declared.status.ProgramStatus.{ProgramStatus}
use Rattle.m2_program.specs.declared.status.ProgramStatus.TheVariants.{Done, Usage, BadLine, ReadFault as ReadFailed, WriteFault, NoMemory}

abbrev pub code_of : ProgramStatus → ℕ
code_of Done = 0
code_of Usage = 1
code_of (BadLine complaint) = 2
code_of ReadFailed = 3
code_of WriteFault = 4
code_of NoMemory = 9

-- the line of each status, with its line feed, by the program's usage line; nothing where the work is done
abbrev pub line_of : List ℕ → ProgramStatus → List ℕ
line_of usage Done = []
line_of usage Usage = usage
line_of usage (BadLine complaint) = complaint.bytes
line_of usage ReadFailed = codes "read fault\n"
line_of usage WriteFault = codes "write fault\n"
line_of usage NoMemory = codes "no memory\n"

abbrev pub status_of_fault : ReadFault → ProgramStatus
status_of_fault faults.Failed = ReadFailed
status_of_fault faults.NoMemory = NoMemory

-- of a bad line, what is said of it is such a text
abbrev pub IsComplaint : ProgramStatus → (List ℕ → Type 0) → Type 0
IsComplaint (BadLine complaint) Is = Is complaint.bytes
IsComplaint _ Is = Unit {0}

-- there is a bad line, of which such a text is said, or memory ran out
abbrev pub IsRefusal : ProgramStatus → (List ℕ → Type 0) → Type 0
IsRefusal (BadLine complaint) Is = Is complaint.bytes
IsRefusal NoMemory Is = Unit {0}
IsRefusal _ Is = ⊥

-- a fault is answered only where it happened, in reading or in writing
abbrev pub IsCaused : ProgramStatus → (read written : Type 0) → Type 0
IsCaused ReadFailed read written = read
IsCaused WriteFault read written = written
IsCaused _ read written = Unit {0}
