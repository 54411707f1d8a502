-- What is said of a text that has no trace. This project's own.
use Rattle.std.specs.Prelude.{◌≡◌, ℕ, List, ◌++◌, codes, Option, Some, None, Err}
use Rattle.m2_program.specs.Complaint.{bad_line}
use Rattle.m2_record_trace.specs.Tracing.{Traces}
use Rattle.m2_record_trace.specs.declared.tracing.Untraced.{Untraced}
use Rattle.m2_record_trace.specs.declared.tracing.Untraced.TheVariants as untraced
use Rattle.m2_scenario.specs.declared.kind.Kind.{Kind}
use Rattle.m2_scenario.specs.declared.kind.Kind.TheVariants as kind

-- what is wrong about a line of a schedule
unfoldable pub reason_of : Kind → List ℕ
reason_of kind.Unknown = codes "a byte that no line has, or a first word that isn't known"
reason_of kind.Words = codes "a wrong number of words"
reason_of kind.Number = codes "a number that is malformed or out of its range"
reason_of kind.NoNode = codes "a side that isn't there"
reason_of kind.Taken = codes "a second pair"
reason_of kind.Policy = codes "a policy that isn't known, or two that no link can have"
reason_of kind.Hex = codes "a word that spells no bytes"
reason_of kind.Limit = codes "more than a schedule may have"
reason_of _ = codes "it can't be read"

unfoldable pub no_socket : List ℕ
no_socket = codes "a socket that isn't opened yet"

unfoldable pub bad_schedule : ℕ → List ℕ → List ℕ
bad_schedule line reason = bad_line (codes "schedule") line ++ codes ": " ++ reason ++ codes "\n"

-- want of memory has none
abbrev pub complaint_of : Untraced → Option (List ℕ)
complaint_of (untraced.BadLine line k) = Some (bad_schedule line (reason_of k))
complaint_of (untraced.NoSocket line) = Some (bad_schedule line no_socket)
complaint_of untraced.NoMemory = None

-- why these bytes have no trace, in this text
pub record IsComplaintOf (bytes text : List ℕ) : Type 0 where
  pub why : Untraced
  pub untraced : Traces (Err why) bytes
  pub told : complaint_of why ≡ Some text
