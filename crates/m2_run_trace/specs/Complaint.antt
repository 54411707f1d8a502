-- What is said of a text that has no trace. This project's own.
use Rattle.std.specs.Prelude.{◌≡◌, ℕ, List, ◌++◌, codes, Option, Some, None, Err}
use Rattle.std.specs.Fmt.{decimal}
use Rattle.m2_program.specs.Complaint.{bad_line}
use Rattle.m2_run_trace.specs.Tracing.{Traces}
use Rattle.m2_run_trace.specs.declared.tracing.Untraced.{Untraced}
use Rattle.m2_run_trace.specs.declared.tracing.Untraced.TheVariants as untraced
use Rattle.m2_scenario.specs.declared.kind.Kind.{Kind}
use Rattle.m2_scenario.specs.Kind.{number_of_kind}
use Rattle.m2_scenario_text.specs.Flaw.{kind_of}

unfoldable pub bad_scenario : ℕ → Kind → List ℕ
bad_scenario line k = bad_line (codes "scenario") line ++ codes " kind " ++ decimal (number_of_kind k) ++ codes "\n"

-- want of memory has none
abbrev pub complaint_of : Untraced → Option (List ℕ)
complaint_of (untraced.BadLine line flaw) = Some (bad_scenario line (kind_of flaw.wanted))
complaint_of untraced.NoMemory = None

-- why these bytes have no trace, in this text
pub record IsComplaintOf (bytes text : List ℕ) : Type 0 where
  pub why : Untraced
  pub untraced : Traces (Err why) bytes
  pub told : complaint_of why ≡ Some text
