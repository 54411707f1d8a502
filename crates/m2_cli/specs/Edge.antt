-- What a call may have done to the outside: what is seen of the source, of standard output and of standard error,
-- before it and after it.
use Rattle.std.specs.Prelude.{◌+◌, ◌≤◌, ◌⊎◌, List, ℕ}
use Rattle.m2_edge.specs.Faults.{HasRisen}
use Rattle.m2_edge.specs.Sink.{SeenSink}
use Rattle.m2_edge.specs.Source.{SeenSource, IsWhereItWas}
use Rattle.m2_edge.specs.Whole.{StandsIn, IsReadUpTo}
use Rattle.m2_scenario_text.specs.declared.reading.TheConstants.{MOST_BYTES}
use Rattle.m2_cli.specs.declared.status.Status.{Status}
use Rattle.m2_cli.specs.declared.status.Status.TheVariants.{Done, Usage, BadScenario, ReadFault, WriteFault, BindFault, Unfit, Stalled, Left, NoMemory, BadFrames}

pub record Edge : Type 0 where
  pub source : SeenSource
  pub out : SeenSink
  pub err : SeenSink

-- the three of them
abbrev pub edge : SeenSource → SeenSink → SeenSink → Edge
edge source out err = record { source = source; out = out; err = err }

-- ---- faults: one happened in this call where the count has risen

abbrev pub SourceFailed : Edge → Edge → Type 0
SourceFailed before after = HasRisen before.source.faults after.source.faults

abbrev pub OutFailed : Edge → Edge → Type 0
OutFailed before after = HasRisen before.out.faults after.out.faults

abbrev pub ErrFailed : Edge → Edge → Type 0
ErrFailed before after = HasRisen before.err.faults after.err.faults

-- A read fault is answered only where the source failed, and a write fault only where one of the sinks did. The other
-- statuses have no such cause.
abbrev pub IsCause : Status → Edge → Edge → Type 0
IsCause ReadFault before after = SourceFailed before after
IsCause WriteFault before after = OutFailed before after ⊎ ErrFailed before after
IsCause Done before after = Unit {0}
IsCause Usage before after = Unit {0}
IsCause (BadScenario line kind) before after = Unit {0}
IsCause (Left count) before after = Unit {0}
IsCause NoMemory before after = Unit {0}
IsCause (BadFrames place fault) before after = Unit {0}
IsCause (BindFault node) before after = Unit {0}
IsCause (Unfit socket opener place why) before after = Unit {0}
IsCause (Stalled left) before after = Unit {0}

-- the status has its cause, and no count of faults falls
pub record HasCauses (status : Status) (before after : Edge) : Type 0 where
  pub source_never_falls : before.source.faults ≤ after.source.faults
  pub out_never_falls : before.out.faults ≤ after.out.faults
  pub err_never_falls : before.err.faults ≤ after.err.faults
  pub cause : IsCause status before after

-- ---- reading

-- so many bytes of a file are read at most: as a scenario may have, and one more, which tells that it is too long
abbrev pub read_limit : ℕ
read_limit = MOST_BYTES + 1

-- the file was never begun, and the source is as it was; or it was begun, and any prefix of it was read
abbrev pub StandsSomewhere : List ℕ → SeenSource → SeenSource → Type 0
StandsSomewhere file old new = IsWhereItWas old new ⊎ StandsIn file old new

-- what the source gave is the whole of the file, or its first bytes to the one past the limit
pub record IsReadWhole (file : List ℕ) (old new : SeenSource) : Type 0 where
  pub stands : StandsIn file old new
  pub whole : IsReadUpTo read_limit new.given new
