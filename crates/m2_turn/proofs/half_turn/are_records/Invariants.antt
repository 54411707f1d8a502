use Rattle.std.specs.List.{All}
use Rattle.std.specs.Prelude.{take}
use Rattle.m2_record.specs.IsRecord.{IsRecord}
use Rattle.m2_turn.proofs.half_turn.are_records.Given as goal

abbrev pub invariant-records : goal.invariant-records
invariant-records g l = All IsRecord (take l.side-index l.records)
