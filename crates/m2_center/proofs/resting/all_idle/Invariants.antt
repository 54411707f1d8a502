use Rattle.std.proofs.Common.{◌≡◌, drop}
use Rattle.std.specs.List.{list_all}
use Rattle.m2_turn.specs.RecordsTurn.{is_idle}
use Rattle.m2_center.proofs.resting.all_idle.Given as goal

-- those that were looked at are idle
abbrev pub invariant-idle : goal.invariant-idle
invariant-idle g l = list_all (is_idle l.now) (drop l.side-index l.records) ≡ list_all (is_idle l.now) l.records
