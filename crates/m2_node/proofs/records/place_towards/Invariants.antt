-- None of those that were looked at is towards that node.
use Rattle.std.proofs.Common.{◌≡◌, ◌==◌, ◌<◌, ℕ, false, Some}
use Rattle.std.specs.Prelude.{slice_get}
use Rattle.m2_script.specs.m2_record.RecordNow.{RecordNow}
use Rattle.m2_node.proofs.records.place_towards.Given as goal

abbrev pub invariant-records : goal.invariant-records
invariant-records g l = (k : ℕ) (r : RecordNow) → k < l.place → slice_get l.records k ≡ Some r → (r.place == l.peer) ≡ false
