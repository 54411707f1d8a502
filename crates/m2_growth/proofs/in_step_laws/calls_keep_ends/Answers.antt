use Rattle.std.specs.Prelude.{Some}
use Rattle.m2_fabric.specs.Kept.{between, chosen}
use Rattle.m2_fabric.specs.News.{logs_of}
use Rattle.m2_fabric.specs.SimFabric.{closings_of, fault_at, flow_of}
use Rattle.m2_growth.proofs.Entering.{entered_keeps}
use Rattle.m2_growth.proofs.Telling.{is_told_keeps, passes_keeps}
use Rattle.m2_growth.proofs.in_step_laws.calls_keep_ends.Goals as goal

pub returns : goal.returns
returns c = record {
  passing = λ what old new passed has. passes_keeps (Some what) old new passed has;
  entering = λ node old new enters has. entered_keeps node old new enters has;
  meetings = λ node old new meets has. passes_keeps (Some (closings_of node)) meets.between new meets.passed (entered_keeps node old meets.between meets.enters has);
  flows = λ a b socket most old new flows has. passes_keeps (flow_of a b socket most old.fabric.pairs) old new flows has;
  faults = λ a b socket old new faults has. is_told_keeps (fault_at a (logs_of old.holder) (chosen socket (between a b old.fabric.pairs))) old new faults has;
}
