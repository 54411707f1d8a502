use Rattle.m2_fabric.specs.SimFabric.{closings_of}
use Rattle.m2_growth.proofs.Entering.{entered_keeps, entered_met}
use Rattle.m2_growth.proofs.Telling.{passed_met}
use Rattle.m2_growth.proofs.in_step_laws.meetings_stay_met.Goals as goal

pub returns : goal.returns
returns c = λ node old new meets step step_then has met.
    passed_met (closings_of node) meets.between new meets.passed step_then (entered_keeps node old meets.between meets.enters has).waiting
    (entered_met node old meets.between meets.enters step has met)
