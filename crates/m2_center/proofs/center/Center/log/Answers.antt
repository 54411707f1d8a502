-- The log is that of a record's end, or else that of a half's.
use Rattle.m2_fabric.specs.Log.{log_of}
use Rattle.m2_center.proofs.Reached.{log_of_halves, log_of_records}
use Rattle.m2_center.proofs.center.Center.log.Goals as goal

pub returns-in-Some : goal.returns-in-Some
returns-in-Some g c = log_of_records _ _ c.self.view_is c.args.id.now c.as_slice.result.now c.as_slice.ensures.value (log_of c.in-Some.log.now) c.in-Some.ensures

pub returns-in-None : goal.returns-in-None
returns-in-None g c =
    log_of_halves _ _ c.self.view_is c.args.id.now c.as_slice.result.now c.as_slice.ensures.value _ c.as_slice-in-None.result.now c.as_slice-in-None.ensures.value c.in-None.ensures c.half_log.ensures
