use Rattle.std.proofs.Common.{Bor, ◌∙◌}
use Rattle.m2_fabric.specs.declared.log.EndLog.{EndLog}
use Rattle.m2_fabric.specs.Log.{log_of}
use Rattle.m2_turn.specs.Halves.{halves_of}
use Rattle.m2_turn.specs.Hearing.{ends_in}
use Rattle.m2_center.proofs.Reached.{has_found}
use Rattle.m2_center.proofs.reaching.has_half.Goals as goal

pub returns : goal.returns
returns g c =
    c.is_some.ensures
    ∙ has_found c.half_log.result (λ (log : Bor EndLog). log_of log.now) c.args.id.now (ends_in (halves_of c.args.halves.now c.args.loose.now)) c.half_log.ensures
