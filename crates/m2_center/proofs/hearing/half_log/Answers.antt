use Rattle.std.proofs.Common.{map, ◌∙◌}
use Rattle.m2_fabric.specs.Log.{log_of}
use Rattle.m2_trail.specs.Arrivals.{LooseNow}
use Rattle.m2_turn.specs.Sessions.{PendingNow}
use Rattle.m2_turn.proofs.Lending.{first_part, second_part}
use Rattle.m2_center.proofs.hearing.half_log.Goals as goal

pub returns-in-Some : goal.returns-in-Some
returns-in-Some g c =
    first_part (map (λ (p : PendingNow). p.half.end) c.args.halves.now) (map (λ (l : LooseNow). l.end) c.args.loose.now) c.args.id.now (log_of c.in-Some.log.now) c.in-Some.ensures

pub returns-in-None : goal.returns-in-None
returns-in-None g c =
    c.loose_log.ensures
    ∙ second_part (map (λ (p : PendingNow). p.half.end) c.args.halves.now) (map (λ (l : LooseNow). l.end) c.args.loose.now) c.args.id.now c.in-None.ensures
