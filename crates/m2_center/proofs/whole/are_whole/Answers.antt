use Rattle.m2_trail.specs.Arrivals.{left_of}
use Rattle.m2_turn.specs.Halves.{IsWhole}
use Rattle.m2_turn.specs.Sessions.{PendingNow}
use Rattle.m2_turn.proofs.Wholes.{all_behind}
use Rattle.m2_center.proofs.whole.are_whole.Goals as goal

pub returns : goal.returns
returns g c = all_behind IsWhole (λ (p : PendingNow). left_of p.half) c.args.halves.now c.args.loose.now c.are_whole.ensures c.loose_are_whole.ensures
