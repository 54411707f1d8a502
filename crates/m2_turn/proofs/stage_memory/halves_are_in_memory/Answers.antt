use Rattle.m2_fabric.specs.Kinds.{IsInMemory}
use Rattle.m2_trail.specs.Arrivals.{LooseNow}
use Rattle.m2_turn.specs.Sessions.{PendingNow}
use Rattle.std.proofs.Common.{map}
use Rattle.m2_turn.proofs.Wholes.{all_behind, all_mapped}
use Rattle.m2_turn.proofs.stage_memory.halves_are_in_memory.Goals as goal

pub returns : goal.returns
returns g c =
    all_behind IsInMemory (λ (p : PendingNow). p.half.end) c.args.halves.now (map (λ (l : LooseNow). l.end) c.args.loose.now) c.are_in_memory.ensures
    (all_mapped IsInMemory (λ (l : LooseNow). l.end) c.args.loose.now c.loose_are_in_memory.ensures)
