-- The numbers of a seat go to another one, and the rule stays.
use Rattle.std.proofs.Common.{rules}
use Rattle.m2_shared.proofs.CountedSteps.{joins}
use Rattle.m2_shared.proofs.counted.join.Goals as goal

pub join_seat-requires : goal.join_seat-requires
join_seat-requires c =
    let seat = c.args.seat.now in
    let other = c.args.other in
    (search rules, search rules, search rules, search rules, joins seat.id other.id seat.me.0 other.me.0)
