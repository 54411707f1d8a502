-- A new seat that has no numbers keeps the rule.
use Rattle.std.proofs.Common.{rules}
use Rattle.m2_shared.proofs.CountedSteps.{splits}
use Rattle.m2_shared.proofs.counted.split.Goals as goal

pub split_seat-requires : goal.split_seat-requires
split_seat-requires c =
    let seat = c.args.seat.now in
    (search rules, search rules, splits seat.id seat.me.0)
