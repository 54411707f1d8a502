-- A new seat that holds nothing keeps the rule.
use Rattle.std.proofs.Common.{rules}
use Rattle.m2_shared.proofs.HeldSteps.{splits}
use Rattle.m2_shared.proofs.held.split.Goals as goal

pub split_seat-requires : goal.split_seat-requires
split_seat-requires c =
    let seat = c.args.seat.now in
    (search rules, search rules, splits c.args.word.now.shared.key seat.id seat.me.0)
