-- A seat that holds nothing is spent, and the rule stays.
use Rattle.std.proofs.Common.{rules}
use Rattle.m2_shared.proofs.HeldSteps.{joins}
use Rattle.m2_shared.proofs.held.join.Goals as goal

pub join_seat-requires : goal.join_seat-requires
join_seat-requires c =
    let seat = c.args.seat.now in
    let other = c.args.other in
    let kept = joins c.args.word.now.shared.key seat.id other.id seat.me.0 other.me.0 c.requires.held c.requires.other_held in
    (search rules, search rules, search rules, search rules, kept)
