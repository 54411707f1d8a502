-- A rise of the word by one keeps the rule, with the number at the seat.
use Rattle.std.proofs.Common.{◌+◌, sym, subst, rules}
use Rattle.std.specs.Prelude.{◌==◌}
use mathlib.Core.Option.{none}
use prog.Atomic.{either}
use Rattle.atomic_table.specs.Table.{Me, step, Allows}
use Rattle.m2_shared.specs.declared.counted.Known.{Known}
use Rattle.m2_shared.specs.Counted.{IsGivenOnce, drew}
use Rattle.m2_shared.proofs.CountedSteps.{draws}
use Rattle.m2_shared.proofs.counted.draw.Goals as goal

pub compare_exchange-requires : goal.compare_exchange-requires
compare_exchange-requires c =
    let t = c.args.word.now.shared in
    let slots = t.table_id.slots in
    let seat = c.args.seat.now in
    let known = seat.me.0 in (
      search rules,
      search rules,
      subst (λ (me : Me (Unit {0}) Known). Allows (λ s. IsGivenOnce s.words s.views) slots seat.id me 0 (λ k. either (k == c.args.seen) (c.args.seen + 1) k) (drew (step slots 0 c.args.seen (c.args.seen + 1) none) me))
          (λ i. (known, sym c.requires.seat.1 i)) (draws slots seat.id c.args.seen known c.requires.last),
    )
