-- A look keeps the rule.
use Rattle.std.proofs.Common.{sym, subst, rules}
use mathlib.Core.Option.{none}
use Rattle.atomic_table.specs.Table.{Me, step, Allows}
use Rattle.m2_shared.specs.declared.counted.Known.{Known}
use Rattle.m2_shared.specs.Counted.{IsGivenOnce, told}
use Rattle.m2_shared.proofs.CountedSteps.{loads}
use Rattle.m2_shared.proofs.counted.load.Goals as goal

pub load-requires : goal.load-requires
load-requires c =
    let t = c.args.word.now.shared in
    let slots = t.table_id.slots in
    let seat = c.args.seat.now in
    let known = seat.me.0 in (
      search rules,
      search rules,
      subst (λ (me : Me (Unit {0}) Known). Allows (λ s. IsGivenOnce s.words s.views) slots seat.id me 0 (λ n. n) (told (step slots 0 0 0 none) me))
          (λ i. (known, sym c.requires.seat.1 i)) (loads slots seat.id known),
    )
