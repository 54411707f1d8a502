-- A rise of the word to no more than the last number keeps the rule.
use Rattle.std.proofs.Common.{max, sym, subst, rules}
use mathlib.Core.Option.{none}
use Rattle.atomic_table.specs.Table.{Me, step, Allows}
use Rattle.m2_shared.specs.declared.counted.Known.{Known}
use Rattle.m2_shared.specs.Counted.{IsGivenOnce, lifted}
use Rattle.m2_shared.proofs.CountedSteps.{raises}
use Rattle.m2_shared.proofs.counted.raise.Goals as goal

pub fetch_max-requires : goal.fetch_max-requires
fetch_max-requires c =
    let t = c.args.word.now.shared in
    let slots = t.table_id.slots in
    let seat = c.args.seat.now in
    let known = seat.me.0 in (
      search rules,
      search rules,
      subst (λ (me : Me (Unit {0}) Known). Allows (λ s. IsGivenOnce s.words s.views) slots seat.id me 0 (λ n. max n c.args.least) (lifted (step slots 0 c.args.least 0 none) me))
          (λ i. (known, sym c.requires.seat.1 i)) (raises slots seat.id c.args.least known c.requires.last),
    )
