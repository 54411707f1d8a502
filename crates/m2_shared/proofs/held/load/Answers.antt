-- A look keeps the rule.
use Rattle.std.proofs.Common.{map, sym, subst, rules}
use mathlib.Core.Option.{none}
use Rattle.atomic_table.specs.Table.{Me, step, Allows}
use Rattle.m2_shared.specs.declared.held.Holding.{Holding}
use Rattle.m2_shared.specs.Held.{IsOut, held_of, looked}
use Rattle.m2_shared.proofs.HeldSteps.{loads}
use Rattle.m2_shared.proofs.held.load.Goals as goal

pub load-requires : goal.load-requires
load-requires c =
    let t = c.args.word.now.shared in
    let slots = t.table_id.slots in
    let seat = c.args.seat.now in
    let holding = seat.me.0 in (
      search rules,
      search rules,
      subst (λ (me : Me (Unit {0}) Holding). Allows (λ s. IsOut t.key s.words (map held_of s.views)) slots seat.id me 0 (λ n. n) (looked (step slots 0 0 0 none) me))
          (λ i. (holding, sym c.requires.seat.1 i)) (loads t.key slots seat.id holding),
    )
