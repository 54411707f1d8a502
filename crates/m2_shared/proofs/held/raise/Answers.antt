-- A rise of the word that needn't wait keeps the rule.
use Rattle.std.proofs.Common.{◌+◌, map, sym, subst, rules}
use Rattle.std.specs.Prelude.{◌==◌}
use mathlib.Core.Option.{none}
use prog.Atomic.{either}
use Rattle.atomic_table.specs.Table.{Me, step, Allows}
use Rattle.m2_shared.specs.declared.held.Holding.{Holding}
use Rattle.m2_shared.specs.Held.{IsOut, held_of, raised}
use Rattle.m2_shared.proofs.HeldSteps.{raises}
use Rattle.m2_shared.proofs.held.raise.Goals as goal

pub compare_exchange-requires : goal.compare_exchange-requires
compare_exchange-requires c =
    let t = c.args.word.now.shared in
    let slots = t.table_id.slots in
    let seat = c.args.seat.now in
    let holding = seat.me.0 in (
      search rules,
      search rules,
      subst (λ (me : Me (Unit {0}) Holding). Allows (λ s. IsOut t.key s.words (map held_of s.views)) slots seat.id me 0 (λ k. either (k == c.args.seen) (c.args.seen + c.args.n) k) (raised (step slots 0 c.args.seen (c.args.seen + c.args.n) none) me))
          (λ i. (holding, sym c.requires.seat.1 i)) (raises t.key slots seat.id c.args.seen c.args.n holding c.requires.held c.requires.room),
    )
