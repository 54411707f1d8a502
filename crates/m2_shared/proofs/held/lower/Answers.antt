-- A fall of the word by what the seat held keeps the rule.
use Rattle.std.proofs.Common.{◌+◌, ◌-◌, ◌%◌, ◌^◌, map, sym, subst, rules}
use mathlib.Core.Option.{none}
use Rattle.atomic_table.specs.Table.{Me, step, Allows}
use Rattle.m2_shared.specs.declared.held.Holding.{Holding}
use Rattle.m2_shared.specs.Held.{IsOut, held_of, lowered}
use Rattle.m2_shared.proofs.HeldSteps.{lowers}
use Rattle.m2_shared.proofs.held.lower.Goals as goal

pub fetch_sub-requires : goal.fetch_sub-requires
fetch_sub-requires c =
    let t = c.args.word.now.shared in
    let slots = t.table_id.slots in
    let seat = c.args.seat.now in
    let holding = seat.me.0 in (
      search rules,
      search rules,
      subst (λ (me : Me (Unit {0}) Holding). Allows (λ s. IsOut t.key s.words (map held_of s.views)) slots seat.id me 0 (λ k. (k + (2 ^ 64 - c.args.n)) % 2 ^ 64) (lowered (step slots 0 c.args.n 0 none) me))
          (λ i. (holding, sym c.requires.seat.1 i)) (lowers t.key slots seat.id c.args.n holding c.requires.held c.ranges.n.fits),
    )
