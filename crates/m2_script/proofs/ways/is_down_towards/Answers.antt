-- The first one settles the answer.
use Rattle.std.proofs.Common.{sym, ap, ◌∙◌}
use Rattle.std.proofs.lemmas.List.Folds.{list_any_at}
use Rattle.m2_script.specs.Ways.{is_down_to}
use Rattle.m2_script.proofs.Steps.{any_next, any_past}
use Rattle.m2_script.proofs.ways.is_down_towards.Goals as goal

pub returns-then-is_down_to : goal.returns-then-is_down_to
returns-then-is_down_to g c =
    let here = ap (is_down_to c.args.to) (sym c.side-item.is) ∙ sym c.is_down_to.ensures ∙ c.if-is_down_to.true in
    sym (list_any_at (is_down_to c.args.to) c.args.records.now c.loop-side.side-index c.side-item.result c.loop-side-test.true here)

pub loop-side-preserved : goal.loop-side-preserved
loop-side-preserved g c =
    let here = ap (is_down_to c.args.to) (sym c.side-item.is) ∙ sym c.is_down_to.ensures ∙ c.if-is_down_to.false in
    any_next (is_down_to c.args.to) c.args.records.now c.loop-side.side-index c.side-item.result c.loop-side-test.true here ∙ c.loop-side.invariant

pub returns : goal.returns
returns g c = sym (any_past (is_down_to c.args.to) c.args.records.now c.loop-side.side-index c.loop-side-test.false) ∙ c.loop-side.invariant
