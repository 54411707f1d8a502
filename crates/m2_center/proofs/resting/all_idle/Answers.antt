use Rattle.std.proofs.Common.{sym, ◌∙◌}
use Rattle.m2_turn.specs.RecordsTurn.{is_idle}
use Rattle.m2_center.proofs.Passing.{all_pass, one_more_passes}
use Rattle.m2_center.proofs.resting.all_idle.Goals as goal

pub idle-preserved : goal.idle-preserved
idle-preserved g c =
    one_more_passes (is_idle c.args.now) c.args.records.now c.idle.side-index c.side-item.result c.idle-test.true c.side-item.is (sym c.is_idle.ensures ∙ c.if-not-is_idle.false) c.idle.invariant

pub returns : goal.returns
returns g c = all_pass (is_idle c.args.now) c.args.records.now c.idle.side-index c.idle-test.false c.idle.invariant
