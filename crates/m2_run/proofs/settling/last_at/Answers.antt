-- One record more, and all of them.
use Rattle.std.proofs.Common.{arith}
use Rattle.m2_run.specs.Kept.{later_of}
use Rattle.m2_run.proofs.Settled.{all_over, one_further}
use Rattle.m2_run.proofs.settling.last_at.Goals as goal

pub records-preserved : goal.records-preserved
records-preserved g c =
    let l = c.records in
    one_further later_of c.args.earlier c.args.records.now l.k l.last l.invariant c.later_of-last.result c.index-records-k.result c.records-test.true c.index-records-k.is c.later_of-last.ensures

pub returns : goal.returns
returns g c =
    let l = c.records in
    all_over later_of c.args.earlier c.args.records.now l.k l.last l.invariant (omega (arith, c.records-test.false, l.auto.k-end))
