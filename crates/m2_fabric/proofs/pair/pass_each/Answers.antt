use Rattle.std.proofs.Common.{◌≡◌, ◌<◌, length, arith, ◌∙◌}
use Rattle.m2_fabric.specs.Kept.{cleared_pair, of_pair}
use Rattle.m2_fabric.specs.News.{pair_after}
use Rattle.m2_fabric.proofs.Loops.{loop_step, same_set}
use Rattle.m2_fabric.proofs.Passes.{same_pair_after}
use Rattle.m2_fabric.proofs.pair.pass_each.Goals as goal

pub returns-in_err-pass-clause-same : goal.returns-in_err-pass-clause-same
returns-in_err-pass-clause-same g c =
    let l = c.loop-pair in
    let below : l.pair-index < length l.pair-items = omega (arith, c.loop-pair-test.true, l.auto.pair-items, l.auto.pair-index-end) in
    same_set cleared_pair c.args.pairs.now l.pair-items l.pair-index c.pair-item.result c.pass.new.self below l.invariant.same c.pass.ensures.same

pub loop-pair-preserved : goal.loop-pair-preserved
loop-pair-preserved g c =
    let l = c.loop-pair in
    let below : l.pair-index < length c.args.pairs.now = omega (arith, c.loop-pair-test.true, l.auto.pair-items, l.auto.pair-index-end) in
    let long : length l.pair-items ≡ length c.args.pairs.now = omega (arith, l.auto.pair-items) in
    let more = loop_step c.args.what.now (pair_after c.args.what.now) of_pair c.args.pairs.now l.pair-items l.pair-index c.pair-item.result c.pass.new.self
    (g.H.Holder.seen c.args.h.now) (g.H.Holder.seen l.h) (g.H.Holder.seen c.pass.new.h) below long (same_pair_after c.args.what.now) l.invariant.pairs l.invariant.told
    c.in_ok-pass.ensures.pair c.in_ok-pass.ensures.told in
    record {
      same = same_set cleared_pair c.args.pairs.now l.pair-items l.pair-index c.pair-item.result c.pass.new.self (omega (arith, below, long)) l.invariant.same c.pass.ensures.same;
      pairs = more.items;
      told = more.told;
      rest = c.in_ok-pass.ensures.rest ∙ l.invariant.rest;
    }
