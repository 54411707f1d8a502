use Rattle.std.proofs.Common.{◌≡◌, ◌<◌, length, false, arith, ◌∙◌}
use Rattle.m2_fabric.specs.Kept.{both, cleared}
use Rattle.m2_fabric.specs.News.{kept_after}
use Rattle.m2_fabric.specs.declared.kept.Kept.{Kept}
use Rattle.m2_fabric.proofs.Loops.{loop_step, same_set}
use Rattle.m2_fabric.proofs.Passes.{same_after}
use Rattle.m2_fabric.proofs.pair.pass_sockets.Goals as goal

pub loop-kept-preserved : goal.loop-kept-preserved
loop-kept-preserved g c =
    let what = c.args.what.now in
    let l = c.loop-kept in
    let zero : Kept = record {
      id = record { from_ip = 0; from_port = 0; to_ip = 0; to_port = 0; turn = 0 };
      there = record { flowed = 0; over = false };
      back = record { flowed = 0; over = false };
    } in
    let below : l.kept-index < length c.args.sockets.now = omega (arith, c.loop-kept-test.true, l.auto.kept-items, l.auto.kept-index-end) in
    let long : length l.kept-items ≡ length c.args.sockets.now = omega (arith, l.auto.kept-items) in
    let more = loop_step what (λ logs k. kept_after what logs c.args.first c.args.second k) (both c.args.first c.args.second) c.args.sockets.now l.kept-items l.kept-index zero c.pass.new.self (g.H.Holder.seen c.args.h.now) (g.H.Holder.seen l.h) (g.H.Holder.seen c.pass.new.h)
    below long (same_after what c.args.first c.args.second) l.invariant.sockets l.invariant.told c.in_ok-pass.ensures.kept c.in_ok-pass.ensures.told in
    record {
      same = same_set cleared c.args.sockets.now l.kept-items l.kept-index zero c.pass.new.self (omega (arith, below, long)) l.invariant.same c.in_ok-pass.ensures.same;
      sockets = more.items;
      told = more.told;
      rest = c.in_ok-pass.ensures.rest ∙ l.invariant.rest;
    }

pub returns-in_err-pass-clause-same : goal.returns-in_err-pass-clause-same
returns-in_err-pass-clause-same g c =
    let l = c.loop-kept in
    let zero : Kept = record {
      id = record { from_ip = 0; from_port = 0; to_ip = 0; to_port = 0; turn = 0 };
      there = record { flowed = 0; over = false };
      back = record { flowed = 0; over = false };
    } in
    let below : l.kept-index < length l.kept-items = omega (arith, c.loop-kept-test.true, l.auto.kept-items, l.auto.kept-index-end) in
    same_set cleared c.args.sockets.now l.kept-items l.kept-index zero c.pass.new.self below l.invariant.same c.pass.ensures.same
