-- The items before it are passed over.
use Rattle.std.proofs.Common.{◌≡◌, ◌<◌, length, arith}
use Rattle.m2_weave.specs.Strands.{strand_now}
use Rattle.m2_weave.proofs.Items.{next_at, next_got}
use Rattle.m2_weave.proofs.stopping.item_at.Goals as goal

pub loop-n-preserved : goal.loop-n-preserved
loop-n-preserved c =
    let is = (strand_now c.args.s.now).items in
    let h : c.loop-n.n < length is = omega (arith, c.loop-n-test.true, c.if-place-len.false, c.len.ensures) in
    (next_at is c.loop-n.left c.next-before.new.self c.loop-n.n c.next-before.result h c.loop-n.invariant c.next-before.ensures).1

pub returns : goal.returns
returns c =
    let there : c.loop-n.n ≡ c.args.place = omega (arith, c.loop-n-test.false, c.loop-n.auto.n-end) in
    next_got (strand_now c.args.s.now).items c.loop-n.left c.next.new.self c.loop-n.n c.args.place c.next.result there c.loop-n.invariant c.next.ensures
