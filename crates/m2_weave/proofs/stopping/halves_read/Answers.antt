-- One strand more.
use Rattle.std.proofs.Common.{◌<◌, length, arith}
use Rattle.m2_weave.proofs.Tallies.{halves_more}
use Rattle.m2_weave.proofs.stopping.halves_read.Goals as goal

pub loop-s-preserved : goal.loop-s-preserved
loop-s-preserved c =
    let n = c.loop-s.s-index in
    let strands = c.args.strands.now in
    let h : n < length strands = omega arith in
    omega (
      arith,
      c.in_ok-sum.ensures,
      c.in_ok-half_read.ensures,
      c.loop-s.invariant,
      halves_more n strands c.s-item.result c.args.k.now h c.s-item.is,
    )
