-- One strand more.
use Rattle.std.proofs.Common.{◌<◌, length, arith}
use Rattle.m2_weave.proofs.Tallies.{halves_more}
use Rattle.m2_weave.proofs.tally.read_by_halves.Goals as goal

pub loop-s-preserved : goal.loop-s-preserved
loop-s-preserved c =
    let n = c.loop-s.s-index in
    let strands = c.args.strands.now in
    let h : n < length strands = omega arith in
    record {
      count = c.add_half.ensures.count;
      numbers = λ k among.
          omega (
            arith,
            c.in_ok-add_half.ensures.added k among,
            c.loop-s.invariant.numbers k among,
            halves_more n strands c.s-item.result k h c.s-item.is,
          );
    }
