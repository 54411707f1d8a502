-- One item more is forgotten.
use Rattle.std.proofs.Common.{◌≡◌, ◌<◌, ◌≤◌, length, refl, ap, subst, arith}
use Rattle.m2_weave.specs.Rule.{strand_at}
use Rattle.m2_weave.specs.Strands.{StrandNow, strand_now}
use Rattle.m2_weave.specs.Table.{woven_of}
use Rattle.m2_weave.specs.Tally.{IsForgotten, is_on}
use Rattle.m2_weave.proofs.Clearing.{cleared, forgotten_more}
use Rattle.m2_weave.proofs.Items.{next_at}
use Rattle.m2_weave.proofs.Whole.{strand_is}
use Rattle.m2_weave.proofs.counts.Counts.clear.Goals as goal

pub loop-n-preserved : goal.loop-n-preserved
loop-n-preserved c =
    let w = woven_of c.args.strands.now c.args.sockets.now in
    let is = (strand_at w c.args.k).items in
    let s = c.index-strands-k-2.result in
    let same : is ≡ (strand_now s).items = ap (λ (s : StrandNow). s.items)
    (strand_is c.args.strands.now c.args.sockets.now c.args.k s c.requires.strand c.index-strands-k-2.is) in
    let h : c.loop-n.n < length is = omega (arith, c.loop-n-test.true, c.len-n-end.ensures, ap length same) in
    let at = next_at is c.loop-n.left c.next.new.self c.loop-n.n c.next.result h c.loop-n.invariant.left c.next.ensures in
    record {
      left = at.1;
      forgotten =
          forgotten_more c.args.sockets.now is c.loop-n.n c.next.result c.args.self.now c.loop-n.self c.forget.new.self h c.loop-n.invariant.forgotten
          (subst (λ i. IsForgotten c.args.sockets.now (λ k. is_on k i) c.loop-n.self c.forget.new.self) at.0 c.forget.ensures);
    }

pub returns : goal.returns
returns c =
    let w = woven_of c.args.strands.now c.args.sockets.now in
    let is = (strand_at w c.args.k).items in
    let s = c.index-strands-k-2.result in
    let same : is ≡ (strand_now s).items = ap (λ (s : StrandNow). s.items)
    (strand_is c.args.strands.now c.args.sockets.now c.args.k s c.requires.strand c.index-strands-k-2.is) in
    let all : length is ≤ c.loop-n.n = omega (arith, c.loop-n-test.false, c.len-n-end.ensures, ap length same) in
    cleared c.args.sockets.now w (strand_at w c.args.k) is c.loop-n.n c.args.self.now c.loop-n.self refl all c.requires.counts c.loop-n.invariant.forgotten
