-- One number more.
use Rattle.std.proofs.Common.{sym, subst, arith}
use Rattle.m2_weave.specs.Users.{IsIn}
use Rattle.m2_weave.proofs.Listing.{below-more}
use Rattle.m2_weave.proofs.merging.all_below.Goals as goal

pub loop-i-preserved : goal.loop-i-preserved
loop-i-preserved c = λ k h l.
    subst (λ xs. IsIn k xs) (sym c.in_ok-push.ensures.items)
    (below-more c.args.n c.loop-i.i c.loop-i.numbers.items c.loop-i-test.true c.loop-i.invariant k h l)

pub returns : goal.returns
returns c = λ k h. c.loop-i.invariant k h (omega arith)
