use Rattle.std.proofs.Common.{Ok, subst}
use Rattle.m2_listing.specs.Passing.{StepsTo, with_taken}
use Rattle.m2_listing.proofs.passing.pass_frames.Goals as goal

pub returns-then-not-more : goal.returns-then-not-more
returns-then-not-more g c = record {
  ends = tt;
  passes = λ bytes before s l.
      subst (λ more. StepsTo (Ok more) (g.T.Teller.line c.args.teller.now) bytes c.pass_one.new.decoder before (with_taken s c.pass_one.new.lines.waiting.bytes)) c.if-not-more.true
      (c.in_ok-more.ensures.passes bytes before s (c.frames.invariant bytes before s l));
}
