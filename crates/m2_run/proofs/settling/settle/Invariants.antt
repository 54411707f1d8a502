-- By the rounds so far all have gone on.
use Rattle.m2_run.specs.Settling.{HaveGoneOn}
use Rattle.m2_run.proofs.settling.settle.Given as goal

abbrev pub invariant-rounds : goal.invariant-rounds
invariant-rounds g l = HaveGoneOn (g.C.Clock.may_give l.clock) l.from l.now l.nodes l.fn.all l.all
