use Rattle.std.proofs.Common.{arith}
use Rattle.std.proofs.lemmas.List.{length-append, length-take-le}
use Rattle.m2_queues.proofs.kept_line.KeptLine.kept.Goals as goal

pub returns : goal.returns
returns c =
    let w = c.self.inside in
    rw (← c.self.view_is, length-append) (omega (arith, w.front.ok, w.lane.ok, c.self.invariant.taken, length-take-le w.taken w.lane.items (omega (arith, c.self.invariant.taken, w.lane.ok))))
