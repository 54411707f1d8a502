use Rattle.std.proofs.Common.{arith}
use Rattle.std.proofs.lemmas.List.{length-drop}
use Rattle.m2_queues.proofs.Lanes.{length-items_among}
use Rattle.m2_queues.proofs.kept_line.KeptLine.waiting.Goals as goal

pub returns : goal.returns
returns c =
    let w = c.self.inside in
    rw (← c.self.view_is, length-items_among) (omega (arith, c.self.invariant.counted, c.self.invariant.taken, w.lane.ok, length-drop w.taken w.lane.items))
