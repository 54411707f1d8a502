use Rattle.m2_shared.specs.Gates.{places}
use Rattle.m2_core.proofs.Holding.{taken_out}
use Rattle.m2_core.proofs.live.Live.note_front.Goals as goal

pub back-requires-clause-held : goal.back-requires-clause-held
back-requires-clause-held g c = taken_out (places c.args.throttles.now) _ _ _ c.self.view_is c.take.ensures.result c.requires.owned
