use Rattle.m2_record_trace.proofs.Asked.{at_some, is_answered}
use Rattle.m2_record_trace.proofs.side.Side.judge.Goals as goal

pub replied-requires : goal.replied-requires
replied-requires c = is_answered c.in-Back.answer c.args.arrival c.in-Back.arrival c.in-Back.arrival.room
    (at_some c.args.arrival.ask c.is_arrival.ensures.ask _ c.is_arrival.ensures.in_hand c.in-Back.ensures.judges).2
