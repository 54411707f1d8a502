use Rattle.m2_record.proofs.Arriving.{in-room}
use Rattle.m2_record.proofs.record.Record.judge.Goals as goal

pub returns-in-Ok-clause-judges : goal.returns-in-Ok-clause-judges
returns-in-Ok-clause-judges g c = in-room _ c.args.a c.room_to_judge.new.a c.args.number c.args.now c.args.self.now c.room_to_judge.new.self _
    c.room_to_judge.ensures.arrival c.room_to_judge.ensures.only c.judge_in_room.ensures.judges
