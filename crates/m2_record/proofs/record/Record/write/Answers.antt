use Rattle.std.proofs.Common.{sym}
use Rattle.m2_record.proofs.HasPut.{written-after}
use Rattle.m2_record.proofs.record.Record.write.Goals as goal

pub invariant_of-self : goal.invariant_of-self
invariant_of-self g c = written-after c.write-answer.result _ c.write-answer.new.self c.id-socket.result c.in-Some.feed.now c.args.now _ _ _ _ c.self.invariant
    c.write-answer.ensures.writes (sym c.in-Some.ensures) c.id-socket.ensures c.note_put.ensures.journal c.note_put.ensures.last c.held_after-self-inside.ensures
