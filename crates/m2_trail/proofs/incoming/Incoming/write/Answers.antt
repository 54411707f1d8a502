-- A write keeps what an incoming socket keeps.
use Rattle.std.proofs.Common.{ap, ◌∙◌}
use Rattle.m2_trail.specs.Incoming.{noted_write}
use Rattle.m2_trail.specs.Trails.{TrailNow}
use Rattle.m2_trail.proofs.Bytes.{room_same, write_kept}
use Rattle.m2_trail.proofs.incoming.Incoming.write.Goals as goal

pub invariant_of-self-2 : goal.invariant_of-self-2
invariant_of-self-2 g c =
    let t = c.self.inside.trail in
    let reserved = ap (λ items. let n : TrailNow = record { socket = t.socket; entity = t.entity; entries = items; judged = t.judged.items; judged_after = t.judged_after.items } in noted_write c.write-answer.result n) c.reserve.ensures.items in (
      write_kept _ _ _ _ _ _ _ c.self.invariant.0 c.as_slice.ensures c.write-answer.ensures
          (c.note_write.ensures.notes.tells ∙ reserved) c.note_write.ensures.left (room_same _ _ _ _ c.note_write.ensures.notes.judged c.note_write.ensures.notes.judged_after),
      c.note_write.ensures.notes.room,
    )
