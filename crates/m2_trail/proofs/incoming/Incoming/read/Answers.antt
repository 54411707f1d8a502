-- A read keeps what an incoming socket keeps.
use Rattle.std.proofs.Common.{min, ap, ◌∙◌}
use Rattle.m2_trail.specs.declared.trail.Trail.{Trail}
use Rattle.m2_trail.specs.Incoming.{IncomingNow, noted_read, fed_of}
use Rattle.m2_trail.specs.Trails.{trail_now}
use Rattle.m2_trail.proofs.Bytes.{read_kept, read_leaves, room_same}
use Rattle.m2_trail.proofs.incoming.Incoming.read.Goals as goal

pub invariant_of-self-2 : goal.invariant_of-self-2
invariant_of-self-2 g c =
    let answer = c.read_into-answer.result in
    let piece = c.read_into-answer.new.piece in (
      read_kept _ answer piece _ _ _ _ c.self.invariant.0 (ap (λ (v : IncomingNow). v.ask) c.self.view_is ∙ c.requires.unasked) c.read_into-answer.ensures.reads
          (c.read_into-answer.ensures.feeds ∙ ap (fed_of answer piece) c.room_for_read.ensures.half)
          (c.note_read.ensures.tells ∙ ap (λ (t : Trail). noted_read answer (trail_now t)) c.room_for_read.ensures.trail)
          (room_same _ _ _ _ c.note_read.ensures.judged c.note_read.ensures.judged_after ∙ ap (λ (t : Trail). min t.judged.room t.judged_after.room) c.room_for_read.ensures.trail),
      c.note_read.ensures.room,
    )

pub returns : goal.returns
returns g c =
    let answer = c.read_into-answer.result in
    let piece = c.read_into-answer.new.piece in
    rw (← c.self.view_is) (
      c.read_into-answer.ensures.reads,
      read_leaves _ answer piece _ _ _ _ c.self.invariant.0
          (c.read_into-answer.ensures.feeds ∙ ap (fed_of answer piece) c.room_for_read.ensures.half)
          (c.note_read.ensures.tells ∙ ap (λ (t : Trail). noted_read answer (trail_now t)) c.room_for_read.ensures.trail)
          (room_same _ _ _ _ c.note_read.ensures.judged c.note_read.ensures.judged_after ∙ ap (λ (t : Trail). min t.judged.room t.judged_after.room) c.room_for_read.ensures.trail),
    )
