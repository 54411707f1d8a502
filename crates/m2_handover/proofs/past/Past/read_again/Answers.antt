use Rattle.std.proofs.Common.{refl, ap, ◌∙◌}
use Rattle.m2_handover.specs.Past.{PastNow}
use Rattle.m2_handover.proofs.Again.{read_is_done}
use Rattle.m2_handover.proofs.past.Past.read_again.Goals as goal

-- src/past.rt:74:5
pub returns-clause-again : goal.returns-clause-again
returns-clause-again c = read_is_done _ _ _ _ c.in-Some.n _ c.requires.again (rw c.copy_first.ensures.long c.in-Some.ensures)
    (c.copy_first.ensures.same ∙ rw (c.split_at.ensures.back, c.len.ensures, c.as_slice.ensures, ← c.self.view_is) refl)
    (c.reserve_read.ensures.same ∙ ap (λ (p : PastNow). p.log) c.self.view_is) c.note_read-2.ensures
