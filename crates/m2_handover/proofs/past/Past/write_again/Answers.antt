use Rattle.std.proofs.Common.{ap, ◌∙◌}
use Rattle.m2_handover.specs.Past.{PastNow}
use Rattle.m2_handover.proofs.Again.{write_is_done}
use Rattle.m2_handover.proofs.past.Past.write_again.Goals as goal

-- src/past.rt:112:5
pub returns-clause-again : goal.returns-clause-again
returns-clause-again c = write_is_done _ _ _ _ c.in-Some.n _ c.requires.again c.in-Some.ensures (c.reserve_write.ensures.same ∙ ap (λ (p : PastNow). p.log) c.self.view_is) c.note_write-2.ensures
