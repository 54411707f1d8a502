use Rattle.std.proofs.Common.{ap, subst, sym, ◌∙◌}
use Rattle.m2_record.specs.RecordNow.{IsSessionOf, RecordNow}
use Rattle.m2_record.proofs.Remembered.{is_session_of}
use Rattle.m2_record.proofs.record.Record.session.Goals as goal

pub returns-clause-facts : goal.returns-clause-facts
returns-clause-facts g c =
    subst (λ s. IsSessionOf c.args.self.now.core.facts s) (sym (c.session.ensures ∙ ap (λ (r : RecordNow). r.core.live.session) c.self.view_is))
    (is_session_of c.args.self.now c.replays_are_sound.ensures c.is_record.ensures)
