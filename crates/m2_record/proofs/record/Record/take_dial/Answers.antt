use Rattle.std.proofs.Common.{sym, subst}
use Rattle.m2_record.specs.Calls.{IsDialNext}
use Rattle.m2_record.specs.Due.{next_step}
use Rattle.m2_record.specs.RecordNow.{RecordNow}
use Rattle.m2_record.proofs.Taking.{dial-after}
use Rattle.m2_record.proofs.record.Record.take_dial.Goals as goal

pub invariant_of-self : goal.invariant_of-self
invariant_of-self g c = dial-after _ c.dial.new.self c.push_reserved.new.self _ c.self.invariant
    (subst (λ (v : RecordNow). IsDialNext (next_step v)) (sym c.self.view_is) c.requires.next)
    c.dial.ensures.value c.dial.ensures.leads c.push_reserved.ensures
