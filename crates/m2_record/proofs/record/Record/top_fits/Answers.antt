use Rattle.std.proofs.Common.{◌≤◌, subst}
use Rattle.m2_handshake.specs.m2_control.declared.fields.TheConstants.{GREATEST_NUMBER}
use Rattle.m2_record.specs.RecordNow.{RecordNow}
use Rattle.m2_record.proofs.Topmost.{top-fits}
use Rattle.m2_record.proofs.record.Record.top_fits.Goals as goal

pub returns : goal.returns
returns g c = subst (λ (v : RecordNow). v.core.top ≤ GREATEST_NUMBER) c.self.view_is (top-fits _ c.self.invariant)
