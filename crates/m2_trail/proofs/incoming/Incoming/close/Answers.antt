-- A socket that is closed has a whole trail.
use Rattle.std.proofs.Common.{ap}
use Rattle.m2_bytes.specs.Items.{Holding}
use Rattle.m2_journal.specs.declared.entry.Entry.{Entry}
use Rattle.m2_trail.proofs.Whole.{closed_left}
use Rattle.m2_trail.proofs.incoming.Incoming.close.Goals as goal

pub new-requires : goal.new-requires
new-requires g c = closed_left _ _ _ c.self.invariant.0 c.close.ensures (ap (λ (h : Holding Entry). h.items) c.push_reserved.ensures)
