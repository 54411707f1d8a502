use Rattle.std.proofs.Common.{refl}
use Rattle.m2_record.proofs.Resumed.{counted-after, counted-leaves, counted-owned}
use Rattle.m2_record.proofs.record.Record.count_resumption.Goals as goal

pub invariant_of-self : goal.invariant_of-self
invariant_of-self g c = counted-after _ c.count_resumption-counted.new.self _ _ c.count_resumption-counted.result c.self.invariant refl c.count_resumption-counted.ensures.counts c.note_acked.ensures

pub returns-clause-counts : goal.returns-clause-counts
returns-clause-counts g c = counted-leaves _ c.count_resumption-counted.new.self _ _ c.count_resumption-counted.result _ c.self.view_is c.count_resumption-counted.ensures.number
    c.count_resumption-counted.ensures.counts c.note_acked.ensures

pub returns-clause-owned : goal.returns-clause-owned
returns-clause-owned g c = λ place o. counted-owned c.count_resumption-counted.result _ c.count_resumption-counted.new.self place _ _ c.self.view_is c.count_resumption-counted.ensures.counts refl refl o
