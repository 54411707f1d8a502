-- Each short entry stands for one, and they lie in a vector.
use Rattle.std.proofs.Common.{◌∙◌, ap, arith, length, sym}
use Rattle.m2_bytes.specs.Items.{Holding}
use Rattle.m2_journal.specs.declared.entry.Entry.{Entry}
use Rattle.m2_journal.specs.EntriesFields.{entry_of}
use Rattle.m2_journal.proofs.Short.{length-images}
use Rattle.m2_journal.proofs.entries.EntryList.len.Goals as goal

pub returns-clause-count : goal.returns-clause-count
returns-clause-count c = ap length c.as_slice.ensures.value ∙ sym (length-images (entry_of c.self.inside.asks.items) c.self.inside.entries.items c.self.invariant.stand)
    ∙ ap (λ (h : Holding Entry). length h.items) c.self.view_is

pub returns-clause-few : goal.returns-clause-few
returns-clause-few c = let shorts = c.self.inside.entries in omega (arith, shorts.ok.0, shorts.ok.1, shorts.small, ap length c.as_slice.ensures.value)
