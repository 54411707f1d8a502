-- There are as many entries as short ones, and these lie in a vector.
use Rattle.std.proofs.Common.{ap, arith, length}
use Rattle.m2_bytes.specs.Items.{Holding}
use Rattle.m2_journal.specs.declared.entry.Entry.{Entry}
use Rattle.m2_journal.specs.EntriesFields.{entry_of}
use Rattle.m2_journal.proofs.Short.{length-images}
use Rattle.m2_journal.proofs.entries.EntryList.iter.Goals as goal

pub returns-clause-few : goal.returns-clause-few
returns-clause-few c =
    let shorts = c.self.inside.entries in
    omega (
      arith,
      shorts.ok.0,
      shorts.ok.1,
      shorts.small,
      length-images (entry_of c.self.inside.asks.items) shorts.items c.self.invariant.stand,
      ap (λ (h : Holding Entry). length h.items) c.self.view_is,
    )
