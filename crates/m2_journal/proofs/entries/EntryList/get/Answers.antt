-- The entry at a place is that for which the short one there stands.
use Rattle.std.proofs.Common.{◌∙◌, ap, arith, length, slice_get, sym}
use Rattle.std.proofs.lemmas.Option.{slice_get_past}
use Rattle.m2_bytes.specs.Items.{Holding}
use Rattle.m2_journal.specs.declared.entry.Entry.{Entry}
use Rattle.m2_journal.specs.EntriesFields.{entries_of, entry_of}
use Rattle.m2_journal.proofs.Short.{entry_at, length-images}
use Rattle.m2_journal.proofs.entries.EntryList.get.Goals as goal

pub returns-then-place-entries : goal.returns-then-place-entries
returns-then-place-entries c =
    let asks = c.self.inside.asks.items in
    let shorts = c.self.inside.entries.items in
    sym (slice_get_past (entries_of asks shorts) c.args.place
    (omega (arith, c.if-place-entries.true, ap length c.as_slice-entries.ensures.value, length-images (entry_of asks) shorts c.self.invariant.stand)))
    ∙ ap (λ (h : Holding Entry). slice_get h.items c.args.place) c.self.view_is

pub returns : goal.returns
returns c =
    c.entry.ensures
    ∙ entry_at c.self.inside.asks.items c.as_slice.result.now c.self.inside.entries.items c.as_slice-entries.result.now c.args.place _ c.as_slice.ensures.value c.as_slice-entries.ensures.value
    c.self.invariant.stand c.if-place-entries.false
    ∙ ap (λ (h : Holding Entry). slice_get h.items c.args.place) c.self.view_is
