-- The short entries before a place stand for the entries before it.
use Rattle.std.proofs.Common.{◌∙◌, List, ap, sym, take}
use Rattle.std.proofs.lemmas.List.{take_min}
use Rattle.m2_journal.specs.declared.entries.ShortEntry.{ShortEntry}
use Rattle.m2_journal.specs.EntriesFields.{entries_of, entry_of}
use Rattle.m2_journal.proofs.Short.{take-images}
use Rattle.m2_journal.proofs.entries.Entries.front.Goals as goal

pub returns : goal.returns
returns c =
    let shorts = c.self.inside.left.now in
    let asks = c.self.inside.asks.now in
    let part = c.split_at.ensures.front ∙ ap (λ n. take n shorts) c.min.ensures ∙ take_min c.args.count shorts in
    ap (λ (xs : List ShortEntry). entries_of asks xs) part ∙ sym (take-images (entry_of asks) c.args.count shorts c.self.invariant) ∙ ap (take c.args.count) c.self.view_is
