-- The short entries behind a place stand for the entries behind it.
use Rattle.std.proofs.Common.{◌∙◌, List, ap, drop, sym}
use Rattle.std.proofs.lemmas.List.{drop_min}
use Rattle.m2_journal.specs.declared.entries.ShortEntry.{ShortEntry}
use Rattle.m2_journal.specs.EntriesFields.{entries_of, entry_of}
use Rattle.m2_journal.proofs.Short.{drop-images}
use Rattle.m2_journal.proofs.entries.Entries.behind.Goals as goal

pub returns : goal.returns
returns c =
    let shorts = c.self.inside.left.now in
    let asks = c.self.inside.asks.now in
    let part = c.split_at.ensures.back ∙ ap (λ n. drop n shorts) c.min.ensures ∙ drop_min c.args.count shorts in
    ap (λ (xs : List ShortEntry). entries_of asks xs) part ∙ sym (drop-images (entry_of asks) c.args.count shorts c.self.invariant) ∙ ap (drop c.args.count) c.self.view_is
