-- The entries of a first journal, and those of the others.
use Rattle.std.proofs.Common.{length, ap, sym, ◌∙◌}
use Rattle.m2_center.proofs.Dryness.{fits_more, none_more, one_more, within_more}
use Rattle.m2_center.proofs.counting.+entries_in.Goals as goal

pub overflow_add-result : goal.overflow_add-result
overflow_add-result g t c =
    fits_more c.len.result c.entries_in.result (length c.in-Some.rest.now) (length c.args.records.now) c.len.type_inv c.entries_in.ensures.within c.in-Some.ensures.cases.1 c.requires.few

pub returns-in-None-clause-counts : goal.returns-in-None-clause-counts
returns-in-None-clause-counts g t c = sym (none_more c.args.records.now c.in-None.ensures.cases)

pub returns-in-Some-clause-counts : goal.returns-in-Some-clause-counts
returns-in-Some-clause-counts g t c =
    one_more c.args.records.now c.in-Some.rest.now c.in-Some.first.now c.len.result c.entries_in.result c.in-Some.ensures.cases.0 (c.len.ensures.count ∙ ap length c.journal.ensures)
    c.entries_in.ensures.counts

pub returns-in-Some-clause-within : goal.returns-in-Some-clause-within
returns-in-Some-clause-within g t c =
    within_more c.len.result c.entries_in.result (length c.in-Some.rest.now) (length c.args.records.now) c.len.type_inv c.entries_in.ensures.within c.in-Some.ensures.cases.1
