use Rattle.m2_journal.proofs.Growing.{one_more}
use Rattle.m2_journal.proofs.laws.one_more_entry_leads_on.Goals as goal

pub returns : goal.returns
returns c = one_more
