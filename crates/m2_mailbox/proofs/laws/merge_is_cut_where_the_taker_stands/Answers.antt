use Rattle.m2_mailbox.proofs.Sublists.{cut_lists}
use Rattle.m2_mailbox.proofs.laws.merge_is_cut_where_the_taker_stands.Goals as goal

pub returns : goal.returns
returns g c = cut_lists
