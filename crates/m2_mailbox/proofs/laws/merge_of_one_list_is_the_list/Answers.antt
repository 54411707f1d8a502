use Rattle.m2_mailbox.proofs.Sublists.{one_list}
use Rattle.m2_mailbox.proofs.laws.merge_of_one_list_is_the_list.Goals as goal

pub returns : goal.returns
returns g c = one_list
