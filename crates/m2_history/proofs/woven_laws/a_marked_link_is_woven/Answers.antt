use Rattle.m2_history.proofs.OneMessage.{one_message}
use Rattle.m2_history.proofs.woven_laws.a_marked_link_is_woven.Goals as goal

pub returns : goal.returns
returns c = one_message
