use Rattle.m2_history.proofs.OneLink.{one_link}
use Rattle.m2_history.proofs.woven_laws.a_link_is_woven.Goals as goal

pub returns : goal.returns
returns c = one_link
