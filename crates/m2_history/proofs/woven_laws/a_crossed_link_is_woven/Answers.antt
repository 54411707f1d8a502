use Rattle.m2_history.proofs.CrossedLink.{crossed_link}
use Rattle.m2_history.proofs.woven_laws.a_crossed_link_is_woven.Goals as goal

pub returns : goal.returns
returns c = crossed_link
