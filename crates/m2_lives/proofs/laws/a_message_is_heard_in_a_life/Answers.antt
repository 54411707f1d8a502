use Rattle.m2_lives.proofs.OneLife.{is_heard}
use Rattle.m2_lives.proofs.laws.a_message_is_heard_in_a_life.Goals as goal

pub returns : goal.returns
returns c = is_heard c.a_message_is_observed.ensures c.heard_life_after_life.ensures c.each_life_accepts_from_one.ensures
