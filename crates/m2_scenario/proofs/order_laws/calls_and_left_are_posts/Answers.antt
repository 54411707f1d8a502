use Rattle.m2_scenario.proofs.CallsAndLeft.{calls_and_left}
use Rattle.m2_scenario.proofs.order_laws.calls_and_left_are_posts.Goals as goal

pub returns : goal.returns
returns c = calls_and_left
