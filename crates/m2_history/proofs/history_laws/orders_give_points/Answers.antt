use Rattle.m2_history.proofs.HalfStrands.{give_points}
use Rattle.m2_history.proofs.history_laws.orders_give_points.Goals as goal

pub returns : goal.returns
returns c = give_points
