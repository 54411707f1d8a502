use Rattle.m2_bytes_fit.proofs.Trails.{tell_each_point}
use Rattle.m2_bytes_fit.proofs.laws.trails_tell_each_point.Goals as goal

pub returns : goal.returns
returns c = tell_each_point
