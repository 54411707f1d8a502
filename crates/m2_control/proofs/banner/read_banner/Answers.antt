use Rattle.m2_control.proofs.BannerGraph.{is_in}
use Rattle.m2_control.proofs.banner.read_banner.Goals as goal

pub returns-clause-value : goal.returns-clause-value
returns-clause-value c = is_in c.banner_step.result c.args.bytes.now c.banner_step.ensures
