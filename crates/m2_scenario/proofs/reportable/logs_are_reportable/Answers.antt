use Rattle.std.proofs.Common.{All, subst}
use Rattle.m2_scenario.specs.Printed.{LogFits}
use Rattle.m2_scenario.proofs.LogsFit.{logs_fit}
use Rattle.m2_scenario.proofs.reportable.logs_are_reportable.Goals as goal

pub returns : goal.returns
returns c = logs_fit c.args.s.now.nodes.items c.args.logs.now.items c.requires (subst (All LogFits) c.as_slice.ensures c.each_log_fits.ensures)
