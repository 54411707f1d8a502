use Rattle.std.proofs.Common.{length}
use Rattle.m2_scenario.proofs.Ranked.{gathered_there}
use Rattle.m2_scenario.proofs.reports.put_gathered.Goals as goal

pub put_call-requires : goal.put_call-requires
put_call-requires c = gathered_there (length c.args.nodes.now) c.args.calls.now c.loop-call.call-index c.call-item.result c.loop-call-test.true c.call-item.is c.requires
