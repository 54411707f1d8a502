use Rattle.m2_cli.proofs.Says.{says_whole, says_prefix}
use Rattle.m2_cli.proofs.print.say.Goals as goal

pub returns-in-Ok-clause-says : goal.returns-in-Ok-clause-says
returns-in-Ok-clause-says g c = λ names line.
    says_whole names c.args.status c.args.line.now (g.E.Sink.seen c.args.err.now) (g.E.Sink.seen c.deliver.new.sink) line c.in-Ok.ensures.delivers

pub returns-in-Err-clause-says : goal.returns-in-Err-clause-says
returns-in-Err-clause-says g c = λ names line.
    says_prefix names c.args.status c.unsaid.result c.args.line.now (g.E.Sink.seen c.args.err.now) (g.E.Sink.seen c.deliver.new.sink) line c.unsaid.ensures
    c.in-Err.ensures.causes.failed c.in-Err.ensures.delivers
