use Rattle.m2_cli.specs.declared.status.Status.TheVariants as status
use Rattle.std.proofs.Common.{refl, ◌∙◌}
use Rattle.m2_cli.proofs.Says.{prints_whole, prints_prefix, says_named}
use Rattle.m2_cli.proofs.print.print.Goals as goal

pub returns-in-Ok-clause-prints : goal.returns-in-Ok-clause-prints
returns-in-Ok-clause-prints g c = λ names line. (
  c.args.printout.now.status,
  prints_whole c.args.printout.now c.as_slice.result.now (g.O.Sink.seen c.args.out.now) (g.O.Sink.seen c.deliver.new.sink) c.as_slice.ensures c.in-Ok.ensures.delivers,
  c.say.ensures.says names (c.as_slice-in-Ok.ensures ∙ line),
)

pub returns-in-Err-clause-prints : goal.returns-in-Err-clause-prints
returns-in-Err-clause-prints g c = λ names line. (
  status.WriteFault,
  prints_prefix c.args.printout.now c.as_slice.result.now (g.O.Sink.seen c.args.out.now) (g.O.Sink.seen c.deliver.new.sink) c.as_slice.ensures
      c.in-Err.ensures.causes.failed c.in-Err.ensures.delivers,
  says_named names status.WriteFault c.say_fixed.result (g.E.Sink.seen c.args.err.now) (g.E.Sink.seen c.say_fixed.new.err) refl c.say_fixed.ensures.says,
)
