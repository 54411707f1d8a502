use Rattle.std.proofs.Common.{[]}
use Rattle.m2_cli.specs.Edge.{Edge, edge}
use Rattle.m2_cli.proofs.Orders.{order_printed}
use Rattle.m2_cli.proofs.Says.{said_caused}
use Rattle.m2_cli.proofs.Tops.{runs_printed, run_caused}
use Rattle.m2_cli.proofs.top.sim.Goals as goal

pub returns-in-Ok-clause-works : goal.returns-in-Ok-clause-works
returns-in-Ok-clause-works g c =
    let before : Edge = edge (g.S.Source.seen c.args.src.now) (g.O.Sink.seen c.args.out.now) (g.E.Sink.seen c.args.err.now) in
    let after : Edge = edge (g.S.Source.seen c.prepare_file.new.src) (g.O.Sink.seen c.print.new.out) (g.E.Sink.seen c.print.new.err) in
    let prints = c.print.ensures.prints [] c.in-Ok.ensures.prepares.printout.line in
    let runs = runs_printed c.in-Ok.printout prints.0 c.args.file.now before after c.in-Ok.ensures.prepares prints.1 in
    record {
      causes = record {
        source_never_falls = c.in-Ok.ensures.causes.never_falls;
        out_never_falls = c.print.ensures.out_never_falls;
        err_never_falls = c.print.ensures.err_never_falls;
        cause = said_caused [] prints.0 c.print.result before after (run_caused prints.0 c.args.file.now before after runs) prints.2;
      };
      inputs = c.in-Ok.ensures.inputs;
      work = prints.0;
      said = prints.2;
      left = runs;
    }

pub returns-in-Ok-clause-order : goal.returns-in-Ok-clause-order
returns-in-Ok-clause-order g c =
    let before : Edge = edge (g.S.Source.seen c.args.src.now) (g.O.Sink.seen c.args.out.now) (g.E.Sink.seen c.args.err.now) in
    let after : Edge = edge (g.S.Source.seen c.prepare_file.new.src) (g.O.Sink.seen c.print.new.out) (g.E.Sink.seen c.print.new.err) in
    order_printed c.calls_and_left_are_posts.ensures c.in-Ok.printout c.args.file.now c.print.result before after c.in-Ok.ensures.prepares (c.print.ensures.prints [] c.in-Ok.ensures.prepares.printout.line)
