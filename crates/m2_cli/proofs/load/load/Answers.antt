use Rattle.std.proofs.Common.{[], refl, arith}
use Rattle.m2_edge.specs.Source.{SeenSource}
use Rattle.m2_cli.specs.Edge.{Edge, edge}
use Rattle.m2_cli.proofs.Loads.{Laws, load_printed, load_caused, load_order_printed}
use Rattle.m2_cli.proofs.Says.{said_caused}
use Rattle.m2_cli.proofs.load.load.Goals as goal

pub returns-in-Ok-clause-works : goal.returns-in-Ok-clause-works
returns-in-Ok-clause-works g c = λ (source : SeenSource).
    let before : Edge = edge source (g.O.Sink.seen c.args.out.now) (g.E.Sink.seen c.args.err.now) in
    let after : Edge = edge source (g.O.Sink.seen c.print.new.out) (g.E.Sink.seen c.print.new.err) in
    let prints = c.print.ensures.prints [] c.in-Ok.ensures.line in
    let runs = load_printed c.in-Ok.printout prints.0 c.args.posts c.args.seed before after c.in-Ok.ensures (refl {a = source}) prints.1 in
    record {
      causes = record {
        source_never_falls = omega arith;
        out_never_falls = c.print.ensures.out_never_falls;
        err_never_falls = c.print.ensures.err_never_falls;
        cause = said_caused [] prints.0 c.print.result before after (load_caused prints.0 c.args.posts c.args.seed before after runs) prints.2;
      };
      inputs = refl;
      work = prints.0;
      said = prints.2;
      left = runs;
    }

pub returns-in-Ok-clause-order : goal.returns-in-Ok-clause-order
returns-in-Ok-clause-order g c = λ (source : SeenSource).
    let before : Edge = edge source (g.O.Sink.seen c.args.out.now) (g.E.Sink.seen c.args.err.now) in
    let after : Edge = edge source (g.O.Sink.seen c.print.new.out) (g.E.Sink.seen c.print.new.err) in
    let laws : Laws = record { together = c.calls_and_left_are_posts.ensures; asked = c.posts_are_as_many_as_asked.ensures } in
    load_order_printed laws c.in-Ok.printout c.args.posts c.args.seed c.print.result before after c.in-Ok.ensures (c.print.ensures.prints [] c.in-Ok.ensures.line)
