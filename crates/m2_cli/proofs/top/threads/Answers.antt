use Rattle.std.proofs.Common.{Err, refl, subst, arith}
use Rattle.m2_edge.specs.Whole.{IsReadCause}
use Rattle.m2_edge.specs.declared.whole.ReadFault.{ReadFault}
use Rattle.m2_cli.specs.declared.status.Status.TheVariants as status
use Rattle.m2_cli.specs.Edge.{Edge, edge}
use Rattle.m2_cli.specs.Threads.{PreparesThreads, names_in}
use Rattle.m2_cli.proofs.Orders.{threads_order_printed}
use Rattle.m2_cli.proofs.Says.{said_caused, says_named}
use Rattle.m2_cli.proofs.Threads.{threads_caused, threads_printed}
use Rattle.m2_cli.proofs.top.threads.Goals as goal

pub returns-in-Ok-clause-works : goal.returns-in-Ok-clause-works
returns-in-Ok-clause-works g c =
    let before : Edge = edge (g.S.Source.seen c.args.src.now) (g.O.Sink.seen c.args.out.now) (g.E.Sink.seen c.args.err.now) in
    let after : Edge = edge (g.S.Source.seen c.prepare_threads.new.src) (g.O.Sink.seen c.print.new.out) (g.E.Sink.seen c.print.new.err) in
    let may = g.C.Clock.may_give c.args.clock.now in
    let old = g.F.Fabric.seen c.args.fabric.now in
    let new = g.F.Fabric.seen c.prepare_threads.new.fabric in
    let names = names_in after.source.given in
    let prints = c.print.ensures.prints names c.in-Ok.ensures.prepares.printout.line in
    let runs = threads_printed may old new c.args.file.now before after c.in-Ok.printout prints.0 c.in-Ok.ensures.prepares prints.1 in
    record {
      causes = record {
        source_never_falls = c.in-Ok.ensures.causes.never_falls;
        out_never_falls = c.print.ensures.out_never_falls;
        err_never_falls = c.print.ensures.err_never_falls;
        cause = said_caused names prints.0 c.print.result before after (threads_caused may old new c.args.file.now before after prints.0 runs) prints.2;
      };
      inputs = c.in-Ok.ensures.inputs;
      work = prints.0;
      said = prints.2;
      left = runs;
    }

pub returns-in-Ok-clause-order : goal.returns-in-Ok-clause-order
returns-in-Ok-clause-order g c =
    let before : Edge = edge (g.S.Source.seen c.args.src.now) (g.O.Sink.seen c.args.out.now) (g.E.Sink.seen c.args.err.now) in
    let after : Edge = edge (g.S.Source.seen c.prepare_threads.new.src) (g.O.Sink.seen c.print.new.out) (g.E.Sink.seen c.print.new.err) in
    let old = g.F.Fabric.seen c.args.fabric.now in
    let new = g.F.Fabric.seen c.prepare_threads.new.fabric in
    threads_order_printed (g.C.Clock.may_give c.args.clock.now) old new
    (record {
      together = c.calls_and_left_are_posts.ensures;
      ends = c.ends_are_promised.ensures;
      joined = λ nodes links lines sound posts limit was is o ran place l there. c.runs_are_joined.ensures c.args.clock.now limit nodes links lines was is o sound posts ran place l there;
    })
    c.in-Ok.printout c.args.file.now c.print.result before after c.in-Ok.ensures.prepares (c.print.ensures.prints (names_in after.source.given) c.in-Ok.ensures.prepares.printout.line)

pub returns-in-Err-Failed-clause-works : goal.returns-in-Err-Failed-clause-works
returns-in-Err-Failed-clause-works g c =
    let before : Edge = edge (g.S.Source.seen c.args.src.now) (g.O.Sink.seen c.args.out.now) (g.E.Sink.seen c.args.err.now) in
    let after : Edge = edge (g.S.Source.seen c.prepare_threads.new.src) (g.O.Sink.seen c.args.out.now) (g.E.Sink.seen c.say_fixed.new.err) in
    let may = g.C.Clock.may_give c.args.clock.now in
    let old = g.F.Fabric.seen c.args.fabric.now in
    let new = g.F.Fabric.seen c.prepare_threads.new.fabric in
    let names = names_in after.source.given in
    let failed = c.in-Err-Failed in
    let rises = subst (λ (e : ReadFault). IsReadCause e before.source.faults after.source.faults) failed.field-0-is failed.ensures.causes.failed in
    let read = subst (λ (e : ReadFault). PreparesThreads (Err e) may old new c.args.file.now before.source after.source) failed.field-0-is failed.ensures.prepares in
    let said = says_named names status.ReadFault c.say_fixed.result before.err after.err refl c.say_fixed.ensures.says in
    record {
      causes = record {
        source_never_falls = failed.ensures.causes.never_falls;
        out_never_falls = omega arith;
        err_never_falls = c.say_fixed.ensures.never_falls;
        cause = said_caused names status.ReadFault c.say_fixed.result before after rises said;
      };
      inputs = failed.ensures.inputs;
      work = status.ReadFault;
      said = said;
      left = (rises, record { stands = read.0; unprinted = refl }, read.1);
    }
