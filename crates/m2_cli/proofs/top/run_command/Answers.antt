use Rattle.std.proofs.Common.{◌≡◌, [], Option, Some, ap, subst, sym}
use Rattle.m2_cli.specs.Form.{Form, form_of, load_of}
use Rattle.m2_cli.specs.declared.command.Command.{Command}
use Rattle.m2_cli.specs.Edge.{Edge, edge}
use Rattle.m2_cli.specs.Ends.{Ends}
use Rattle.m2_cli.proofs.top.run_command.Goals as goal

pub returns-in-Load-clause-causes : goal.returns-in-Load-clause-causes
returns-in-Load-clause-causes g c = let works = c.load.ensures.works (g.S.Source.seen c.args.src.now) in works.causes

pub returns-in-Load-clause-ends : goal.returns-in-Load-clause-ends
returns-in-Load-clause-ends g c =
    let before : Edge = edge (g.S.Source.seen c.args.src.now) (g.O.Sink.seen c.args.out.now) (g.E.Sink.seen c.args.err.now) in
    let after : Edge = edge (g.S.Source.seen c.args.src.now) (g.O.Sink.seen c.load.new.out) (g.E.Sink.seen c.load.new.err) in
    let works = c.load.ensures.works (g.S.Source.seen c.args.src.now) in
    let form : Some (form_of c.args.command) ≡ Some (load_of c.in-Load.posts c.in-Load.seed) = ap (λ (command : Command). Some (form_of command)) c.in-Load.is in
    subst (λ (f : Option Form). Ends (g.C.Clock.may_give c.args.clock.now) (g.F.Fabric.seen c.args.fabric.now) (g.F.Fabric.seen c.args.fabric.now) f c.load.result before after) (sym form)
    (record { work = works.work; names = []; said = works.said; left = works.left })
