use Rattle.std.proofs.Common.{map, refl, string_bytes}
use Rattle.m2_cli.specs.Form.{form_in}
use Rattle.m2_cli.specs.Edge.{Edge, edge}
use Rattle.m2_cli.proofs.Memory.{memory_ends}
use Rattle.m2_cli.proofs.top.msgr2.Goals as goal

pub returns-in-Err-clause-ends : goal.returns-in-Err-clause-ends
returns-in-Err-clause-ends g c =
    let before : Edge = edge (g.S.Source.seen c.args.src.now) (g.O.Sink.seen c.args.out.now) (g.E.Sink.seen c.args.err.now) in
    let after : Edge = edge (g.S.Source.seen c.args.src.now) (g.O.Sink.seen c.args.out.now) (g.E.Sink.seen c.say_fixed-in-Err.new.err) in
    memory_ends (g.C.Clock.may_give c.args.clock.now) (g.F.Fabric.seen c.args.fabric.now) (g.F.Fabric.seen c.args.fabric.now) refl (form_in (map string_bytes c.args.args.now)) c.say_fixed-in-Err.result before after c.in-Err.ensures.lacks refl refl c.say_fixed-in-Err.ensures.says
