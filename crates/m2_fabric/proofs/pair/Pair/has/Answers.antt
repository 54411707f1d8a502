use Rattle.std.proofs.Common.{◌<◌, sym}
use Rattle.m2_fabric.specs.Newest.{newest_turn}
use Rattle.m2_fabric.proofs.Below.{newer_is_none}
use Rattle.m2_fabric.proofs.pair.Pair.has.Goals as goal

pub returns-then-is_before : goal.returns-then-is_before
returns-then-is_before c =
    let i = c.self.inside in
    let id = c.args.id.now in
    let newer : newest_turn i.newest id < id.turn = c.is_before.ensures.0 c.if-is_before.true in
    rw (← c.self.view_is) (sym (newer_is_none i.newest id i.sockets.items c.self.invariant.1 newer))
