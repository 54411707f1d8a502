-- Its halves are opened besides.
use Rattle.std.proofs.Common.{subst, sym}
use Rattle.std.specs.Prelude.{slice_get}
use Rattle.std.specs.Option.{option_map}
use Rattle.m2_run.specs.Opened.{IsTakenApart, LeftNow}
use Rattle.m2_run.proofs.Apart.{apart_opened, parts}
use Rattle.m2_run.proofs.ending.end_sockets.Goals as goal

pub returns-clause-apart : goal.returns-clause-apart
returns-clause-apart g c =
    let inbox = slice_get g.B.Inboxes.inboxes in
    let ended = c.in_ok-ended.ended in
    let inside = option_map g.P.Port.seen ended.port in
    let rights = c.end_port_of.new.rights in
    let old = parts c.args.left.now c.args.rights.now.puts.items c.args.rights.now.gets.items in
    let mid : LeftNow = record { opened = c.left.inside.opened.items; at_door = c.left.inside.at_door.items; on_way = c.left.inside.on_way.items } in
    apart_opened inbox c.args.number inside ended.made.items old mid rights.puts.items rights.gets.items
    (subst (λ (l : LeftNow). IsTakenApart inbox c.args.number inside ended.made.items old (parts l rights.puts.items rights.gets.items)) (sym c.left.view_is) c.in_ok-ended.ensures.apart)
