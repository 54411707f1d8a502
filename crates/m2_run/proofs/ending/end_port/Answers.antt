-- One way more, and at the end all that the port had.
use Rattle.std.proofs.Common.{◌≡◌, ◌+◌, ◌++◌, ◌∷◌, [], ◌∙◌, ℕ, List, length, refl, subst, sym}
use Rattle.std.specs.Prelude.{slice_get, Some}
use Rattle.m2_fabric.specs.Port.{SeenPort}
use Rattle.m2_fabric.specs.declared.socket.SocketId.{SocketId}
use Rattle.m2_handover.specs.Handed.{IsOfNamed}
use Rattle.m2_handover.specs.Home.{ways_at}
use Rattle.m2_handover.specs.m2_mailbox.Passes.{IsGetPassOf}
use Rattle.m2_run.specs.Opened.{IsTakenApart, LeftNow}
use Rattle.m2_run.proofs.Apart.{all_away, one_away, parts, port_apart}
use Rattle.m2_run.proofs.ending.end_port.Goals as goal

pub ways-preserved : goal.ways-preserved
ways-preserved g c =
    let put = c.in_ok-keep_put.ensures.puts in
    record {
      gets = c.keep_put.ensures.gets ∙ c.ways.invariant.gets;
      away = one_away (slice_get g.B.Inboxes.inboxes) c.args.first c.into_iter-way-iterator.result.rest.items c.ways.way-iterator.rest.items c.next.new.self.rest.items c.keep_get.new.rights.puts.items
          c.ways.rights.puts.items c.keep_put.new.rights.puts.items c.in-Some.way put.0 c.in-Some.ensures.steps.0 put.1 put.2 put.3 put.4 c.ways.invariant.away;
    }

pub returns-clause-apart : goal.returns-clause-apart
returns-clause-apart g c =
    let inbox = slice_get g.B.Inboxes.inboxes in
    let first = c.args.first in
    let port = c.args.port in
    let rest = c.in_ok-port.field-0 in
    let told = c.in_ok-port.ensures in
    let puts = c.args.rights.now.puts.items in
    let gets = c.args.rights.now.gets.items in
    let now = c.ways.rights in
    let old : LeftNow = record { opened = c.left.inside.opened.items; at_door = c.left.inside.at_door.items; on_way = c.left.inside.on_way.items } in
    let new : LeftNow = record { opened = c.left.inside.opened.items; at_door = c.move_halves.new.into.items; on_way = c.move_halves-2.new.into.items } in
    let door : new.at_door ≡ old.at_door ++ rest.at_door.items = cc (c.in_ok-move_halves.ensures, c.in_ok-port.at_door-is) in
    let way : new.on_way ≡ old.on_way ++ rest.on_way.items = cc (c.in_ok-move_halves-2.ensures, c.in_ok-port.on_way-is) in
    let pushed : now.gets.items ≡ gets ++ rest.pass ∷ [] = cc (c.ways.invariant.gets, c.in_ok-keep_get.ensures.gets, c.in_ok-port.pass-is) in
    let number : rest.number ≡ first + length gets = cc (c.in_ok-keep_get.ensures.number, c.in_ok-port.number-is) in
    let is = subst (λ (n : ℕ). IsOfNamed (λ b. IsGetPassOf b rest.pass) (inbox n)) number told.ours in
    let ways : c.into_iter-way-iterator.result.rest.items ≡ ways_at port.door = cc (c.into_iter-way-iterator.ensures.into_iter_gives.0, c.in_ok-port.ways-is, told.ways) in
    let left = c.ways.way-iterator.rest in
    let away = all_away inbox first c.into_iter-way-iterator.result.rest.items left.items (ways_at port.door) c.keep_get.new.rights.puts.items puts now.puts.items ways
    (sym left.ok.0 ∙ c.in-None.ensures.steps.0) c.keep_get.ensures.puts c.ways.invariant.away in
    subst (λ (l : LeftNow). IsTakenApart inbox first (Some (g.P.Port.seen rest.port)) rest.made.items (parts l puts gets) (parts new now.puts.items now.gets.items)) c.left.view_is
    (subst (λ (ids : List SocketId). IsTakenApart inbox first (Some (g.P.Port.seen rest.port)) ids (parts old puts gets) (parts new now.puts.items now.gets.items)) (sym told.made)
    (subst (λ (p : SeenPort). IsTakenApart inbox first (Some p) port.made (parts old puts gets) (parts new now.puts.items now.gets.items)) (sym told.port)
    (port_apart inbox first port.inner port.made old new puts now.puts.items gets now.gets.items rest.pass rest.at_door.items rest.on_way.items port.taken (ways_at port.door) refl door way pushed told.taken is
    told.all away)))
