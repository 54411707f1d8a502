use Rattle.std.proofs.Common.{◌≡◌, subst, arith}
use Rattle.std.proofs.lemmas.Grind.{common_steps}
use Rattle.m2_handover.specs.Home.{IsHome, asked_at_door, unasked_at}
use Rattle.m2_handover.proofs.Homes.{all_there}
use Rattle.m2_handover.proofs.Named.{is_of_named}
use Rattle.m2_mailbox.specs.Passes.{IsGetPassOf}
use Rattle.m2_handover.proofs.port.HomePort.into_rest.Goals as goal
use Rattle.m2_handover.proofs.port.HomePort.into_rest.Goals.{in-Some+in_ok-into_rest-in-Some, in-None, in-Some-next+else-is_err, in_default}

-- src/port.rt:140:5
pub returns-clause-on_way : goal.returns-clause-on_way
returns-clause-on_way g c =
    let door : c.match-door.at_door.on_way.items ≡ asked_at_door c.args.self.door = elim c.match-door.branch [
      | in-Some+in_ok-into_rest-in-Some w ↦ grind (arith, common_steps)
      | in-None w ↦ grind (arith, common_steps)
    ] in
    elim c.match-next-2.branch [
      | in-Some-next+else-is_err w ↦ grind (arith, common_steps)
      | in_default w ↦ grind (arith, common_steps)
    ]

pub returns-clause-all : goal.returns-clause-all
returns-clause-all g c =
    let home : IsHome c.args.self = subst IsHome c.self.view_is c.self.invariant in
    let at_door : c.match-door.at_door.at_door.items ≡ unasked_at c.args.self = elim c.match-door.branch [
      | in-Some+in_ok-into_rest-in-Some w ↦ grind (arith, common_steps)
      | in-None w ↦ grind (arith, common_steps)
    ] in
    all_there c.args.self c.match-door.at_door.at_door.items c.match-next-2.on_way.items home at_door (returns-clause-on_way g c)

pub returns-clause-ours : goal.returns-clause-ours
returns-clause-ours g c = is_of_named (λ inbox. IsGetPassOf inbox c.self.inside.pass) g.B.Inboxes.inboxes c.self.inside.number c.self.inside.named c.self.inside.ours
