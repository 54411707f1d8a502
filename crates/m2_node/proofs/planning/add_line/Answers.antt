-- A line that has one node do something, or none.
use Rattle.std.proofs.Common.{refl}
use Rattle.m2_journal.specs.declared.facts.PlanStep.TheVariants as step
use Rattle.m2_scenario.specs.declared.line.Line.TheVariants as line
use Rattle.m2_node.proofs.StepLists.{line_adds, on_ok_so}
use Rattle.m2_node.proofs.planning.add_line.Goals as goal

pub returns-in-Post : goal.returns-in-Post
returns-in-Post c =
    let v = c.in-Post in
    rw v.is (on_ok_so c.add_step.result _ _
    (line_adds v.a (record { peer = v.b; step = step.Post v.message }) (line.Post v.a v.b v.message) c.args.all.now.items c.add_step.new.all.items (λ k. refl)) c.add_step.ensures)

pub returns-in-Dial : goal.returns-in-Dial
returns-in-Dial c =
    let v = c.in-Dial in
    rw v.is (on_ok_so c.add_step-in-Dial.result _ _
    (line_adds v.a (record { peer = v.b; step = step.Dial }) (line.Dial v.a v.b) c.args.all.now.items c.add_step-in-Dial.new.all.items (λ k. refl)) c.add_step-in-Dial.ensures)

pub returns-in-Down : goal.returns-in-Down
returns-in-Down c =
    let v = c.in-Down in
    rw v.is (on_ok_so c.add_step-in-Down.result _ _
    (line_adds v.a (record { peer = v.b; step = step.Down }) (line.Down v.a v.b) c.args.all.now.items c.add_step-in-Down.new.all.items (λ k. refl)) c.add_step-in-Down.ensures)
