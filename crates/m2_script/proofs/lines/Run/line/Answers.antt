-- One deed is a list of one.
use Rattle.std.proofs.Common.{[], ◌∷◌}
use Rattle.m2_dispatch.specs.Heard.{heard_by}
use Rattle.m2_journal.specs.declared.facts.PlanStep.TheVariants as step
use Rattle.m2_script.specs.Script.{meet, plan}
use Rattle.m2_script.proofs.Deeds.{one_ends, then_one}
use Rattle.m2_script.proofs.lines.Run.line.Goals as goal

pub returns-in-Post : goal.returns-in-Post
returns-in-Post g c =
    rw c.in-Post.is (one_ends g.row.P-End.Denot heard_by c.plan.result (plan c.in-Post.a c.in-Post.b (step.Post c.in-Post.message)) c.args.self.now c.plan.new.self c.plan.ensures)

pub returns-in-Dial : goal.returns-in-Dial
returns-in-Dial g c =
    rw c.in-Dial.is (one_ends g.row.P-End.Denot heard_by c.plan-in-Dial.result (plan c.in-Dial.a c.in-Dial.b step.Dial) c.args.self.now c.plan-in-Dial.new.self c.plan-in-Dial.ensures)

pub returns-in_ok-plan-in-Down : goal.returns-in_ok-plan-in-Down
returns-in_ok-plan-in-Down g c =
    rw c.in-Down.is (then_one g.row.P-End.Denot heard_by c.meet.result (plan c.in-Down.a c.in-Down.b step.Down) (meet c.in-Down.a ∷ []) c.args.self.now c.plan-in-Down.new.self c.meet.new.self
    c.in_ok-plan-in-Down.ensures (one_ends g.row.P-End.Denot heard_by c.meet.result (meet c.in-Down.a) c.plan-in-Down.new.self c.meet.new.self c.meet.ensures))
