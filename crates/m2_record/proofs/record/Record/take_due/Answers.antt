use Rattle.m2_shared.specs.Gates.{places}
use Rattle.std.proofs.Common.{◌≤◌, ◌∙◌, ap, arith, refl, subst, sym}
use Rattle.m2_record.specs.declared.due.Due.TheVariants as due
use Rattle.m2_shared.specs.Numbers.{SeenNumberPass}
use Rattle.m2_record.proofs.DueSteps.{by-due, composed-owned, composed-top, due-holds, framed-top, raised-least, raised-place, read-top, reads-due, top-below, writes-due}
use Rattle.m2_record.proofs.record.Record.take_due.Goals as goal

pub step_plan-requires-clause-due : goal.step_plan-requires-clause-due
step_plan-requires-clause-due g c = due-holds c.args.now c.args.self.now due.Plan (sym c.due.ensures ∙ c.in-Plan.is)

pub step_hand-requires : goal.step_hand-requires
step_hand-requires g c = due-holds c.args.now c.args.self.now due.Hand (sym c.due.ensures ∙ c.in-Hand.is)

pub write_or_close-requires-clause-feed : goal.write_or_close-requires-clause-feed
write_or_close-requires-clause-feed g c = writes-due c.args.now c.args.self.now (sym c.due.ensures ∙ c.in-Write.is)

pub read-requires-clause-fed : goal.read-requires-clause-fed
read-requires-clause-fed g c = reads-due c.args.now c.args.self.now (sym c.due.ensures ∙ c.in-Read.is)

pub returns-in-Plan-clause-due : goal.returns-in-Plan-clause-due
returns-in-Plan-clause-due g c = by-due due.Plan (record {
  now = c.args.now;
  answer = c.answer_planned.result;
  bytes = record { throttles = c.args.throttles.now; before = c.args.passes.now; behind = c.step_plan.new.passes };
  numbers = record { place = c.args.numbers.now.place; before = c.args.number_pass.now; behind = c.args.number_pass.now };
}) c.args.self.now c.step_plan.new.self (sym c.due.ensures ∙ c.in-Plan.is)
    (record { taken = c.step_plan.result; plans = c.step_plan.ensures.plans; answers = c.answer_planned.ensures; bytes = c.step_plan.ensures.word; numbers = refl })

pub returns-in-Frame-clause-top : goal.returns-in-Frame-clause-top
returns-in-Frame-clause-top g c = top-below c.args.self.now c.frame.new.self _ _ (framed-top (record { throttles = c.args.throttles.now; before = c.args.passes.now; behind = c.frame.new.passes }) c.frame.result c.args.now c.args.self.now c.frame.new.self c.frame.ensures.frames) c.requires.top (omega arith)

pub returns-in-Read-clause-top : goal.returns-in-Read-clause-top
returns-in-Read-clause-top g c = top-below c.args.self.now c.read.new.self _ _ (read-top c.read.result c.args.now c.args.self.now c.read.new.self c.read.ensures.reads) c.requires.top
    (subst (λ (p : SeenNumberPass). c.args.number_pass.now.least ≤ p.least) (sym c.read.ensures.raised) (raised-least c.read.result.heard c.args.number_pass.now))

pub returns-in-Read-clause-number_place : goal.returns-in-Read-clause-number_place
returns-in-Read-clause-number_place g c = ap (λ (p : SeenNumberPass). p.place) c.read.ensures.raised ∙ raised-place c.read.result.heard c.args.number_pass.now

pub returns-in-Compose-clause-top : goal.returns-in-Compose-clause-top
returns-in-Compose-clause-top g c = composed-top c.args.self.now c.compose.new.self c.compose.result c.args.numbers.now.place c.args.number_pass.now c.compose.new.pass
    (due-holds c.args.now c.args.self.now due.Compose (sym c.due.ensures ∙ c.in-Compose.is)) c.compose.ensures.composes c.compose.ensures.pass c.requires.top c.top_fits.ensures

pub returns-in-Compose-clause-owned : goal.returns-in-Compose-clause-owned
returns-in-Compose-clause-owned g c = composed-owned c.args.self.now c.compose.new.self (places c.args.throttles.now) c.compose.result
    (due-holds c.args.now c.args.self.now due.Compose (sym c.due.ensures ∙ c.in-Compose.is)) c.compose.ensures.composes c.requires.owned
