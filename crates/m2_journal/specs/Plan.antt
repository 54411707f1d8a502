-- A plan's steps, apart from where the bytes of their messages lie. This project's own.
use Rattle.m2_message.specs.Message.{Content, content_of}
use Rattle.m2_journal.specs.declared.facts.PlanStep.{PlanStep}
use Rattle.m2_journal.specs.declared.facts.PlanStep.TheVariants as step

pub data Planned : Type 0 where
  to_post : Content → Planned
  to_dial : Planned
  to_go_down : Planned

abbrev pub planned : PlanStep → Planned
planned (step.Post m) = to_post (content_of m)
planned step.Dial = to_dial
planned step.Down = to_go_down
