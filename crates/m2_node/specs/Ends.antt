-- An end of a run. This project's own.
use Rattle.m2_fabric.specs.CutEnd.{Bounded, shown}
use Rattle.m2_fabric.specs.End.{SeenEnd}
use Rattle.m2_node.specs.declared.end.EndKind.{EndKind}
use Rattle.m2_node.specs.declared.end.EndKind.TheVariants as of

-- one of a port, which breaks where a line cuts its socket; or one with which no thread of its node went on
pub data RunEndNow : Type 0 where
  of_port : Bounded → RunEndNow
  left_over : SeenEnd → RunEndNow

abbrev pub end_now : {E : Type 0} → (E → SeenEnd) → EndKind E → RunEndNow
end_now seen (of.Cut end) = of_port end
end_now seen (of.Left end) = left_over (seen end)

-- what every end shows, of this one
abbrev pub seen_end : RunEndNow → SeenEnd
seen_end (of_port b) = shown b
seen_end (left_over e) = e
