use Rattle.m2_queues.proofs.Joining.{falling}
use Rattle.m2_dispatch.specs.Letters.{letter_priority}
use Rattle.m2_dispatch.specs.Laws.{history_of}
use Rattle.m2_dispatch.proofs.Histories.{holds}
use Rattle.m2_dispatch.proofs.laws.greatest_priority_first.Goals as goal

pub returns : goal.returns
returns c peer calls = falling letter_priority (history_of peer calls).waiting (holds peer calls).falls
