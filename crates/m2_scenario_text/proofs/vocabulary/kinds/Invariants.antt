-- the kinds so far and those of the rest are those of the word
use Rattle.std.proofs.Common.{◌≡◌, length}
use Rattle.m2_scenario.specs.Text.{pieces}
use Rattle.m2_scenario_text.specs.Vocabulary.{kinds_from}
use Rattle.m2_scenario_text.proofs.vocabulary.kinds.Given as goal

abbrev pub invariant-kinds : goal.invariant-kinds
invariant-kinds l = kinds_from l.behind l.kinds (pieces 44 l.rest) ≡ kinds_from l.behind l.initial.kinds (pieces 44 l.fn.word)

abbrev pub decreases-kinds : goal.decreases-kinds
decreases-kinds l = length l.rest
