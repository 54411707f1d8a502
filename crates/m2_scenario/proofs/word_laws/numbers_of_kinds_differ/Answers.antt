use Rattle.m2_scenario.proofs.KindNumbers.{numbers_differ}
use Rattle.m2_scenario.proofs.word_laws.numbers_of_kinds_differ.Goals as goal

pub returns : goal.returns
returns c = numbers_differ
