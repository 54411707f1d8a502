use Rattle.std.proofs.Common.{arith}
use Rattle.m2_edge.proofs.Counted.{counted}
use Rattle.m2_edge.proofs.laws.counted_words_are_from_one.Goals as goal

pub returns : goal.returns
returns c words last each fits = counted words 0 last each (omega (arith, fits))
