use Rattle.std.proofs.Common.{subst, sym}
use Rattle.std.specs.List.{AllByRecursion}
use Rattle.std.proofs.lemmas.List.{nil_from_length}
use Rattle.m2_record.proofs.Topmost.{top-fits}
use Rattle.m2_turn.specs.Beside.{TopFits}
use Rattle.m2_turn.proofs.records_turn.+tops_fit.Goals as goal

pub returns-in-None : goal.returns-in-None
returns-in-None g t c = subst (AllByRecursion TopFits) (sym (nil_from_length c.args.records.now c.in-None.ensures.cases)) tt

pub returns-in-Some : goal.returns-in-Some
returns-in-Some g t c = subst (AllByRecursion TopFits) (sym c.in-Some.ensures.cases.0) (top-fits c.in-Some.first.now c.is_record.ensures, c.tops_fit.ensures)
