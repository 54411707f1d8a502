use Rattle.std.proofs.Common.{◌++◌, ◌∷◌, [], sym, ap, refl, ◌∙◌, arith, rules}
use Rattle.std.specs.Option.{option_copied}
use Rattle.m2_trail.proofs.Then.{then, one_more}
use Rattle.m2_trail.proofs.turn.advance.Goals as goal

pub moves-init : goal.moves-init
moves-init g c = record { stood = []; moves = refl; count = refl; within = omega (arith) }

pub returns-in-Waits : goal.returns-in-Waits
returns-in-Waits g c = record {
  stood = c.moves.invariant.stood;
  before = c.moves.half;
  moves = c.moves.invariant.moves;
  within = omega (arith, c.moves.invariant.count, c.moves-test.true);
  unasked = search rules;
  last = c.in-Waits.ensures;
}

pub returns-in-Ends : goal.returns-in-Ends
returns-in-Ends g c = record {
  stood = c.moves.invariant.stood;
  before = c.moves.half;
  moves = c.moves.invariant.moves;
  within = omega (arith, c.moves.invariant.count, c.moves-test.true);
  unasked = search rules;
  last = c.in-Ends.ensures;
}

pub returns-in-Lacks : goal.returns-in-Lacks
returns-in-Lacks g c = record {
  stood = c.moves.invariant.stood;
  before = c.moves.half;
  moves = c.moves.invariant.moves;
  within = omega (arith, c.moves.invariant.count, c.moves-test.true);
  unasked = search rules;
  last = c.in-Lacks.ensures;
}

pub moves-preserved : goal.moves-preserved
moves-preserved g c = record {
  stood = c.moves.invariant.stood ++ c.move_on.new.half ∷ [];
  moves = then c.moves.invariant.stood c.args.half.now c.moves.half c.move_on.new.half c.moves.invariant.moves (search rules) c.in-GoesOn.ensures;
  count = omega (arith, one_more c.moves.invariant.stood c.move_on.new.half, c.moves.invariant.count);
  within = omega (arith, c.moves-test.true);
}

pub returns-in-None : goal.returns-in-None
returns-in-None g c = record {
  stood = c.moves.invariant.stood;
  moves = c.moves.invariant.moves;
  many = omega (arith, c.moves-test.false, c.moves.auto.counter-end, c.moves.invariant.count);
  unasked = sym c.ask-2.ensures ∙ ap option_copied c.in-None.is;
}
