use Rattle.std.proofs.Common.{sym, ◌∙◌}
use Rattle.m2_trail.specs.TurnMoves.{answers, reads, writes}
use Rattle.m2_trail.proofs.Left as left
use Rattle.m2_trail.proofs.turn_moves.move_on.Goals as goal

pub returns-then-has_text : goal.returns-then-has_text
returns-then-has_text g c = record {
  move = writes c.write.result;
  makes = (left.some c.args.half.now.left (sym c.has_text.ensures ∙ c.if-has_text.true), c.write.ensures);
  leads = sym c.of_write.ensures;
}

pub returns-then-rests : goal.returns-then-rests
returns-then-rests g c = record {
  move = reads c.read.result c.read.new.piece;
  makes = ((left.none c.args.half.now.left (sym c.has_text.ensures ∙ c.if-has_text.false), c.read.auto.piece ∙ c.requires.piece), sym c.rests.ensures ∙ c.if-rests.true, c.read.ensures);
  leads = sym (c.of_read.ensures c.read.new.piece);
}

pub returns : goal.returns
returns g c = record {
  move = answers c.step.result;
  makes = (left.none c.args.half.now.left (sym c.has_text.ensures ∙ c.if-has_text.false), sym c.rests.ensures ∙ c.if-rests.false, c.step.ensures);
  leads = sym c.of_step.ensures;
}
