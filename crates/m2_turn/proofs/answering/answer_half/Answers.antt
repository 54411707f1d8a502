use Rattle.std.proofs.Common.{IsSome, refl, subst, sym}
use Rattle.m2_turn.proofs.Answered.{answer_stays}
use Rattle.m2_turn.proofs.answering.answer_half.Goals as goal

pub returns-clause-stays : goal.returns-clause-stays
returns-clause-stays g c =
    answer_stays c.look_and_answer-answered.result c.args.a _ _ _ (subst IsSome (sym c.is_arrival.ensures.in_hand) refl) c.is_record.ensures c.is_record-2.ensures c.requires.known
    c.look_and_answer-answered.ensures.answers
