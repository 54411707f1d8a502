use Rattle.std.proofs.Common.{sym, ◌∙◌}
use Rattle.m2_turn.proofs.Heard.{answered}
use Rattle.m2_turn.proofs.answering.look_and_answer.Goals as goal

pub returns-in-Owes-clause-answers : goal.returns-in-Owes-clause-answers
returns-in-Owes-clause-answers g c =
    answered c.replied-in-Owes.result c.in-Owes.a c.args.a _ _ _ c.session-session.result.now c.facts.result.now
    (sym c.is_judged.ensures ∙ c.if-is_judged.false) c.session-session.ensures.facts c.facts.ensures c.in-Fine.ensures.exact
    c.in-Owes.ensures.judges c.replied-in-Owes.ensures
