-- A turn is its parts, one after the other, as far as memory lasts.
use Rattle.std.proofs.Common.{Err, ◌∙◌}
use Rattle.std.proofs.lemmas.Result.{err_from_is_err_and}
use Rattle.m2_center.specs.CenterTurn.{AcceptsSo, AndThen, AnswersSo, DeliversSo, StepsSo, means_at}
use Rattle.m2_center.proofs.HandedOn.{accepts_none, answers_none, delivers_none}
use Rattle.m2_center.proofs.TurnParts.{ends_there, goes_on}
use Rattle.m2_turn.proofs.MoreHanded.{says_same, says_then}
use Rattle.m2_center.proofs.center.Center.take_turn.Goals as goal

pub returns-in_err-answer-clause-turns : goal.returns-in_err-answer-clause-turns
returns-in_err-answer-clause-turns g c =
    let m = means_at c.args.now c.args.shared.now.numbers c.args.shared.now.throttles in
    let E = g.row.P-End.Denot in
    let heard = g.D.Dispatcher.heard in
    let p = err_from_is_err_and c.from_residual-in_err-answer.result c.from_residual-in_err-answer.ensures.1 in
    let then_delivers = AndThen (StepsSo heard m) (DeliversSo heard m) in
    rw p.1 (goes_on AcceptsSo (AndThen (AnswersSo E m) then_delivers) c.args.self.now c.accept.new.self c.answer.new.self (Err p.0) c.in_ok-accept.ensures.accepts
    (ends_there (AnswersSo E m) then_delivers c.accept.new.self c.answer.new.self p.0 c.in_err-answer.ensures.answers))

pub returns-in_err-step-clause-turns : goal.returns-in_err-step-clause-turns
returns-in_err-step-clause-turns g c =
    let m = means_at c.args.now c.args.shared.now.numbers c.args.shared.now.throttles in
    let E = g.row.P-End.Denot in
    let heard = g.D.Dispatcher.heard in
    let p = err_from_is_err_and c.from_residual-in_err-step.result c.from_residual-in_err-step.ensures.1 in
    let then_delivers = AndThen (StepsSo heard m) (DeliversSo heard m) in
    rw p.1 (goes_on AcceptsSo (AndThen (AnswersSo E m) then_delivers) c.args.self.now c.accept.new.self c.step.new.self (Err p.0) c.in_ok-accept.ensures.accepts
    (goes_on (AnswersSo E m) then_delivers c.accept.new.self c.answer.new.self c.step.new.self (Err p.0) c.in_ok-answer.ensures.answers
    (ends_there (StepsSo heard m) (DeliversSo heard m) c.answer.new.self c.step.new.self p.0 c.in_err-step.ensures.steps)))

pub returns-clause-turns : goal.returns-clause-turns
returns-clause-turns g c =
    let m = means_at c.args.now c.args.shared.now.numbers c.args.shared.now.throttles in
    let E = g.row.P-End.Denot in
    let heard = g.D.Dispatcher.heard in
    let then_delivers = AndThen (StepsSo heard m) (DeliversSo heard m) in
    goes_on AcceptsSo (AndThen (AnswersSo E m) then_delivers) c.args.self.now c.accept.new.self c.deliver.new.self c.deliver.result c.in_ok-accept.ensures.accepts
    (goes_on (AnswersSo E m) then_delivers c.accept.new.self c.answer.new.self c.deliver.new.self c.deliver.result c.in_ok-answer.ensures.answers
    (goes_on (StepsSo heard m) (DeliversSo heard m) c.answer.new.self c.step.new.self c.deliver.new.self c.deliver.result c.in_ok-step.ensures.steps c.deliver.ensures.delivers))

pub returns-in_err-accept-clause-handed : goal.returns-in_err-accept-clause-handed
returns-in_err-accept-clause-handed g c = says_same c.args.handed.now _ _ (accepts_none _ c.args.self.now c.accept.new.self c.accept.ensures.accepts)

pub returns-in_err-answer-clause-handed : goal.returns-in_err-answer-clause-handed
returns-in_err-answer-clause-handed g c =
    let m = means_at c.args.now c.args.shared.now.numbers c.args.shared.now.throttles in
    says_same c.args.handed.now _ _
    (answers_none g.row.P-End.Denot m _ c.accept.new.self c.answer.new.self c.answer.ensures.answers ∙ accepts_none _ c.args.self.now c.accept.new.self c.accept.ensures.accepts)

pub returns-in_err-step-clause-handed : goal.returns-in_err-step-clause-handed
returns-in_err-step-clause-handed g c =
    let m = means_at c.args.now c.args.shared.now.numbers c.args.shared.now.throttles in
    says_then _ _ _ _ _ _
    (says_same c.args.handed.now _ _
    (answers_none g.row.P-End.Denot m _ c.accept.new.self c.answer.new.self c.answer.ensures.answers ∙ accepts_none _ c.args.self.now c.accept.new.self c.accept.ensures.accepts))
    c.step.ensures.handed

pub returns-clause-handed : goal.returns-clause-handed
returns-clause-handed g c =
    let m = means_at c.args.now c.args.shared.now.numbers c.args.shared.now.throttles in
    says_then _ _ _ _ _ _
    (says_then _ _ _ _ _ _
    (says_same c.args.handed.now _ _
    (answers_none g.row.P-End.Denot m _ c.accept.new.self c.answer.new.self c.answer.ensures.answers ∙ accepts_none _ c.args.self.now c.accept.new.self c.accept.ensures.accepts))
    c.step.ensures.handed)
    (says_same c.step.new.handed _ _ (delivers_none g.D.Dispatcher.heard m _ c.step.new.self c.deliver.new.self c.deliver.ensures.delivers))
