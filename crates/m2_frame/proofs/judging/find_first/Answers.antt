use Rattle.std.proofs.Common.{◌∙◌, ap, Some, None, cond}
use Rattle.m2_frame.specs.Reading.{asked_by}
use Rattle.m2_frame.proofs.Memory.{owed-begins}
use Rattle.m2_frame.proofs.judging.find_first.Goals as goal

pub returns-then-asks : goal.returns-then-asks
returns-then-asks c =
    let size = asked_by c.args.p in
    (c.requires, owed-begins c.args.rest.now c.args.granted c.args.p c.requires ∙ c.asks.ensures ∙ ap (λ b. cond b (Some size) None) c.if-asks.true)

pub returns-in-Short : goal.returns-in-Short
returns-in-Short c =
    let size = asked_by c.args.p in
    (c.requires, owed-begins c.args.rest.now c.args.granted c.args.p c.requires ∙ c.asks.ensures ∙ ap (λ b. cond b (Some size) None) c.if-asks.false, c.in-Short.ensures)

pub returns-in-Wrong : goal.returns-in-Wrong
returns-in-Wrong c =
    let size = asked_by c.args.p in
    (c.in-Wrong.ensures, owed-begins c.args.rest.now c.args.granted c.args.p c.requires ∙ c.asks.ensures ∙ ap (λ b. cond b (Some size) None) c.if-asks.false)

pub returns-in-Right : goal.returns-in-Right
returns-in-Right c =
    let size = asked_by c.args.p in
    c.find_later.ensures c.args.granted (owed-begins c.args.rest.now c.args.granted c.args.p c.requires ∙ c.asks.ensures ∙ ap (λ b. cond b (Some size) None) c.if-asks.false)
