use Rattle.std.proofs.Common.{Err, ◌∙◌, arith}
use Rattle.m2_scenario.specs.Text.{pieces}
use Rattle.m2_scenario.specs.Draft.{no_lines}
use Rattle.m2_scenario_text.specs.Reading.{lines_from}
use Rattle.m2_scenario_text.proofs.LinesRead.{line_taken, bad_before, handed_on, same_answer}
use Rattle.m2_scenario_text.proofs.reading.all_lines.Goals as goal

pub returns-in_err-numbered_line : goal.returns-in_err-numbered_line
returns-in_err-numbered_line c =
    let bad = c.in_err-numbered_line.field-0.0 in
    let asked = lines_from c.args.form c.args.past 1 no_lines (pieces 10 c.args.text.now) in
    handed_on c.from_residual.result bad asked c.from_residual.ensures.1
    (same_answer (Err bad) asked (lines_from c.args.form c.args.past c.lines.line c.lines.draft (pieces 10 c.lines.rest.now)) c.lines.invariant.all
    (bad_before c.args.form c.args.past c.lines.line c.lines.draft c.numbered_line.new.draft c.in-Some.first.now c.in-Some.more.now c.lines.rest.now bad c.in-Some.ensures.pieces c.in_err-numbered_line.ensures))

pub lines-preserved : goal.lines-preserved
lines-preserved c = record {
  all = c.lines.invariant.all ∙ line_taken c.args.form c.args.past c.lines.line c.lines.draft c.numbered_line.new.draft c.in-Some.first.now c.in-Some.more.now c.lines.rest.now c.in-Some.ensures.pieces c.in_ok-numbered_line.ensures;
  within = omega (arith, c.lines.invariant.within, c.in-Some.ensures.shorter);
}
