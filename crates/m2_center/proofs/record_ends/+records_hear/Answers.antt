use Rattle.std.proofs.Common.{sym, ◌∙◌}
use Rattle.m2_center.proofs.RecordsHear.{here_told, here_untold, later_told, later_untold}
use Rattle.m2_center.proofs.record_ends.+records_hear.Goals as goal

pub returns-then-has_end : goal.returns-then-has_end
returns-then-has_end g t c = record {
  ok = here_told c.args.id.now c.args.news c.args.bytes.now c.hear.result c.args.records.now c.in-Some.first.now c.hear.new.self c.in-Some.rest.now c.in-Some.ensures.cases.0
      (sym c.has_end.ensures ∙ c.if-has_end.true) c.hear.ensures.ok;
  err = here_untold c.hear.result c.args.records.now c.in-Some.first.now c.hear.new.self c.in-Some.rest.now c.in-Some.ensures.cases.0 c.hear.ensures.err;
}

pub returns-else-has_end : goal.returns-else-has_end
returns-else-has_end g t c = record {
  ok = later_told c.args.id.now c.args.news c.args.bytes.now c.records_hear.result c.args.records.now c.in-Some.first.now c.in-Some.rest.now c.records_hear.new.records c.in-Some.ensures.cases.0
      (sym c.has_end.ensures ∙ c.if-has_end.false) c.records_hear.ensures.ok;
  err = later_untold c.records_hear.result c.args.records.now c.in-Some.first.now c.in-Some.rest.now c.records_hear.new.records c.in-Some.ensures.cases.0 c.records_hear.ensures.err;
}
