use Rattle.std.proofs.lemmas.Result.{err_from_is_err_and}
use Rattle.m2_control.proofs.FactLemmas.{facts_there, bad_main}
use Rattle.m2_control.proofs.server_facts.read_front.Goals as goal

pub returns-in_err-main : goal.returns-in_err-main
returns-in_err-main c =
    let p = err_from_is_err_and c.from_residual.result c.from_residual.ensures.1 in
    rw (p.1, p.2) (bad_main c.args.r.now c.in_err-main.field-0.0 c.in_err-main.ensures)

pub returns : goal.returns
returns c = facts_there c.facts_with.result c.args.r.now c.main_address.new.r c.read.new.r c.in_ok-main.main c.in_ok-tail.tail c.in_ok-main.ensures c.in_ok-tail.ensures c.facts_with.ensures
