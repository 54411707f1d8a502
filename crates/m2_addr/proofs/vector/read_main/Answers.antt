use Rattle.std.proofs.Common.{Option, ap, ◌∙◌}
use Rattle.std.proofs.lemmas.Result.{err_from_is_err_and}
use Rattle.m2_addr.specs.declared.addr.Addr.{Addr}
use Rattle.m2_addr.specs.Vector.{option_main}
use Rattle.m2_addr.proofs.Mains.{main_then, main_found, main_refused, no_count}
use Rattle.m2_addr.proofs.vector.read_main.Goals as goal

pub returns-in_err-count : goal.returns-in_err-count
returns-in_err-count c =
    let p = err_from_is_err_and c.from_residual.result c.from_residual.ensures.1 in
    rw (p.1, p.2) (no_count c.args.r.now c.in_err-count.field-0.0 c.in_err-count.ensures.exact)

pub returns-in_err-main : goal.returns-in_err-main
returns-in_err-main c =
    let p = err_from_is_err_and c.from_residual-in_err-main.result c.from_residual-in_err-main.ensures.1 in
    rw (p.1, p.2) (main_refused c.args.r.now c.read_count.new.r c.in_ok-count.count c.in_err-main.field-0.0 c.in_ok-count.ensures.exact c.in_err-main.ensures)

pub returns-in-Some : goal.returns-in-Some
returns-in-Some c =
    main_found c.args.r.now c.read_count.new.r c.skim_addresses.new.r c.in_ok-count.count (option_main c.in_ok-main.field-0) c.in_ok-count.ensures.exact c.in_ok-main.ensures
    ∙ ap (λ (o : Option Addr). main_then (option_main o) c.skim_addresses.new.r) c.in-Some.is

pub returns-in-None : goal.returns-in-None
returns-in-None c =
    main_found c.args.r.now c.read_count.new.r c.skim_addresses.new.r c.in_ok-count.count (option_main c.in_ok-main.field-0) c.in_ok-count.ensures.exact c.in_ok-main.ensures
    ∙ ap (λ (o : Option Addr). main_then (option_main o) c.skim_addresses.new.r) c.in-None.is
