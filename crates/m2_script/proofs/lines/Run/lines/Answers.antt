-- One line more.
use Rattle.std.proofs.Common.{◌≡◌, List, [], sym, ap, subst, ◌∙◌, arith}
use Rattle.std.proofs.lemmas.List.{nil_from_length}
use Rattle.std.proofs.lemmas.Result.{err_from_is_err_and}
use Rattle.m2_dispatch.specs.Heard.{heard_by}
use Rattle.m2_scenario.specs.declared.line.Line.{Line}
use Rattle.m2_script.specs.Script.{deeds_of, script_of}
use Rattle.m2_script.proofs.Deeds.{IsAmid, amid_first, amid_last, amid_next, amid_stops, can_next}
use Rattle.m2_script.proofs.lines.Run.lines.Goals as goal

pub loop-line-init : goal.loop-line-init
loop-line-init g c =
    let E = g.row.P-End.Denot in
    let heard = heard_by in
    let all : c.into_iter-line-iterator.result.rest.items ≡ c.args.lines.items = c.into_iter-line-iterator.ensures.into_iter_gives.0 ∙ c.into_vec-line-items.ensures in
    subst (λ (ls : List Line). IsAmid E heard (script_of c.args.links.now c.args.nodes ls) (script_of c.args.links.now c.args.nodes c.args.lines.items) c.args.self.now c.args.self.now) (sym all)
    (amid_first E heard (script_of c.args.links.now c.args.nodes c.args.lines.items) c.args.self.now c.requires)

pub line-requires : goal.line-requires
line-requires g c =
    let l = c.loop-line in
    let script = script_of c.args.links.now c.args.nodes in
    can_next g.row.P-End.Denot heard_by (script l.line-iterator.rest.items) (deeds_of c.args.links.now c.args.nodes c.in-Some.line) (script c.next.new.self.rest.items)
    (script c.args.lines.items) (ap script c.in-Some.ensures.steps.0) c.args.self.now l.self l.self l.invariant

pub loop-line-preserved : goal.loop-line-preserved
loop-line-preserved g c =
    let l = c.loop-line in
    let script = script_of c.args.links.now c.args.nodes in
    amid_next g.row.P-End.Denot heard_by (script l.line-iterator.rest.items) (deeds_of c.args.links.now c.args.nodes c.in-Some.line) (script c.next.new.self.rest.items)
    (script c.args.lines.items) (ap script c.in-Some.ensures.steps.0) c.args.self.now l.self c.line.new.self l.invariant c.in_ok-line.ensures

pub returns-in_err-line : goal.returns-in_err-line
returns-in_err-line g c =
    let l = c.loop-line in
    let script = script_of c.args.links.now c.args.nodes in
    let p = err_from_is_err_and c.from_residual.result c.from_residual.ensures.1 in
    rw p.1 (amid_stops g.row.P-End.Denot heard_by (script l.line-iterator.rest.items) (deeds_of c.args.links.now c.args.nodes c.in-Some.line) (script c.next.new.self.rest.items)
    (script c.args.lines.items) (ap script c.in-Some.ensures.steps.0) c.args.self.now l.self c.line.new.self l.invariant p.0 c.in_err-line.ensures)

pub returns : goal.returns
returns g c =
    let l = c.loop-line in
    let script = script_of c.args.links.now c.args.nodes in
    let rest = l.line-iterator.rest in
    let empty : rest.items ≡ [] = nil_from_length rest.items (let e = c.in-None.ensures.steps.0 in let k = rest.ok in omega (arith, e, k)) in
    amid_last g.row.P-End.Denot heard_by (script rest.items) (script c.args.lines.items) c.args.self.now l.self (ap script empty) l.invariant
