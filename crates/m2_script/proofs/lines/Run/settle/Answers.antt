-- One round more.
use Rattle.std.proofs.Common.{◌≡◌, ℕ, ◌+◌, ◌-◌, ap, subst, arith}
use Rattle.std.proofs.lemmas.Result.{err_from_is_err_and}
use Rattle.m2_dispatch.specs.Heard.{heard_by}
use Rattle.m2_script.specs.Script.{round_of, rounds_of}
use Rattle.m2_script.proofs.Deeds.{IsAmid, amid_first, amid_last, amid_next, amid_stops, can_next}
use Rattle.m2_script.proofs.Splits.{next_rounds}
use Rattle.m2_script.proofs.lines.Run.settle.Goals as goal

pub rounds-init : goal.rounds-init
rounds-init g c =
    let E = g.row.P-End.Denot in
    let heard = heard_by in
    let all : c.args.rounds ≡ c.args.rounds - 0 = omega arith in
    subst (λ (n : ℕ). IsAmid E heard (rounds_of c.args.links.now c.args.nodes n) (rounds_of c.args.links.now c.args.nodes c.args.rounds) c.args.self.now c.args.self.now) all
    (amid_first E heard (rounds_of c.args.links.now c.args.nodes c.args.rounds) c.args.self.now c.requires)

pub round-requires : goal.round-requires
round-requires g c =
    let l = c.rounds in
    let links = c.args.links.now in
    can_next g.row.P-End.Denot heard_by (rounds_of links c.args.nodes (c.args.rounds - l.counter)) (round_of links c.args.nodes) (rounds_of links c.args.nodes (c.args.rounds - (l.counter + 1)))
    (rounds_of links c.args.nodes c.args.rounds) (next_rounds links c.args.nodes l.counter c.args.rounds c.rounds-test.true) c.args.self.now l.self l.self l.invariant

pub rounds-preserved : goal.rounds-preserved
rounds-preserved g c =
    let l = c.rounds in
    let links = c.args.links.now in
    amid_next g.row.P-End.Denot heard_by (rounds_of links c.args.nodes (c.args.rounds - l.counter)) (round_of links c.args.nodes) (rounds_of links c.args.nodes (c.args.rounds - (l.counter + 1)))
    (rounds_of links c.args.nodes c.args.rounds) (next_rounds links c.args.nodes l.counter c.args.rounds c.rounds-test.true) c.args.self.now l.self c.round.new.self l.invariant c.in_ok-round.ensures

pub returns-in_err-round : goal.returns-in_err-round
returns-in_err-round g c =
    let l = c.rounds in
    let links = c.args.links.now in
    let p = err_from_is_err_and c.from_residual.result c.from_residual.ensures.1 in
    rw p.1 (amid_stops g.row.P-End.Denot heard_by (rounds_of links c.args.nodes (c.args.rounds - l.counter)) (round_of links c.args.nodes) (rounds_of links c.args.nodes (c.args.rounds - (l.counter + 1)))
    (rounds_of links c.args.nodes c.args.rounds) (next_rounds links c.args.nodes l.counter c.args.rounds c.rounds-test.true) c.args.self.now l.self c.round.new.self l.invariant p.0 c.in_err-round.ensures)

pub returns : goal.returns
returns g c =
    let l = c.rounds in
    let links = c.args.links.now in
    let none : c.args.rounds - l.counter ≡ 0 = omega arith in
    amid_last g.row.P-End.Denot heard_by (rounds_of links c.args.nodes (c.args.rounds - l.counter)) (rounds_of links c.args.nodes c.args.rounds) c.args.self.now l.self
    (ap (rounds_of links c.args.nodes) none) l.invariant
