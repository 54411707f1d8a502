-- One node's turn more.
use Rattle.std.proofs.Common.{◌≡◌, ℕ, ◌+◌, ◌-◌, ap, subst, arith}
use Rattle.std.proofs.lemmas.Result.{err_from_is_err_and}
use Rattle.m2_dispatch.specs.Heard.{heard_by}
use Rattle.m2_script.specs.Script.{turn_and_meet, turns_from}
use Rattle.m2_script.proofs.Deeds.{IsAmid, amid_first, amid_last, amid_next, amid_stops, can_next}
use Rattle.m2_script.proofs.Splits.{next_turns}
use Rattle.m2_script.proofs.lines.Run.turn_all.Goals as goal

pub loop-node-init : goal.loop-node-init
loop-node-init g c =
    let E = g.row.P-End.Denot in
    let heard = heard_by in
    let all : c.args.nodes ≡ c.args.nodes - 0 = omega arith in
    subst (λ (n : ℕ). IsAmid E heard (turns_from 0 n) (turns_from 0 c.args.nodes) c.args.self.now c.args.self.now) all
    (amid_first E heard (turns_from 0 c.args.nodes) c.args.self.now c.requires)

pub turn_and_meet-requires : goal.turn_and_meet-requires
turn_and_meet-requires g c =
    let l = c.loop-node in
    can_next g.row.P-End.Denot heard_by (turns_from l.node (c.args.nodes - l.node)) (turn_and_meet l.node) (turns_from (l.node + 1) (c.args.nodes - (l.node + 1)))
    (turns_from 0 c.args.nodes) (next_turns l.node c.args.nodes c.loop-node-test.true) c.args.self.now l.self l.self l.invariant

pub loop-node-preserved : goal.loop-node-preserved
loop-node-preserved g c =
    let l = c.loop-node in
    amid_next g.row.P-End.Denot heard_by (turns_from l.node (c.args.nodes - l.node)) (turn_and_meet l.node) (turns_from (l.node + 1) (c.args.nodes - (l.node + 1)))
    (turns_from 0 c.args.nodes) (next_turns l.node c.args.nodes c.loop-node-test.true) c.args.self.now l.self c.turn_and_meet.new.self l.invariant c.in_ok-turn_and_meet.ensures

pub returns-in_err-turn_and_meet : goal.returns-in_err-turn_and_meet
returns-in_err-turn_and_meet g c =
    let l = c.loop-node in
    let p = err_from_is_err_and c.from_residual.result c.from_residual.ensures.1 in
    rw p.1 (amid_stops g.row.P-End.Denot heard_by (turns_from l.node (c.args.nodes - l.node)) (turn_and_meet l.node) (turns_from (l.node + 1) (c.args.nodes - (l.node + 1)))
    (turns_from 0 c.args.nodes) (next_turns l.node c.args.nodes c.loop-node-test.true) c.args.self.now l.self c.turn_and_meet.new.self l.invariant p.0 c.in_err-turn_and_meet.ensures)

pub returns : goal.returns
returns g c =
    let l = c.loop-node in
    let none : c.args.nodes - l.node ≡ 0 = omega arith in
    amid_last g.row.P-End.Denot heard_by (turns_from l.node (c.args.nodes - l.node)) (turns_from 0 c.args.nodes) c.args.self.now l.self (ap (turns_from l.node) none) l.invariant
