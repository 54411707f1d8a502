-- One turn more.
use Rattle.std.proofs.Common.{◌≡◌, ℕ, ◌+◌, ◌-◌, ◌<◌, ◌≤◌, [], ◌∷◌, length, ap, subst, arith}
use Rattle.m2_run_trace.specs.Acts.{turn_act, turn_acts}
use Rattle.m2_run_trace.proofs.Acts.{IsAmid, amid_first, amid_last, amid_next, can_next, one_plays}
use Rattle.m2_run_trace.proofs.LineActs.{next_turn}
use Rattle.m2_run_trace.proofs.playing.turn_all.Goals as goal

pub nodes-init : goal.nodes-init
nodes-init c =
    let nodes = c.args.scene.now.nodes.now in
    let acts = turn_acts nodes 0 (length nodes) in
    let all : length nodes ≡ length nodes - 0 = omega arith in
    subst (λ (n : ℕ). IsAmid nodes acts (turn_acts nodes 0 n) c.args.stage.now c.args.stage.now) all (amid_first nodes acts c.args.stage.now c.requires)

pub play_turn-requires : goal.play_turn-requires
play_turn-requires c =
    let l = c.nodes in
    let nodes = c.args.scene.now.nodes.now in
    let within : l.node < length nodes = rw c.args.scene.now.counted at c.nodes-test.true in
    can_next nodes (turn_acts nodes 0 (length nodes)) (turn_acts nodes l.node (length nodes - l.node)) (turn_act nodes l.node ∷ []) (turn_acts nodes (l.node + 1) (length nodes - (l.node + 1)))
    c.args.stage.now l.stage (next_turn nodes l.node (length nodes) within) l.invariant

pub nodes-preserved : goal.nodes-preserved
nodes-preserved c =
    let l = c.nodes in
    let nodes = c.args.scene.now.nodes.now in
    let within : l.node < length nodes = rw c.args.scene.now.counted at c.nodes-test.true in
    amid_next nodes (turn_acts nodes 0 (length nodes)) (turn_acts nodes l.node (length nodes - l.node)) (turn_act nodes l.node ∷ []) (turn_acts nodes (l.node + 1) (length nodes - (l.node + 1)))
    c.args.stage.now l.stage (next_turn nodes l.node (length nodes) within) l.invariant c.play_turn.new.stage
    (one_plays nodes (turn_act nodes l.node) l.stage c.play_turn.new.stage c.in_ok-play_turn.ensures)

pub returns : goal.returns
returns c =
    let l = c.nodes in
    let nodes = c.args.scene.now.nodes.now in
    let past : length nodes ≤ l.node = rw c.args.scene.now.counted at c.nodes-test.false in
    let none : length nodes - l.node ≡ 0 = omega (arith, past) in
    amid_last nodes (turn_acts nodes 0 (length nodes)) (turn_acts nodes l.node (length nodes - l.node)) c.args.stage.now l.stage (ap (turn_acts nodes l.node) none) l.invariant
