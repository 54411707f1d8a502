-- One round more.
use Rattle.std.proofs.Common.{◌≡◌, ℕ, ◌+◌, ◌-◌, ap, subst, arith}
use Rattle.m2_run_trace.specs.Acts.{round_acts, rounds_acts}
use Rattle.m2_run_trace.proofs.Acts.{IsAmid, amid_first, amid_last, amid_next, can_next}
use Rattle.m2_run_trace.proofs.LineActs.{next_round}
use Rattle.m2_run_trace.proofs.playing.play_rounds.Goals as goal

pub rounds-init : goal.rounds-init
rounds-init c =
    let nodes = c.args.scene.now.nodes.now in
    let acts = rounds_acts nodes c.args.scene.now.links.now in
    let all : c.args.rounds ≡ c.args.rounds - 0 = omega arith in
    subst (λ (n : ℕ). IsAmid nodes (acts c.args.rounds) (acts n) c.args.stage.now c.args.stage.now) all (amid_first nodes (acts c.args.rounds) c.args.stage.now c.requires)

pub play_round-requires : goal.play_round-requires
play_round-requires c =
    let l = c.rounds in
    let nodes = c.args.scene.now.nodes.now in
    let links = c.args.scene.now.links.now in
    let acts = rounds_acts nodes links in
    can_next nodes (acts c.args.rounds) (acts (c.args.rounds - l.counter)) (round_acts nodes links) (acts (c.args.rounds - (l.counter + 1)))
    c.args.stage.now l.stage (next_round nodes links l.counter c.args.rounds c.rounds-test.true) l.invariant

pub rounds-preserved : goal.rounds-preserved
rounds-preserved c =
    let l = c.rounds in
    let nodes = c.args.scene.now.nodes.now in
    let links = c.args.scene.now.links.now in
    let acts = rounds_acts nodes links in
    amid_next nodes (acts c.args.rounds) (acts (c.args.rounds - l.counter)) (round_acts nodes links) (acts (c.args.rounds - (l.counter + 1)))
    c.args.stage.now l.stage (next_round nodes links l.counter c.args.rounds c.rounds-test.true) l.invariant c.play_round.new.stage c.in_ok-play_round.ensures

pub returns : goal.returns
returns c =
    let l = c.rounds in
    let nodes = c.args.scene.now.nodes.now in
    let acts = rounds_acts nodes c.args.scene.now.links.now in
    let none : c.args.rounds - l.counter ≡ 0 = omega arith in
    amid_last nodes (acts c.args.rounds) (acts (c.args.rounds - l.counter)) c.args.stage.now l.stage (ap acts none) l.invariant
