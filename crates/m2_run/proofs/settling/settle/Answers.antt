-- One round more.
use Rattle.m2_run.proofs.Rounds.{gone_not, gone_then}
use Rattle.m2_run.proofs.settling.settle.Goals as goal

pub rounds-init : goal.rounds-init
rounds-init g c = gone_not (g.C.Clock.may_give c.args.clock.now) c.args.from c.args.nodes.now c.args.all.now c.requires.given

pub rounds-preserved : goal.rounds-preserved
rounds-preserved g c =
    let l = c.rounds in
    gone_then (g.C.Clock.may_give c.args.clock.now) c.args.from l.now c.in_ok-now.now c.args.nodes.now c.args.all.now l.all c.go_round.new.all
    l.invariant c.in_ok-now.ensures
