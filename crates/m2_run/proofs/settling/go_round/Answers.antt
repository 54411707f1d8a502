-- All turn, and then wait.
use Rattle.m2_run.proofs.Rounds.{gone_round}
use Rattle.m2_run.proofs.settling.go_round.Goals as goal

pub returns : goal.returns
returns g c =
    let now = c.next_moment-now in
    gone_round _ _ g.C.Clock.may_give c.turns_go_on.ensures c.polls_go_on.ensures c.waiting_goes_on.ensures c.args.clock.now c.args.earlier now.result
    c.args.nodes.now c.args.all.now c.round.new.all c.rest.new.all now.ensures.never_falls (now.ensures.given c.requires.given) c.in_ok-round.ensures c.rest.ensures
