-- One turn or wait more, and at the end the stop.
use Rattle.std.proofs.Common.{◌∙◌, refl, suc, subst}
use Rattle.std.proofs.lemmas.Bool.{OnFalse_at, OnTrue_at}
use Rattle.m2_node.specs.Handing.{SendsOnce}
use Rattle.m2_node.specs.Working.{Stops, WorkerNow}
use Rattle.m2_node.specs.declared.end.RunEnd.{RunEnd}
use Rattle.m2_node.proofs.Watched.{sent, still_started}
use Rattle.m2_node.proofs.sending.Sender.take_turns.Goals as goal

pub turns-init : goal.turns-init
turns-init g c = record { steps = (0, refl); sends = c.requires.sends; started = c.requires.started }

pub turns-preserved : goal.turns-preserved
turns-preserved g c =
    let E = RunEnd g.row.P-End.Denot in
    let may = g.C.Clock.may_give c.args.clock.now in
    let l = c.turns in
    let new = c.go_on.new.self in
    let step : SendsOnce E may l.self new =
    sent E may c.args.mail.now l.self c.post.new.self new c.post.ensures.worker c.post.ensures.sends c.post.ensures.full c.go_on.ensures.put (OnTrue_at c.if-not-go_on.false c.go_on.ensures.goes) in
    record {
      steps = (suc l.invariant.steps.0, (l.self, l.invariant.steps.1, step));
      sends = c.go_on.ensures.sends c.args.mail.now c.post.ensures.sends;
      started = still_started E may l.self new step ∙ l.invariant.started;
    }

pub returns-then-not-go_on-clause-runs : goal.returns-then-not-go_on-clause-runs
returns-then-not-go_on-clause-runs g c =
    let l = c.turns in
    record {
      count = l.invariant.steps.0;
      last = l.self;
      steps = l.invariant.steps.1;
      stopped = subst (λ (w : WorkerNow). Stops w c.go_on.new.self.worker) c.post.ensures.worker (OnFalse_at c.if-not-go_on.true c.go_on.ensures.stops);
    }
