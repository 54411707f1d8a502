-- The nodes have gone on from where they began to where they stopped.
use Rattle.std.proofs.Common.{sym, subst}
use Rattle.std.proofs.lemmas.Result.{IfErr-weaker, IfOk-weaker}
use Rattle.m2_run.specs.Listening.{IsListeningFault}
use Rattle.m2_node.specs.Working.{nodes_of_workers}
use Rattle.m2_run.specs.declared.outcome.RunFault.{RunFault}
use Rattle.m2_run.proofs.Runs.{has_stopped}
use Rattle.m2_node.proofs.StepLists.{ok_always}
use Rattle.m2_run.proofs.running.run_threads.Goals as goal

pub returns-clause-stopped : goal.returns-clause-stopped
returns-clause-stopped g c =
    let may = g.C.Clock.may_give c.args.clock.now in
    let nodes = c.args.nodes.now in
    let begun = c.in_ok-begun.begun in
    let told = c.in_ok-begun.ensures in
    IfOk-weaker c.play_out.result _ _
    (λ s p. (
      begun.start,
      p.0,
      p.1,
      has_stopped may c.args.limit nodes c.args.links.now c.args.lines.items c.args.cuts.now begun.start p.0 (nodes_of_workers nodes c.args.shares.now begun.workers.items) p.1 s.left s.all.items
          told.given told.nodes p.2 p.4 p.3,
      p.5,
    )) c.play_out.ensures.stopped

pub returns-clause-out : goal.returns-clause-out
returns-clause-out g c = IfOk-weaker c.play_out.result _ _ (λ s has. c.in_ok-begun.ensures.out) c.play_out.ensures.rooms

pub returns-clause-faults : goal.returns-clause-faults
returns-clause-faults g c = ok_always c.play_out.result _ c.in_ok-begun.ensures.faults

pub returns-clause-err : goal.returns-clause-err
returns-clause-err g c =
    let seen = g.F.Fabric.seen in
    let fault_of = λ (f : RunFault). IsListeningFault f c.args.nodes.now (seen c.args.fabric.now) (seen c.begin.new.fabric) in
    IfErr-weaker c.play_out.result _ _ (λ f none. subst fault_of (sym none) c.in_ok-begun.ensures.faults) c.play_out.ensures.err
