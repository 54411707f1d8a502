-- One round more, and at the end the stop.
use Rattle.std.proofs.Common.{◌≡◌, Bool, true, refl, suc, subst}
use Rattle.m2_node.specs.Dispatching.{ServesOnce}
use Rattle.m2_node.specs.Watching.{told}
use Rattle.m2_node.proofs.TakenOut.{serves_not, serves_then}
use Rattle.m2_node.proofs.Watched.{looked_once, same_asked, serves_asked}
use Rattle.m2_node.proofs.serving.Serving.serve_rounds.Goals as goal

pub rounds-init : goal.rounds-init
rounds-init g c = record { served = c.requires; same = serves_not c.args.self.now; steps = (0, refl) }

pub serve_round-requires : goal.serve_round-requires
serve_round-requires g c = serves_asked c.args.mails.now c.rounds.self c.ask.new.self _ c.ask.ensures c.rounds.invariant.served

pub rounds-preserved : goal.rounds-preserved
rounds-preserved g c =
    let l = c.rounds in
    let mid = c.ask.new.self in
    let new = c.serve_round.new.self in
    let asked : mid ≡ record l.self { watch = told true l.self.watch } = subst (λ (b : Bool). mid ≡ record l.self { watch = told b l.self.watch }) c.if-not-ask.false c.ask.ensures in
    let step : ServesOnce c.args.mails.now l.self new = looked_once c.args.mails.now l.self mid new asked c.serve_round.ensures.watch c.serve_round.ensures.looks in
    record {
      served = c.serve_round.ensures.served;
      same = serves_then c.args.self.now l.self new l.invariant.same (serves_then l.self mid new (same_asked l.self mid _ asked) c.serve_round.ensures.same);
      steps = (suc l.invariant.steps.0, (l.self, l.invariant.steps.1, step));
    }

pub returns-then-not-ask-clause-served : goal.returns-then-not-ask-clause-served
returns-then-not-ask-clause-served g c = serves_asked c.args.mails.now c.rounds.self c.ask.new.self _ c.ask.ensures c.rounds.invariant.served

pub returns-then-not-ask-clause-same : goal.returns-then-not-ask-clause-same
returns-then-not-ask-clause-same g c =
    serves_then c.args.self.now c.rounds.self c.ask.new.self c.rounds.invariant.same (same_asked c.rounds.self c.ask.new.self _ c.ask.ensures)

pub returns-then-not-ask-clause-runs : goal.returns-then-not-ask-clause-runs
returns-then-not-ask-clause-runs g c =
    let l = c.rounds in
    let new = c.ask.new.self in
    record {
      count = l.invariant.steps.0;
      last = l.self;
      steps = l.invariant.steps.1;
      stopped = subst (λ (b : Bool). new ≡ record l.self { watch = told b l.self.watch }) c.if-not-ask.true c.ask.ensures;
    }
