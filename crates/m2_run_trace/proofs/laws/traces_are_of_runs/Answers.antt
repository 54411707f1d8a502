-- The deeds of the acts are those of the script.
use Rattle.std.proofs.Common.{List, subst}
use Rattle.m2_run_trace.specs.Acts.{Does, acts_of, first_stage}
use Rattle.m2_run_trace.proofs.Acts.{plays_does}
use Rattle.m2_run_trace.proofs.LineActs.{deeds_of_script}
use Rattle.m2_run_trace.proofs.laws.traces_are_of_runs.Goals as goal
use Rattle.m2_promise.specs.m2_script.Script.{Deed}
use Rattle.m2_scenario.specs.Text.{pieces}

pub returns : goal.returns
returns c = λ nodes links lines text trace t. record {
  begins = t.first;
  ends = subst (λ (ds : List Deed). Does ds t.run t.last.run) (deeds_of_script nodes links (pieces 10 text) lines)
      (plays_does nodes (acts_of nodes links (pieces 10 text) lines) (first_stage t.run) t.last t.plays);
}
