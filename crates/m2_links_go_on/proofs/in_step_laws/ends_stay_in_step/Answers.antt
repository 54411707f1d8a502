use Rattle.m2_links_go_on.proofs.in_step_laws.ends_stay_in_step.Goals as goal

pub returns : goal.returns
returns c = record {
  in_step = c.turns_stay_in_step.ensures;
  turns = c.turns_stay_met.ensures;
  turns_keep = c.turns_keep_ends.ensures;
  meetings = c.meetings_stay_met.ensures;
  flows = c.flows_stay_met.ensures;
  faults = c.faults_stay_met.ensures;
  calls_keep = c.calls_keep_ends.ensures;
  arrivals = c.arrivals_are_the_openers.ensures;
}
