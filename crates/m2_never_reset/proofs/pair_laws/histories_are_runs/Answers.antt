use Rattle.m2_never_reset.proofs.Orders.{histories_are}
use Rattle.m2_never_reset.proofs.pair_laws.histories_are_runs.Goals as goal

pub returns : goal.returns
returns c = histories_are (record {
  events = c.events_are_lawful.ensures;
  sound = c.replays_are_sound.ensures;
  steps = c.entries_of_either_are_steps.ensures;
  new = c.starts_are_new.ensures;
  stays = c.paired_stays.ensures;
  go_on = c.runs_go_on.ensures;
})
