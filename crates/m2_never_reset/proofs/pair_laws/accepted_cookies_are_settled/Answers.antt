use Rattle.m2_never_reset.proofs.Lossless.{settled}
use Rattle.m2_never_reset.proofs.pair_laws.accepted_cookies_are_settled.Goals as goal

pub returns : goal.returns
returns c = settled (record {
  events = c.events_are_lawful.ensures;
  sound = c.replays_are_sound.ensures;
  steps = c.entries_of_either_are_steps.ensures;
  new = c.starts_are_new.ensures;
  stays = c.paired_stays.ensures;
  go_on = c.runs_go_on.ensures;
}) c.cookies_are_mints.ensures c.accepted_is_settled.ensures c.histories_are_runs.ensures
