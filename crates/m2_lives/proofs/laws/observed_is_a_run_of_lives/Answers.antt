use Rattle.m2_lives.proofs.OneRun.{observed_runs}
use Rattle.m2_lives.proofs.laws.observed_is_a_run_of_lives.Goals as goal

pub returns : goal.returns
returns c = observed_runs (record {
  known = record {
    events = c.events_are_lawful.ensures;
    sound = c.replays_are_sound.ensures;
    stays = c.paired_stays.ensures;
    new = c.starts_are_new.ensures;
    tables = c.answers_are_steps.ensures;
    places = c.each_number_is_a_place.ensures;
    go_on = c.calls_go_on.ensures;
    cookies = c.cookies_tell_draws_apart.ensures;
  };
  kept = c.kept_messages_are_the_numbered.ensures;
  order = c.each_priority_keeps_its_order.ensures;
}) c.observed_is_a_run_to_a_mark.ensures
