use Rattle.m2_lives.proofs.Acknowledging.{acknowledged}
use Rattle.m2_lives.proofs.laws.acknowledged_is_accepted_in_its_life.Goals as goal

pub returns : goal.returns
returns c = acknowledged (record {
  events = c.events_are_lawful.ensures;
  sound = c.replays_are_sound.ensures;
  stays = c.paired_stays.ensures;
  new = c.starts_are_new.ensures;
  tables = c.answers_are_steps.ensures;
  places = c.each_number_is_a_place.ensures;
  go_on = c.calls_go_on.ensures;
  cookies = c.cookies_tell_draws_apart.ensures;
})
