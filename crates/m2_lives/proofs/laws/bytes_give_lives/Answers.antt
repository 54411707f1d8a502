use Rattle.m2_lives.proofs.Points.{give_lives}
use Rattle.m2_lives.proofs.laws.bytes_give_lives.Goals as goal

pub returns : goal.returns
returns c = give_lives (record {
  events = c.events_are_lawful.ensures;
  sound = c.replays_are_sound.ensures;
  stays = c.paired_stays.ensures;
  new = c.starts_are_new.ensures;
})
