use Rattle.m2_never_reset.proofs.Posting.{never_reset}
use Rattle.m2_never_reset.proofs.pair_laws.lossless_is_never_reset.Goals as goal

pub returns : goal.returns
returns c = never_reset (record {
  events = c.events_are_lawful.ensures;
  sound = c.replays_are_sound.ensures;
  steps = c.entries_of_either_are_steps.ensures;
  new = c.starts_are_new.ensures;
  stays = c.paired_stays.ensures;
  go_on = c.runs_go_on.ensures;
}) c.cookies_are_mints.ensures c.lossless_is_in_order.ensures c.each_priority_keeps_its_order.ensures
    c.no_trouble_in_histories.ensures c.messages_come_in_order.ensures c.accepted_cookies_are_settled.ensures
