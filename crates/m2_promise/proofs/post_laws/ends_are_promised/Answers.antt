-- The lemma, by what is promised of orders that are woven, of the observed run and of logs.
use Rattle.m2_promise.proofs.Promised.{promised}
use Rattle.m2_promise.proofs.post_laws.ends_are_promised.Goals as goal

pub returns : goal.returns
returns c = λ nodes links lines beside s sound ended.
    promised
    (record {
      read = c.links_are_woven_so.ensures.read;
      asked = c.links_are_woven_so.ensures.asked;
      points = c.links_are_woven_so.ensures.points;
      tell = c.trails_tell_each_point.ensures;
      never = c.links_are_woven_so.ensures.never_reset;
      delivers = c.links_are_woven_so.ensures.delivered;
      to_a_mark = c.links_are_woven_so.ensures.to_a_mark;
      comes = c.links_are_woven_so.ensures.in_order;
      observed = c.observed_is_a_run.ensures;
      acknowledged = c.acknowledged_is_accepted.ensures;
      counts = c.links_are_woven_so.ensures.counts;
      logs = c.logs_are_logs_of_what_is_handed_on.ensures;
      fit = c.links_are_woven_so.ensures.bytes_fit;
      in_lives = c.logs_are_in_lives.ensures;
      lives = c.bytes_come_in_lives.ensures;
    })
    nodes links lines beside s sound ended
