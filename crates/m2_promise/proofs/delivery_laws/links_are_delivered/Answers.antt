-- The lemma, by what is promised of links that are woven.
use Rattle.m2_promise.proofs.Logs.{all_delivered}
use Rattle.m2_promise.proofs.delivery_laws.links_are_delivered.Goals as goal

pub returns : goal.returns
returns c = λ x h g a b logs run orders l near far up.
    all_delivered x h g a b logs c.runs_have_links.ensures c.links_have_orders.ensures c.links_are_woven_so.ensures.read c.links_are_woven_so.ensures.asked c.links_are_woven_so.ensures.points c.trails_tell_each_point.ensures
    c.links_are_woven_so.ensures.never_reset c.links_are_woven_so.ensures.delivered run orders l near far up
