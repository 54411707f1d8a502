-- The lemma, by what is promised of lossy links that are woven.
use Rattle.m2_promise.proofs.Lossy.{all_come}
use Rattle.m2_promise.proofs.delivery_laws.lossy_links_come_in_order.Goals as goal

pub returns : goal.returns
returns c = λ x h g a b logs run orders l heard.
    all_come x h g a b logs c.runs_have_links.ensures c.links_have_orders.ensures c.links_are_woven_so.ensures.read c.links_are_woven_so.ensures.asked c.links_are_woven_so.ensures.points c.trails_tell_each_point.ensures
    c.links_are_woven_so.ensures.in_order run orders l heard
