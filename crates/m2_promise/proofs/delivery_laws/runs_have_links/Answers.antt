-- The lemma, by what is promised of nodes that stay.
use Rattle.m2_promise.proofs.Links.{is_link}
use Rattle.m2_promise.proofs.delivery_laws.runs_have_links.Goals as goal

pub returns : goal.returns
returns c = λ x h g a b run l near far.
    is_link x run h g a b l c.links_are_woven_so.ensures.sides c.posts_can_be_sent.ensures c.staying_goes_on.ensures c.links_go_on.ensures near far
