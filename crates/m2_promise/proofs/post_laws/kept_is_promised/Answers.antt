-- Such a run is at its end, wherever its lines lead.
use Rattle.m2_promise.proofs.KeptEnds.{kept_promise}
use Rattle.m2_promise.proofs.post_laws.kept_is_promised.Goals as goal

pub returns : goal.returns
returns c = λ nodes links lines s sound types kept plans noted.
    kept_promise nodes links lines s types kept plans c.ends_are_promised.ensures c.runs_have_links.ensures c.links_have_orders.ensures sound noted
