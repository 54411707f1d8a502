-- A node that stays as it is goes on.
use Rattle.m2_links_go_on.specs.LinkLaws.{StayingGoesOn}
use Rattle.m2_growth.proofs.Going.{grows_same}

pub staying_goes_on : StayingGoesOn
staying_goes_on n place node here = record { before = node; now = node; grows = grows_same n.holding node.own; place = place; was = here; is = here }
