-- The example.
use Rattle.m2_links_go_on.proofs.Example.{a_link_goes_on}
use Rattle.m2_links_go_on.proofs.link_laws.a_link_goes_on.Goals as goal

pub returns : goal.returns
returns c = a_link_goes_on
