-- By what is promised of two records in turns.
use Rattle.m2_links_go_on.specs.Linked.{link_at}
use Rattle.m2_links_go_on.proofs.link_laws.links_are_woven.Goals as goal

pub returns : goal.returns
returns c = λ old new on flowed order.
    let link = c.links_go_on.ensures old new on in
    c.records_in_turns_are_woven.ensures (link_at old) (link_at new) (record { go_on = link.go_on; told = link.told; flowed = flowed; kept = link.kept }) order
