use Rattle.m2_scenario.proofs.Joined.{look_up_pushed}
use Rattle.m2_scenario.proofs.link_table.LinkTable.push.Goals as goal

pub invariant_of-self-2 : goal.invariant_of-self-2
invariant_of-self-2 c =
    let t = c.self.inside in
    look_up_pushed t.links.items c.push.new.self.items c.args.link t.joined c.cell.result c.cell-2.result
    c.in-Ok.ensures.0 c.cell.ensures.value c.cell-2.ensures.value c.self.invariant c.requires.first c.requires.second
