-- One line more, and at the end all.
use Rattle.std.proofs.Common.{◌≡◌, [], arith}
use Rattle.std.proofs.lemmas.List.{nil_from_length}
use Rattle.m2_node.proofs.StepLists.{behind_last, one_line_more}
use Rattle.m2_node.proofs.planning.steps_of.Goals as goal

pub lines-preserved : goal.lines-preserved
lines-preserved c =
    let l = c.lines in
    one_line_more c.args.nodes c.in-Some.line l.line-iterator.rest.items c.next.new.self.rest.items c.args.lines.items l.all.items c.add_line.new.all.items c.in-Some.ensures.steps.0 l.invariant c.in_ok-add_line.ensures

pub returns : goal.returns
returns c =
    let l = c.lines in
    let rest = l.line-iterator.rest in
    let empty : rest.items ≡ [] = nil_from_length rest.items (let e = c.in-None.ensures.steps.0 in let k = rest.ok in omega (arith, e, k)) in
    behind_last c.args.nodes rest.items c.args.lines.items l.all.items empty l.invariant
