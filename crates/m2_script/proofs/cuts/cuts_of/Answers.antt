-- The cut of a line more.
use Rattle.std.proofs.Common.{◌++◌, take, ap, sym, ◌∙◌}
use Rattle.std.specs.Option.{option_to_list}
use Rattle.m2_script.specs.Nodes.{cut_in, cuts_of}
use Rattle.m2_script.proofs.CutsMore.{cuts_more}
use Rattle.m2_script.proofs.cuts.cuts_of.Goals as goal

pub loop-line-preserved : goal.loop-line-preserved
loop-line-preserved c =
    let l = c.loop-line in
    let nodes = c.args.nodes.now in
    c.in_ok-add.ensures
    ∙ ap (λ cuts. cuts ++ option_to_list c.cut_in.result) l.invariant
    ∙ ap (λ cut. cuts_of nodes (take l.line-index c.args.lines.now) c.args.number ++ option_to_list cut) (c.cut_in.ensures ∙ ap (cut_in nodes c.args.number) c.line-item.is)
    ∙ sym (cuts_more nodes c.args.number c.args.lines.now l.line-index c.line-item.result c.loop-line-test.true)
