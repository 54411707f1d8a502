-- The one over the link, where its peer is at home there.
use Rattle.std.proofs.Common.{sym, ◌∙◌}
use Rattle.m2_node.proofs.NewRecords.{none_at_home, one_at_home}
use Rattle.m2_script.specs.Made.{other_of}
use Rattle.m2_node.proofs.records.record_at_home.Goals as goal

pub returns-then-its-home : goal.returns-then-its-home
returns-then-its-home g c =
    let home = c.args.home.now in
    none_at_home c.args.nodes.now home.centers home.center c.args.number c.args.word c.in-Some.t (other_of c.args.number c.args.link.now) (sym c.other_of.ensures ∙ c.in-Some.is)
    (λ e. c.if-its-home.true (c.home_at-its.ensures ∙ e))

pub returns : goal.returns
returns g c =
    let home = c.args.home.now in
    one_at_home c.args.nodes.now home.centers home.center c.args.number c.args.word c.in-Some.t (other_of c.args.number c.args.link.now) c.record_over.result (sym c.other_of.ensures ∙ c.in-Some.is)
    (sym c.home_at-its.ensures ∙ c.if-its-home.false) c.record_over.ensures
