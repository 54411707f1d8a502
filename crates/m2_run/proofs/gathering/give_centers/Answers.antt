-- One thread more, and at the end all.
use Rattle.std.proofs.Common.{rules, ◌≡◌, []}
use Rattle.m2_run.proofs.Giving.{all_have_given, none_have_given, one_has_given}
use Rattle.m2_run.proofs.gathering.give_centers.Goals as goal

pub centers-init : goal.centers-init
centers-init g c = none_have_given c.args.cuts.now c.args.centers.items c.reverse.new.self.items c.args.into.now c.reverse.ensures.items

pub centers-preserved : goal.centers-preserved
centers-preserved g c =
    let l = c.centers in
    one_has_given c.args.cuts.now c.args.centers.items l.centers.items c.pop.new.self.items c.in-Some.center c.args.into.now l.into c.give_center.new.into c.in-Some.ensures.items c.in_default-give_center.ensures l.invariant

pub returns : goal.returns
returns g c =
    let l = c.centers in
    let none : l.centers.items ≡ [] = search rules in
    all_have_given c.args.cuts.now c.args.centers.items l.centers.items c.args.into.now l.into none l.invariant
