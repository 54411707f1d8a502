-- One half more, and at the end all.
use Rattle.std.proofs.Common.{◌≡◌, ◌+◌, ◌-◌, ◌∙◌, suc, map, sym, ap, arith}
use Rattle.m2_node.specs.Ends.{seen_end}
use Rattle.m2_node.proofs.m2_script.Moving.{left_fewer}
use Rattle.m2_run.proofs.Giving.{first_none, none_of, one_half}
use Rattle.m2_run.proofs.gathering.give_halves.Goals as goal

pub loop-preserved : goal.loop-preserved
loop-preserved g c =
    let l = c.loop in
    let n = c.args.count - l.counter in
    let m = c.args.count - (l.counter + 1) in
    let fewer : n ≡ suc m = omega arith in
    record {
      given = λ all o. l.invariant.given all
          (one_half g.E.End.seen l.into.items c.push.new.self.items l.loose.rest.items c.next.new.self.rest.items c.in_ok-own_inside.field-0 c.in-Some.half n m all c.in-Some.ensures.items fewer
          c.in_ok-push.ensures.items (sym c.into_parts-end.ensures.end ∙ ap seen_end c.in-Some-into_left.ensures ∙ c.in_ok-own_inside.ensures) o);
      left = left_fewer l.loose.rest.items c.next.new.self.rest.items c.in-Some.half n m c.in-Some.ensures.items fewer ∙ l.invariant.left;
    }

pub returns-in_default-clause-given : goal.returns-in_default-clause-given
returns-in_default-clause-given g c =
    let l = c.loop in
    let left = l.loose.rest in
    let now = map g.E.End.seen l.into.items in
    l.invariant.given now (none_of (c.args.count - l.counter) left.items now (sym left.ok.0 ∙ c.in_default.ensures.cases.0))

pub returns-clause-given : goal.returns-clause-given
returns-clause-given g c =
    let l = c.loop in
    let now = map g.E.End.seen l.into.items in
    let n = c.args.count - l.counter in
    let none : n ≡ 0 = omega (arith, c.loop-test.false) in
    l.invariant.given now (first_none n l.loose.rest.items now none)
