-- One call more.
use Rattle.std.proofs.Common.{◌≡◌, ◌+◌, ◌-◌, ◌∙◌, suc, arith}
use Rattle.m2_script.proofs.Moving.{left_fewer, moved_more}
use Rattle.m2_script.proofs.turns.move_some.Goals as goal

pub loop-preserved : goal.loop-preserved
loop-preserved c =
    let l = c.loop in
    let n = c.args.count - l.counter in
    let m = c.args.count - (l.counter + 1) in
    let fewer : n ≡ suc m = omega arith in
    record {
      into = moved_more l.into.items c.push.new.self.items l.from.rest.items c.next.new.self.rest.items c.in-Some.call n m c.in-Some.ensures.items fewer c.in_ok-push.ensures.items ∙ l.invariant.into;
      from = left_fewer l.from.rest.items c.next.new.self.rest.items c.in-Some.call n m c.in-Some.ensures.items fewer ∙ l.invariant.from;
    }
