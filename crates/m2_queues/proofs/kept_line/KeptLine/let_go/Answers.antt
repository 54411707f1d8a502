use Rattle.std.proofs.Common.{rules, ◌≡◌, ◌-◌, ◌≤◌, ◌++◌, length, drop, take, min, arith}
use Rattle.m2_queues.proofs.Kept.{kept_rest, waiting_rest}
use Rattle.m2_queues.proofs.kept_line.KeptLine.let_go.Goals as goal

pub returns : goal.returns
returns c =
    let w = c.self.inside in
    let front : c.drop-drain.new.self.0.items ≡ drop c.min-before.result w.front.items = search rules in
    let lane : c.drop-drain-2.new.self.0.items ≡ drop (c.args.count - c.min-before.result) w.lane.items = search rules in
    let first : c.min-before.result ≡ min c.args.count (length w.front.items) = omega (arith, c.min-before.ensures, c.len.ensures, w.front.ok) in
    let kept : c.args.count ≤ length (w.front.items ++ take w.taken w.lane.items) = rw (← c.self.view_is) at c.requires in
    rw (← c.self.view_is, front, lane, kept_rest c.args.count c.min-before.result w.taken w.front.items w.lane.items first kept, waiting_rest c.args.count c.min-before.result w.taken w.front.items w.lane.items first kept)
