-- One worker more, and at the end all.
use Rattle.std.proofs.Common.{◌≡◌, ◌∙◌, ◌-◌, ℕ, reverse, take, drop, ap, subst, arith}
use Rattle.m2_node.proofs.Places.{reverse_last}
use Rattle.m2_node.proofs.Workers.{AreJoined, centers_joined, next_joined, none_joined, others_left}
use Rattle.m2_node.proofs.threads.join_centers.Goals as goal

pub centers-init : goal.centers-init
centers-init g c =
    let x = c.args.node.now in
    let s = c.args.shares.now in
    let ws = reverse c.args.workers.now.items in
    let centers = c.in_ok-centers.centers.items in
    let all : x.centers ≡ x.centers - 0 = omega arith in
    record {
      joined = subst (λ (n : ℕ). AreJoined s n centers ws (take x.centers ws) (drop x.centers ws)) all (none_joined x s centers ws c.requires c.in_ok-centers.ensures.none);
      room = omega (arith, c.in_ok-centers.ensures.room);
    }

pub centers-preserved : goal.centers-preserved
centers-preserved g c =
    let l = c.centers in
    let x = c.args.node.now in
    let ws = reverse c.args.workers.now.items in
    record {
      joined = next_joined c.args.shares.now x.centers l.counter l.centers.items c.push_reserved.new.self.items c.into_parts.result.0 (reverse l.workers.items) (reverse c.pop.new.self.items)
          (take x.centers ws) (drop x.centers ws) c.in-Some.worker c.centers-test.true l.invariant.joined (ap reverse c.in-Some.ensures.items ∙ reverse_last c.pop.new.self.items c.in-Some.worker)
          c.push_reserved.ensures.items c.into_parts.ensures.center c.into_parts.ensures.served;
      room = omega (arith, l.invariant.room, c.push_reserved.ensures.len, c.push_reserved.ensures.capacity);
    }

pub returns-clause-centers : goal.returns-clause-centers
returns-clause-centers g c =
    let l = c.centers in
    let x = c.args.node.now in
    let ws = reverse c.args.workers.now.items in
    centers_joined c.args.shares.now x.centers l.counter l.centers.items (reverse l.workers.items) (take x.centers ws) (drop x.centers ws) c.centers-test.false l.invariant.joined

pub returns-clause-left : goal.returns-clause-left
returns-clause-left g c =
    let l = c.centers in
    let x = c.args.node.now in
    let ws = reverse c.args.workers.now.items in
    others_left c.args.shares.now x.centers l.counter l.centers.items (reverse l.workers.items) (take x.centers ws) (drop x.centers ws) c.centers-test.false l.invariant.joined
