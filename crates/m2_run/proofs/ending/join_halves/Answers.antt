-- One node more, and at the end all.
use Rattle.std.proofs.Common.{◌≡◌, ◌∙◌, ◌+◌, ◌-◌, ◌++◌, ◌≤◌, sym, ap, subst, [], ◌∷◌, length, length-append, map, arith}
use Rattle.std.specs.Prelude.{OnOk, vec_capacity, vec_len}
use Rattle.m2_run.specs.Opened.{LeftNow, OpenedNow, untold}
use Rattle.m2_run.specs.Rests.{EndedNow}
use Rattle.m2_run.proofs.Lasts.{halves_of, none_joined, one_joined, so_on_ok}
use Rattle.m2_run.proofs.ending.join_halves.Goals as goal

pub nodes-init : goal.nodes-init
nodes-init g c =
    let room : vec_len c.reserve.new.self + c.len.result ≤ vec_capacity c.reserve.new.self = so_on_ok c.reserve.result (sym c.is_err.ensures.value ∙ c.if-is_err.false) c.reserve.ensures.ok in
    record {
      joined = none_joined c.args.all.items c.reserve.new.self.items tt c.new-loose.result.items (c.reserve.ensures.items ∙ c.new-ends.ensures.items) c.new-loose.ensures.items;
      room = omega (arith, room, c.len.ensures);
    }

pub push_reserved-requires : goal.push_reserved-requires
push_reserved-requires g c =
    omega (arith, c.nodes.invariant.room, ap length c.in-Some.ensures.items, length-append c.pop.new.self.items (c.in-Some.node ∷ []))

pub nodes-preserved : goal.nodes-preserved
nodes-preserved g c =
    let l = c.nodes in
    let last = c.in-Some.ensures.items in
    let left : LeftNow = c.node.inside.left in
    let e : EndedNow = record { centers = c.node.inside.centers.items; halves = c.saturating_sub.result } in
    let many : c.saturating_sub.result ≡ length c.leave_halves-moved.new.into.items - length l.loose.items = omega arith in
    record {
      joined = one_joined c.args.all.items l.all.items c.pop.new.self.items c.in-Some.node l.ends.items c.push_reserved.new.self.items e l.moved c.leave_halves-moved.result l.loose.items
          c.leave_halves-moved.new.into.items last c.push_reserved.ensures.items (ap (λ (o : OpenedNow). o.centers) c.node.view_is) many
          (subst (λ (o : OpenedNow). OnOk c.leave_halves-moved.result (c.leave_halves-moved.new.into.items ≡ l.loose.items ++ map untold (halves_of o))) c.node.view_is c.leave_halves-moved.ensures.moves)
          c.leave_halves-moved.ensures.before l.invariant.joined;
      room = omega (arith, l.invariant.room, c.push_reserved.ensures.len, c.push_reserved.ensures.capacity, ap length last, length-append c.pop.new.self.items (c.in-Some.node ∷ []));
    }
