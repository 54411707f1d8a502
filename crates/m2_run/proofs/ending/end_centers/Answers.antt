-- One center more, and at the end all.
use Rattle.std.proofs.Common.{rules, ◌≡◌, ◌∙◌, ◌+◌, ◌≤◌, List, [], ◌∷◌, ap, arith, length, length-append, subst, sym}
use Rattle.std.specs.Prelude.{slice_get, vec_capacity, vec_len}
use Rattle.std.specs.List.{AllByRecursion}
use Rattle.m2_node.proofs.m2_script.m2_center.Granted.{before_last}
use Rattle.m2_node.specs.Nodes.{IsServedBy}
use Rattle.m2_run.specs.Opened.{OpenedNow}
use Rattle.m2_run.specs.Rests.{EndedCenterNow}
use Rattle.m2_run.proofs.Lasts.{all_ended_of, none_ended_of, one_ended_of, room_turned, so_on_ok}
use Rattle.m2_run.proofs.ending.end_centers.Goals as goal
use Rattle.m2_bytes.proofs.m2_lemmas.Lists.{all_reverse}

pub centers-init : goal.centers-init
centers-init g c =
    let served = IsServedBy c.args.shared.now.numbers c.args.shared.now.throttles in
    let i = c.ended.inside in
    let now : OpenedNow = record { centers = c.reserve.new.self.items; left = i.left; puts = i.rights.puts.items; gets = i.rights.gets.items } in
    let same : now ≡ c.args.ended.now =
    ap (λ (cs : List EndedCenterNow). let o : OpenedNow = record { centers = cs; left = i.left; puts = i.rights.puts.items; gets = i.rights.gets.items } in o) c.reserve.ensures.items ∙ c.ended.view_is in
    let room : vec_len c.reserve.new.self + c.len.result ≤ vec_capacity c.reserve.new.self = so_on_ok c.reserve.result (sym c.is_err.ensures.value ∙ c.if-is_err.false) c.reserve.ensures.ok in
    let turned = c.reverse.ensures.items in
    let many : c.len.result ≡ length c.args.centers.items = cc (c.len.ensures, c.args.centers.ok.0) in
    record {
      ended = none_ended_of c.args.cuts.now (slice_get g.B.Inboxes.inboxes) c.args.number c.args.centers.items c.reverse.new.self.items c.args.ended.now now turned same;
      served = subst (AllByRecursion served) (sym turned) (all_reverse served c.args.centers.items c.requires);
      room = room_turned c.args.centers.items c.reverse.new.self.items c.len.result (vec_len c.reserve.new.self) (vec_capacity c.reserve.new.self) turned many room;
    }

pub end_center-requires : goal.end_center-requires
end_center-requires g c =
    let served = IsServedBy c.args.shared.now.numbers c.args.shared.now.throttles in
    (before_last served c.pop.new.self.items c.in-Some.center (subst (AllByRecursion served) c.in-Some.ensures.items c.centers.invariant.served)).1

pub push_reserved-requires : goal.push_reserved-requires
push_reserved-requires g c =
    omega (arith, c.centers.invariant.room, ap length c.in-Some.ensures.items, length-append c.pop.new.self.items (c.in-Some.center ∷ []))

pub centers-preserved : goal.centers-preserved
centers-preserved g c =
    let l = c.centers in
    let i = l.ended-inside in
    let served = IsServedBy c.args.shared.now.numbers c.args.shared.now.throttles in
    let last = c.in-Some.ensures.items in
    let old : OpenedNow = record { centers = i.centers.items; left = i.left; puts = i.rights.puts.items; gets = i.rights.gets.items } in
    let rights = c.end_center.new.rights in
    let new : OpenedNow = record { centers = c.push_reserved.new.self.items; left = c.end_center.new.left; puts = rights.puts.items; gets = rights.gets.items } in
    record {
      ended = one_ended_of c.args.cuts.now (slice_get g.B.Inboxes.inboxes) c.args.number c.args.centers.items l.centers.items c.pop.new.self.items c.in-Some.center c.in-Ok.left c.args.ended.now old new last
          c.push_reserved.ensures.items c.in-Ok.ensures.ends c.end_center.ensures.types l.invariant.ended;
      served = (before_last served c.pop.new.self.items c.in-Some.center (subst (AllByRecursion served) last l.invariant.served)).0;
      room = omega (arith, l.invariant.room, c.push_reserved.ensures.len, c.push_reserved.ensures.capacity, ap length last, length-append c.pop.new.self.items (c.in-Some.center ∷ []));
    }

pub clear_centers-requires-in-Err : goal.clear_centers-requires-in-Err
clear_centers-requires-in-Err g c =
    let served = IsServedBy c.args.shared.now.numbers c.args.shared.now.throttles in
    (before_last served c.pop.new.self.items c.in-Some.center (subst (AllByRecursion served) c.in-Some.ensures.items c.centers.invariant.served)).0

pub returns : goal.returns
returns g c =
    let l = c.centers in
    let none : l.centers.items ≡ [] = search rules in
    let all = all_ended_of c.args.cuts.now (slice_get g.B.Inboxes.inboxes) c.args.number c.args.centers.items l.centers.items c.args.ended.now _ none l.invariant.ended in
    record { ends = all.0; types = all.1 }
