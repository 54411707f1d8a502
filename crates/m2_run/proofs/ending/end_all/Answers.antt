-- One node more, and at the end all.
use Rattle.std.proofs.Common.{rules, ◌≡◌, ◌<◌, ◌∙◌, ◌+◌, ◌≤◌, sym, ap, [], ◌∷◌, length, length-append, arith}
use Rattle.std.specs.Prelude.{slice_get, vec_capacity, vec_len}
use Rattle.std.proofs.lemmas.List.{length-reverse}
use Rattle.m2_bytes.specs.Items.{Holding}
use Rattle.m2_fabric.specs.declared.port.Cut.{Cut}
use Rattle.m2_run.specs.Cuts.{cuts_at}
use Rattle.m2_run.proofs.CutLists.{cuts_there}
use Rattle.m2_run.proofs.Lasts.{next_ended, none_ended, so_on_ok}
use Rattle.m2_run.proofs.LogLists.{all_logged, none_logged, one_logged}
use Rattle.m2_run.proofs.ending.end_all.Goals as goal

pub nodes-init : goal.nodes-init
nodes-init g c =
    let room : vec_len c.reserve.new.self + c.len.result ≤ vec_capacity c.reserve.new.self = so_on_ok c.reserve.result (sym c.is_err.ensures.value ∙ c.if-is_err.false) c.reserve.ensures.ok in
    let turned = c.reverse.ensures.items in
    record {
      ended = none_ended (cuts_at c.args.cuts.now) (slice_get g.B.Inboxes.inboxes) c.args.all.items c.reverse.new.self.items c.reserve.new.self.items turned (c.reserve.ensures.items ∙ c.new-ends.ensures.items);
      count = omega (arith, ap length (c.reserve.ensures.items ∙ c.new-ends.ensures.items), ap length turned, length-reverse c.args.all.items, c.requires.cuts);
      logged = none_logged c.args.all.items c.reverse.new.self.items c.args.logs.now.items turned c.requires.logs;
      room = omega (arith, room, c.len.ensures, ap length turned, length-reverse c.args.all.items);
    }

pub end_next-requires : goal.end_next-requires
end_next-requires g c =
    omega (arith, c.nodes.invariant.room, ap length c.in-Some.ensures.items, length-append c.pop.new.self.items (c.in-Some.node ∷ []))

pub nodes-preserved : goal.nodes-preserved
nodes-preserved g c =
    let l = c.nodes in
    let place = c.len-place.result in
    let last = c.in-Some.ensures.items in
    let one = length-append c.pop.new.self.items (c.in-Some.node ∷ []) in
    let here : place ≡ length l.ends.items = omega (arith, c.len-place.ensures) in
    let within : place < length c.args.cuts.now = omega (arith, l.invariant.count, ap length last, one, c.len-place.ensures) in
    let own : c.as_slice.result.now ≡ cuts_at c.args.cuts.now (length l.ends.items) =
    c.as_slice.ensures ∙ ap (λ (h : Holding Cut). h.items) c.index-cuts-place.is ∙ cuts_there c.args.cuts.now place c.index-cuts-place.result within ∙ ap (cuts_at c.args.cuts.now) here in
    record {
      ended = next_ended (cuts_at c.args.cuts.now) (slice_get g.B.Inboxes.inboxes) c.args.all.items l.all.items c.pop.new.self.items c.in-Some.node l.ends.items c.end_next.new.ends.items l.number c.in-Ok.behind
          c.as_slice.result.now last own c.in-Ok.ensures.ends c.in-Ok.ensures.types l.invariant.ended;
      count = omega (arith, l.invariant.count, ap length c.in-Ok.ensures.ends.last, length-append l.ends.items (c.in-Ok.ensures.ends.ended ∷ []), ap length last, one);
      logged = one_logged c.args.all.items l.all.items c.pop.new.self.items c.in-Some.node l.logs.items c.end_next.new.logs.items last c.in-Ok.ensures.log l.invariant.logged;
      room = omega (arith, l.invariant.room, c.in-Ok.ensures.len, c.in-Ok.ensures.capacity, ap length last, one);
    }

pub returns-clause-logs : goal.returns-clause-logs
returns-clause-logs g c =
    let none : c.nodes.all.items ≡ [] = search rules in
    all_logged c.args.all.items c.nodes.all.items c.nodes.logs.items none c.nodes.invariant.logged
