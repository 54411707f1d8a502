-- The merge by counters is the weaving by bytes.
use Rattle.std.proofs.Common.{◌≡◌, ◌+◌, ◌*◌, ◌∙◌, length, sym, ap, subst}
use Rattle.m2_weave.specs.Counted.{Strands, by_counters, entries_of, lengths}
use Rattle.m2_weave.specs.Merging.{even}
use Rattle.m2_weave.specs.Order.{Cut, IsGreedy, reached}
use Rattle.m2_weave.proofs.Furthest.{reached-count}
use Rattle.m2_weave.specs.Counting.{counted}
use Rattle.m2_weave.specs.Rule.{by_bytes}
use Rattle.m2_weave.specs.Stops.{sizes}
use Rattle.m2_weave.specs.Table.{names_of, woven_of}
use Rattle.m2_weave.proofs.Counting.{decide}
use Rattle.m2_weave.proofs.Whole.{counters_are_there, greedy_by, lengths_are, lengths_count}
use Rattle.m2_weave.proofs.weaving.weave.Goals as goal

pub merge-requires : goal.merge-requires
merge-requires c =
    let w = woven_of c.args.strands.now c.args.sockets.now in
    let same : entries_of c.deref.result.now ≡ counted (names_of c.args.sockets.now) w = ap entries_of c.deref.ensures.value ∙ c.in_ok-counted.ensures in
    record {
      within = counters_are_there c.args.sockets.now w (entries_of c.deref.result.now) (4 * c.len-2.result + 4) same (ap (λ n. 4 * n + 4) c.len-2.ensures);
    }

pub is_all-whole-requires : goal.is_all-whole-requires
is_all-whole-requires c =
    let w = woven_of c.args.strands.now c.args.sockets.now in
    let same : entries_of c.deref.result.now ≡ counted (names_of c.args.sockets.now) w = ap entries_of c.deref.ensures.value ∙ c.in_ok-counted.ensures in
    let at : c.in_ok-merged.merged.at.items ≡ reached (sizes w) c.in_ok-merged.merged.order.items =
    c.in_ok-merged.ensures.stop ∙ ap (λ (es : Strands). reached (lengths es) c.in_ok-merged.merged.order.items) same
    ∙ ap (λ (all : Cut). reached all c.in_ok-merged.merged.order.items) (decide.sizes (names_of c.args.sockets.now) w) in
    ap length (c.as_slice.ensures ∙ at) ∙ reached-count (sizes w) c.in_ok-merged.merged.order.items
    ∙ ap length (sym (lengths_are c.args.strands.now c.args.sockets.now)) ∙ lengths_count c.args.strands.now

pub returns-clause-greedy : goal.returns-clause-greedy
returns-clause-greedy c =
    let w = woven_of c.args.strands.now c.args.sockets.now in
    let same : entries_of c.deref.result.now ≡ counted (names_of c.args.sockets.now) w = ap entries_of c.deref.ensures.value ∙ c.in_ok-counted.ensures in
    greedy_by even (by_counters (counted (names_of c.args.sockets.now) w)) (by_bytes w) (lengths (counted (names_of c.args.sockets.now) w)) (sizes w)
    c.in_ok-merged.merged.order.items (decide.rule (names_of c.args.sockets.now) w c.requires.named) (decide.sizes (names_of c.args.sockets.now) w)
    (subst (λ (es : Strands). IsGreedy even (by_counters es) (lengths es) c.in_ok-merged.merged.order.items) same c.in_ok-merged.ensures.greedy)

pub returns-clause-at : goal.returns-clause-at
returns-clause-at c =
    let w = woven_of c.args.strands.now c.args.sockets.now in
    let same : entries_of c.deref.result.now ≡ counted (names_of c.args.sockets.now) w = ap entries_of c.deref.ensures.value ∙ c.in_ok-counted.ensures in
    c.in_ok-merged.ensures.stop ∙ ap (λ (es : Strands). reached (lengths es) c.in_ok-merged.merged.order.items) same
    ∙ ap (λ (all : Cut). reached all c.in_ok-merged.merged.order.items) (decide.sizes (names_of c.args.sockets.now) w)

pub returns-clause-whole : goal.returns-clause-whole
returns-clause-whole c = (
  λ h. sym c.as_slice.ensures ∙ c.is_all-whole.ensures.0 h ∙ lengths_are c.args.strands.now c.args.sockets.now,
  λ e. c.is_all-whole.ensures.1 (c.as_slice.ensures ∙ e ∙ sym (lengths_are c.args.strands.now c.args.sockets.now)),
)
