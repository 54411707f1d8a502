-- One call more, and at the end all.
use Rattle.std.proofs.Common.{◌∙◌, drop, length, ap, arith}
use Rattle.std.specs.Prelude.{filter}
use Rattle.m2_node.specs.Counting.{count_in, count_on, does_count, most}
use Rattle.m2_node.proofs.Counted.{all_counted, none_counted, one_counted, still_most}
use Rattle.m2_node.proofs.worker.counted.Goals as goal

pub calls-init : goal.calls-init
calls-init c = record { counted = none_counted (length (filter (does_count c.args.counts.now) (drop c.args.from c.args.log.now))) most; below = omega arith }

pub calls-preserved : goal.calls-preserved
calls-preserved c =
    let l = c.calls in
    let log = c.args.log.now in
    let counts = c.args.counts.now in
    let x = c.index-log-k.result in
    record {
      counted = one_counted counts log l.k l.count (count_in counts (drop c.args.from log)) c.count_call-count.result x c.calls-test.true c.index-log-k.is (c.count_call-count.ensures ∙ ap (λ b. count_on b l.count) c.is_counted.ensures) l.invariant.counted;
      below = still_most (does_count counts x) l.count c.count_call-count.result (c.count_call-count.ensures ∙ ap (λ b. count_on b l.count) c.is_counted.ensures) l.invariant.below;
    }

pub returns : goal.returns
returns c =
    let l = c.calls in
    let log = c.args.log.now in
    let counts = c.args.counts.now in
    all_counted counts log l.k l.count (count_in counts (drop c.args.from log)) c.calls-test.false l.invariant.below l.invariant.counted
