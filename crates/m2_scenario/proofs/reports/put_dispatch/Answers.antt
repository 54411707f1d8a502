use Rattle.std.proofs.Common.{codes, decimal}
use Rattle.m2_scenario.specs.Report.{path_word}
use Rattle.m2_scenario.proofs.Appended.{and_then, and_part}
use Rattle.m2_scenario.proofs.reports.put_dispatch.Goals as goal

pub returns : goal.returns
returns c =
    let old = c.args.out.now.bytes in
    let key = c.args.key.now in
    let m = c.args.message.now in
    let h1 = c.in_ok-push_all.ensures.0 in
    let h2 = and_then old _ (codes " from ") _ _ h1 c.in_ok-push_all-2.ensures.0 in
    let h3 = and_then old _ c.args.peer.now _ _ h2 c.in_ok-push_all-3.ensures.0 in
    let h4 = and_then old _ (codes " ") _ _ h3 c.in_ok-push_all-4.ensures.0 in
    let h5 = and_then old _ (decimal key.priority) _ _ h4 c.in_ok-put_decimal.ensures.0 in
    let h6 = and_then old _ (codes " ") _ _ h5 c.in_ok-push_all-5.ensures.0 in
    let h7 = and_then old _ (path_word key.path) _ _ h6 (rw (← c.path_word.ensures) c.in_ok-push_all-6.ensures.0) in
    let h8 = and_then old _ (codes " ") _ _ h7 c.in_ok-push_all-7.ensures.0 in
    let h9 = and_then old _ (decimal m.header.kind) _ _ h8 c.in_ok-put_decimal-2.ensures.0 in
    let h10 = and_part old _ m.front.bytes _ _ _ h9 c.as_slice.ensures c.in_ok-put_part.ensures in
    let h11 = and_part old _ m.middle.bytes _ _ _ h10 c.as_slice-2.ensures c.in_ok-put_part-2.ensures in
    let h12 = and_part old _ m.tail.bytes _ _ _ h11 c.as_slice-3.ensures c.in_ok-put_part-3.ensures in
    and_then old _ (codes "\n") _ _ h12 c.in_ok-push_all-8.ensures.0
