-- One name more has its place.
use Rattle.std.proofs.Common.{◌≡◌, ◌+◌, ◌-◌, ◌∙◌, length, ap, arith}
use Rattle.std.specs.Prelude.{slice_index_or}
use Rattle.std.proofs.lemmas.List.{get_or_read}
use Rattle.m2_weave.specs.Table.{five_of}
use Rattle.m2_weave.proofs.Places.{one_placed}
use Rattle.m2_weave.proofs.table.SocketNames.of.Goals as goal

pub loop-n-preserved : goal.loop-n-preserved
loop-n-preserved c =
    let n = c.loop-n.n in
    let x = c.index.result.now in
    let all = length c.args.names.items in
    let here : x ≡ slice_index_or c.args.names.items (c.len-count.result - 1 - n) x =
    get_or_read c.args.names.items _ x (omega (arith, c.len-count.ensures, c.loop-n-test.true)) c.index.ensures x in
    one_placed c.args.names.items x c.loop-n.places.entries c.insert.new.self.entries c.key_of-key.result (c.len-count.result - 1 - n) (all - n) (all - (n + 1))
    (omega (arith, c.len-count.ensures, c.loop-n-test.true)) (omega (arith, c.len-count.ensures, c.loop-n-test.true)) (omega (arith, c.len-count.ensures, c.loop-n-test.true)) (c.key_of-key.ensures ∙ ap five_of here)
    c.loop-n.invariant c.in_ok-insert.ensures.updates.0
