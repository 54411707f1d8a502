-- One center more has waited.
use Rattle.std.proofs.Common.{◌<◌, length, sym, subst, arith}
use Rattle.m2_node.specs.Nodes.{IsServedBy}
use Rattle.m2_node.specs.Way.{PollsSo}
use Rattle.m2_node.proofs.Each.{all_set, one_done}
use Rattle.m2_node.proofs.node.poll_each.Goals as goal

pub centers-preserved : goal.centers-preserved
centers-preserved g c =
    let l = c.centers in
    let served = IsServedBy c.args.shared.now.numbers c.args.shared.now.throttles in
    let x = c.index_mut.result.now in
    let y = c.poll.new.self in
    let less : l.j < length l.centers.items = omega (arith, c.centers-test.true, c.len-j-end.ensures, l.invariant.done.count, c.args.centers.now.ok.0) in
    record {
      done = one_done PollsSo l.j c.args.centers.now.items l.centers.items x y less c.index_mut.ensures.value c.poll.ensures.stays l.invariant.done;
      served = all_set served l.centers.items l.j x y c.index_mut.ensures.value less
          (λ its. subst served (sym c.poll.ensures.stays) (record { numbers_place = its.numbers_place; throttles_places = its.throttles_places })) l.invariant.served;
    }
