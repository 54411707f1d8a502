-- One end more.
use Rattle.std.proofs.Common.{[], ◌∷◌, map}
use Rattle.m2_history.specs.Ends.{end_now}
use Rattle.m2_history.specs.Sockets.{bytes_now, bytes_of_end, side_of}
use Rattle.m2_history.specs.Woven.{EndNow}
use Rattle.m2_history.proofs.Gathering.{one_more}
use Rattle.m2_history.proofs.Sides.{side_more}
use Rattle.m2_history.proofs.rows.side_of.Goals as goal

pub loop-e-preserved : goal.loop-e-preserved
loop-e-preserved c = record {
  names =
      one_more (λ es. map (λ (e : EndNow). e.socket) (side_of c.args.opener (map end_now es))) (λ e. map (λ (e : EndNow). e.socket) (side_of c.args.opener (end_now e ∷ [])))
      (λ x xs. side_more (λ (e : EndNow). e.socket) c.args.opener (end_now x) (map end_now xs)) c.args.ends.now c.loop-e.e-index c.e-item.result c.loop-e.names.items
      c.add_end.new.names.items _ c.loop-e-test.true c.e-item.is c.loop-e.invariant.names c.in_ok-add_end.ensures.names;
  bytes =
      one_more (λ es. map bytes_of_end (side_of c.args.opener (map end_now es))) (λ e. map bytes_of_end (side_of c.args.opener (end_now e ∷ [])))
      (λ x xs. side_more bytes_of_end c.args.opener (end_now x) (map end_now xs)) c.args.ends.now c.loop-e.e-index c.e-item.result (map bytes_now c.loop-e.bytes.items)
      (map bytes_now c.add_end.new.bytes.items) _ c.loop-e-test.true c.e-item.is c.loop-e.invariant.bytes c.in_ok-add_end.ensures.bytes;
}
