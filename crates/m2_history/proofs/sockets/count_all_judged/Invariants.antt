use Rattle.std.proofs.Common.{◌≡◌, ◌+◌, true, length, map}
use Rattle.std.specs.Prelude.{slice_index}
use Rattle.m2_fabric.specs.declared.socket.SocketId.{SocketId}
use Rattle.m2_fabric.specs.Sockets.{is_among}
use Rattle.m2_weave.specs.declared.strand.StrandItem.TheVariants.{Noted}
use Rattle.m2_weave.specs.Counting.{place_in}
use Rattle.m2_weave.specs.Strands.{judged_by, total}
use Rattle.m2_history.proofs.sockets.count_all_judged.Given as goal

-- what is counted so far, and what is left
abbrev pub invariant-loop-e : goal.invariant-loop-e
invariant-loop-e l = record {
  count : length l.judged.items ≡ length l.names;
  counted : (k : SocketId) → is_among k l.names ≡ true →
      slice_index l.judged.items (place_in l.names k) + total (judged_by k) (map Noted l.e-iterator)
      ≡ slice_index l.initial.judged.items (place_in l.names k) + total (judged_by k) (map Noted l.journal.items);
}
