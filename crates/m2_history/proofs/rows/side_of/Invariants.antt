use Rattle.std.proofs.Common.{◌≡◌, ◌++◌, drop, map}
use Rattle.m2_history.specs.Ends.{end_now}
use Rattle.m2_history.specs.Sockets.{bytes_now, bytes_of_end, side_of}
use Rattle.m2_history.specs.Woven.{EndNow}
use Rattle.m2_history.proofs.rows.side_of.Given as goal

-- those so far, and those of what is left
abbrev pub invariant-loop-e : goal.invariant-loop-e
invariant-loop-e l = record {
  names : l.names.items ++ map (λ (e : EndNow). e.socket) (side_of l.opener (map end_now (drop l.e-index l.ends)))
      ≡ map (λ (e : EndNow). e.socket) (side_of l.opener (map end_now l.ends));
  bytes : map bytes_now l.bytes.items ++ map bytes_of_end (side_of l.opener (map end_now (drop l.e-index l.ends))) ≡ map bytes_of_end (side_of l.opener (map end_now l.ends));
}
