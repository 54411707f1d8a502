-- With the marks of the sockets that are left they are all.
use Rattle.std.proofs.Common.{◌≡◌, ◌++◌, drop, map}
use Rattle.m2_fabric.specs.declared.socket.SocketId.{SocketId}
use Rattle.m2_run_trace.specs.Marks.{end_mark}
use Rattle.m2_run_trace.specs.Telling.{log_in}
use Rattle.m2_run_trace.proofs.marks.end_marks.Given as goal

abbrev pub invariant-loop-socket : goal.invariant-loop-socket
invariant-loop-socket l =
    let marks = map (λ (s : SocketId). end_mark s (log_in l.center s)) in l.marks.items ++ marks (drop l.socket-index l.sockets) ≡ marks l.sockets
