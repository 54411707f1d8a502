-- With those that are left they are all.
use Rattle.std.proofs.Common.{◌≡◌, ◌++◌, drop, filter, not}
use Rattle.m2_fabric.specs.declared.socket.SocketId.{SocketId}
use Rattle.m2_run_trace.specs.Sockets.{comes_to}
use Rattle.m2_run_trace.proofs.sockets.add_opened.Given as goal

abbrev pub invariant-loop-socket : goal.invariant-loop-socket
invariant-loop-socket l =
    let opened = filter (λ (s : SocketId). not (comes_to l.teller s)) in
    l.left.items ++ opened (drop l.socket-index l.sockets) ≡ l.fn.left.items ++ opened l.sockets
