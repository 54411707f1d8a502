-- With those that are left they are all.
use Rattle.std.proofs.Common.{◌≡◌, List, ◌++◌, drop, filter, map, not}
use Rattle.m2_fabric.specs.declared.socket.SocketId.{SocketId}
use Rattle.m2_run_trace.specs.declared.marks.EndMark.{EndMark}
use Rattle.m2_run_trace.specs.Sockets.{is_over}
use Rattle.m2_run_trace.proofs.sockets.add_going.Given as goal

abbrev pub invariant-loop-mark : goal.invariant-loop-mark
invariant-loop-mark l =
    let going = λ (ms : List EndMark). filter (λ (s : SocketId). not (is_over l.teller s)) (map (λ (e : EndMark). e.socket) ms) in
    l.left.items ++ going (drop l.mark-index l.marks) ≡ l.fn.left.items ++ going l.marks
