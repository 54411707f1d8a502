-- Sockets on which a node may still have a half. This project's own.
use Rattle.std.specs.Prelude.{◌||◌, ◌&&◌, not, Bool, false, List, [], ◌++◌, drop, filter, map, Option, Some, None}
use Rattle.std.specs.List.{flat_map}
use Rattle.std.specs.Option.{is_some}
use Rattle.m2_fabric.specs.declared.socket.SocketId.{SocketId}
use Rattle.m2_fabric.specs.Log.{Log}
use Rattle.m2_fabric.specs.Sockets.{goes_to}
use Rattle.m2_promise.specs.m2_script.m2_record.RecordNow.{RecordNow}
use Rattle.m2_promise.specs.m2_script.m2_record.Sources.{trail_at}
use Rattle.m2_run_trace.specs.declared.marks.EndMark.{EndMark}
use Rattle.m2_run_trace.specs.Marks.{MarksNow}
use Rattle.m2_run_trace.specs.Telling.{Telling, log_in}
use Rattle.m2_trail.specs.Trails.{TrailNow}

-- the socket was opened to the node
abbrev pub comes_to : Telling → SocketId → Bool
comes_to t s = goes_to t.own.at s

-- the trail of the half on a socket, if a record has taken it
abbrev pub trail_in : List RecordNow → SocketId → Option TrailNow
trail_in records s = trail_at (flat_map (λ (r : RecordNow). r.trails) records) s

-- an end is closed, or a record has taken its half
abbrev pub is_over_by : Option TrailNow → Option Log → Bool
is_over_by trail (Some log) = log.closed || is_some trail
is_over_by trail None = false

-- the node's half on a socket is over
abbrev pub is_over : Telling → SocketId → Bool
is_over t s = comes_to t s && is_over_by (trail_in t.center.records s) (log_in t.center s)

-- those of the marked sockets on which a half may still do something, and behind them those that the node has opened since it was marked
abbrev pub sockets_left : Telling → MarksNow → List SocketId
sockets_left t m = filter (λ s. not (is_over t s)) (map (λ (e : EndMark). e.socket) m.ends) ++ filter (λ s. not (comes_to t s)) (drop m.made t.center.port.made)

abbrev pub left_of : Option Telling → MarksNow → List SocketId
left_of (Some t) m = sockets_left t m
left_of None m = []
