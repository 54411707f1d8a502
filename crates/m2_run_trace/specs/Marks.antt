-- Where a node stood before it did something. This project's own.
use Rattle.std.specs.Prelude.{ℕ, true, false, List, [], length, map, Option, Some, None}
use Rattle.m2_fabric.specs.declared.socket.SocketId.{SocketId}
use Rattle.m2_fabric.specs.Log.{Log}
use Rattle.m2_promise.specs.m2_script.m2_record.RecordNow.{RecordNow}
use Rattle.m2_run_trace.specs.declared.dials.DialMark.{DialMark}
use Rattle.m2_run_trace.specs.declared.marks.EndMark.{EndMark}
use Rattle.m2_run_trace.specs.declared.standing.SessionMark.{SessionMark}
use Rattle.m2_run_trace.specs.Dials.{dial_mark_of}
use Rattle.m2_run_trace.specs.Standing.{standing_of}
use Rattle.m2_run_trace.specs.Telling.{TracedCenter, Telling, log_in}
use Rattle.m2_run_trace.specs.Throttle.{out_of}

-- of sockets what their ends had done; and how much there was of the rest: of each record how many entries its journal had, how
-- many calls the dispatchers of fast and of other kinds had, how many sockets its port had made, where each record stood, what made a
-- connect of it due, and how many bytes its throttle had out
pub record MarksNow : Type 0 where
  pub ends : List EndMark
  pub journals : List ℕ
  pub fast : ℕ
  pub queued : ℕ
  pub made : ℕ
  pub standings : List SessionMark
  pub dials : List DialMark
  pub out : ℕ

-- of a socket: whether there was an end, how many reads and writes it had made, and whether it was closed
abbrev pub end_mark : SocketId → Option Log → EndMark
end_mark s (Some log) = record { socket = s; there = true; runs = length log.runs; closed = log.closed }
end_mark s None = record { socket = s; there = false; runs = 0; closed = false }

abbrev pub marks_in : TracedCenter → List SocketId → MarksNow
marks_in c sockets = record {
  ends = map (λ s. end_mark s (log_in c s)) sockets;
  journals = map (λ (r : RecordNow). length r.journal) c.records;
  fast = length c.out.fast;
  queued = length c.queued.inner;
  made = length c.port.made;
  standings = map standing_of c.records;
  dials = map dial_mark_of c.records;
  out = out_of c;
}

-- where there is no such node nothing stands
abbrev pub marks_of : Option Telling → List SocketId → MarksNow
marks_of (Some t) sockets = marks_in t.center sockets
marks_of None sockets = record { ends = []; journals = []; fast = 0; queued = 0; made = 0; standings = []; dials = []; out = 0 }
