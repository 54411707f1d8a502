-- What a record's journal speaks of: its plan, the logs of its ends, and the trails of the halves that it took. This
-- project's own.
use Rattle.std.specs.Prelude.{ℕ, ◌==◌, ◌||◌, not, Bool, false, if◌then◌else◌, List, [], ◌∷◌, drop, length, Option, Some, None}
use Rattle.m2_fabric.specs.declared.log.Run.{Run}
use Rattle.m2_fabric.specs.declared.socket.SocketId.{SocketId}
use Rattle.m2_fabric.specs.End.{SeenEnd}
use Rattle.m2_fabric.specs.Log.{Log, nothing_done}
use Rattle.m2_fabric.specs.Sockets.{same_socket}
use Rattle.m2_journal.specs.declared.entry.JudgedItem.{JudgedItem}
use Rattle.m2_journal.specs.Items.{Sources}
use Rattle.m2_journal.specs.Plan.{Planned}
use Rattle.m2_trail.specs.Trails as trail
use Rattle.m2_trail.specs.Trails.{TrailNow, read_by, written_by}

pub record Grounds : Type 0 where
  pub plan : List Planned
  pub ends : List SeenEnd
  pub trails : List TrailNow

-- ---- those of a socket

abbrev pub end_at : List SeenEnd → SocketId → Option SeenEnd
end_at [] k = None
end_at (e ∷ es) k = if same_socket k e.id then Some e else end_at es k

abbrev pub trail_at : List TrailNow → SocketId → Option TrailNow
trail_at [] k = None
trail_at (t ∷ ts) k = if same_socket k t.socket then Some t else trail_at ts k

-- nothing was done where there is no end
abbrev pub log_of : Option SeenEnd → Log
log_of (Some e) = e.log
log_of None = nothing_done

abbrev pub log_at : List SeenEnd → SocketId → Log
log_at ends k = log_of (end_at ends k)

-- ---- what the log of an end has behind a trail

abbrev pub read_before : Option TrailNow → ℕ
read_before (Some t) = read_by (trail.runs_of t)
read_before None = 0

abbrev pub written_before : Option TrailNow → ℕ
written_before (Some t) = written_by (trail.runs_of t)
written_before None = 0

abbrev pub runs_before : Option TrailNow → ℕ
runs_before (Some t) = length (trail.runs_of t)
runs_before None = 0

abbrev pub got_of : Option SeenEnd → List ℕ
got_of end = (log_of end).got

abbrev pub put_of : Option SeenEnd → List ℕ
put_of end = (log_of end).put

abbrev pub runs_of : Option SeenEnd → List Run
runs_of end = (log_of end).runs

-- the end has failed, or has found that nothing more will come
abbrev pub is_broken_end : SeenEnd → Bool
is_broken_end e = e.log.ended || not (e.faults == 0)

abbrev pub broken_of : Option SeenEnd → Bool
broken_of (Some e) = is_broken_end e
broken_of None = false

-- what the half of a trail had left unread, by the log of its end
abbrev pub unread_of : Option TrailNow → Log → List ℕ
unread_of (Some t) log = trail.unread_of t log
unread_of None log = []

abbrev pub judged_of : Option TrailNow → List JudgedItem
judged_of (Some t) = t.judged
judged_of None = []

abbrev pub sources_of : Grounds → Sources
sources_of g = record {
  plan = g.plan;
  got = λ k. drop (read_before (trail_at g.trails k)) (got_of (end_at g.ends k));
  put = λ k. drop (written_before (trail_at g.trails k)) (put_of (end_at g.ends k));
  runs = λ k. drop (runs_before (trail_at g.trails k)) (runs_of (end_at g.ends k));
  broken = λ k. broken_of (end_at g.ends k);
  unread = λ k. unread_of (trail_at g.trails k) (log_at g.ends k);
  trail = λ k. judged_of (trail_at g.trails k);
}
