-- What a record keeps of the halves that it took: the trail of each, beside the log of its end. This project's own.
use Rattle.std.specs.Prelude.{◌≡◌, ℕ, if◌then◌else◌, List, map, Option, Some, None}
use Rattle.std.specs.List.{AllByRecursion, filter_map}
use Rattle.m2_fabric.specs.declared.socket.SocketId.{SocketId}
use Rattle.m2_fabric.specs.End.{SeenEnd}
use Rattle.m2_fabric.specs.Log.{Log}
use Rattle.m2_handshake.specs.Laws.{IsPrefix}
use Rattle.m2_journal.specs.declared.entry.Entry.{Entry}
use Rattle.m2_journal.specs.declared.entry.Entry.TheVariants as entry
use Rattle.m2_journal.specs.Lawful.{judged_on}
use Rattle.m2_journal.specs.State.{Judgement}
use Rattle.m2_session.specs.SessionLaws.{takes}
use Rattle.m2_trail.specs.TrailLaws.{IsWithin}
use Rattle.m2_trail.specs.Trails.{TrailNow, IsTakenTrail, IsTrailOf, entry_of, runs_of}
use Rattle.m2_record.specs.Sources.{log_at}

-- ---- what entries say of sockets of the peer

-- the asks that were judged
abbrev pub judgement_of : Entry → Option Judgement
judgement_of (entry.Judged socket ask number answer) = Some (record { socket = socket; item = record { ask = ask; answer = answer } })
judgement_of _ = None

abbrev pub judgements_in : List Entry → List Judgement
judgements_in journal = filter_map judgement_of journal

-- the sockets that were taken by an answer
abbrev pub taken_by : Entry → Option SocketId
taken_by (entry.Judged socket ask number answer) = if takes answer then Some socket else None
taken_by _ = None

abbrev pub taken_in : List Entry → List SocketId
taken_in journal = filter_map taken_by journal

-- ---- trails

-- Its entries are reads and writes, the first ones of the log, with their bytes. The facts of a trail hold, and those of one
-- whose half was taken.
pub record IsTrailBeside (t : TrailNow) (log : Log) : Type 0 where
  pub entries : t.entries ≡ map (entry_of t.socket) (runs_of t)
  pub runs : IsPrefix (runs_of t) log.runs
  pub within : IsWithin t log
  pub facts : IsTrailOf t log
  pub taken : IsTakenTrail t log

-- It is that of a half that named this kind of node, stands beside the log of its end, and has judged what the journal says.
pub record IsKeptTrail (kind : ℕ) (ends : List SeenEnd) (journal : List Entry) (t : TrailNow) : Type 0 where
  pub entity : t.entity ≡ kind
  pub beside : IsTrailBeside t (log_at ends t.socket)
  pub judged : t.judged ≡ judged_on t.socket (judgements_in journal)

-- there is one for each socket that was taken, in order
pub record HaveTrails (kind : ℕ) (ends : List SeenEnd) (journal : List Entry) (trails : List TrailNow) : Type 0 where
  pub sockets : map (λ t. t.socket) trails ≡ taken_in journal
  pub each : AllByRecursion (IsKeptTrail kind ends journal) trails
