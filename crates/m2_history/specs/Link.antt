-- What the two sides of a link keep, and the halves beside them, so that no strand waits for what is nowhere. This project's own.
use Rattle.std.specs.Prelude.{◌≡◌, ℕ, true, List, ◌++◌, length, map, Some, Result, Ok, Err}
use Rattle.std.specs.List.{AllByRecursion}
use Rattle.m2_fabric.specs.declared.socket.SocketId.{SocketId}
use Rattle.m2_fabric.specs.Sockets.{is_among}
use Rattle.m2_journal.specs.declared.entry.Entry.{Entry}
use Rattle.m2_journal.specs.declared.entry.Entry.TheVariants as entry
use Rattle.m2_journal.specs.Lawful.{judged_on}
use Rattle.m2_journal.specs.State.{Judgement}
use Rattle.m2_weave.specs.Order.{reached}
use Rattle.m2_record.specs.IsRecord.{IsRecord}
use Rattle.m2_record.specs.RecordNow.{RecordNow, ends_of}
use Rattle.m2_record.specs.TakenTrails.{judgements_in}
use Rattle.m2_trail.specs.Arrivals.{LooseNow}
use Rattle.m2_trail.specs.Trails.{TrailNow, IsWholeTrail}
use Rattle.m2_weave.specs.declared.table.SocketBytes.{SocketBytes}
use Rattle.m2_weave.specs.declared.unfit.Unfit.{Unfit}
use Rattle.m2_weave.specs.Counting.{AreNamed}
use Rattle.m2_weave.specs.Rule.{Woven}
use Rattle.m2_weave.specs.Stops.{IsWoven, StopsAt, sizes}
use Rattle.m2_weave.specs.Strands.{Bytes}
use Rattle.m2_weave.specs.Table.{bytes_of}
use Rattle.m2_weave.specs.Tidy.{AreTidy, IsAtRead}
use Rattle.m2_history.specs.declared.history.History.{History}
use Rattle.m2_history.specs.declared.history.WeaveFault.{WeaveFault}
use Rattle.m2_history.specs.declared.history.WeaveFault.TheVariants as fault
use Rattle.m2_history.specs.Parts.{PartsNow}
use Rattle.m2_history.specs.Woven as woven
use Rattle.m2_history.specs.Woven.{BothNow, EndNow, IsHistory, row_now, rows_of, strands_of}

-- ---- a side

-- the sockets of its ends
abbrev pub end_ids : PartsNow → List SocketId
end_ids p = map (λ e. e.id) p.ends

-- a read or a write is on one of these sockets
abbrev pub HasEnd : List SocketId → Entry → Type 0
HasEnd ids (entry.Read socket count) = is_among socket ids ≡ true
HasEnd ids (entry.Wrote socket count) = is_among socket ids ≡ true
HasEnd ids _ = Unit {0}

-- an entry of a half reads, writes or closes its socket
abbrev pub IsOnSocket : SocketId → Entry → Type 0
IsOnSocket k (entry.Read socket count) = socket ≡ k
IsOnSocket k (entry.Wrote socket count) = socket ≡ k
IsOnSocket k (entry.Closed socket) = socket ≡ k
IsOnSocket k _ = ⊥

-- of a half that was taken: its end is there, its entries are on its socket, and the asks that it handed on are those that
-- the journal judged
pub record IsKeptHalf (ids : List SocketId) (journal : List Entry) (t : TrailNow) : Type 0 where
  pub end : is_among t.socket ids ≡ true
  pub entries : AllByRecursion (IsOnSocket t.socket) t.entries
  pub many : length t.judged_after ≡ length t.judged
  pub judged : t.judged ≡ judged_on t.socket (judgements_in journal)

pub record IsKeptSide (p : PartsNow) : Type 0 where
  pub named : AllByRecursion (HasEnd (end_ids p)) p.journal
  pub halves : AllByRecursion (IsKeptHalf (end_ids p) p.journal) p.trails

-- a record's side
abbrev pub parts_of : RecordNow → PartsNow
parts_of r = record { journal = r.journal; trails = r.trails; ends = ends_of r }

-- keeps all that
abbrev pub RecordsAreKept : Type 0
RecordsAreKept = (r : RecordNow) → IsRecord r → IsKeptSide (parts_of r)

-- ---- both sides, and the halves that neither took

abbrev pub half_sockets : List TrailNow → List LooseNow → List SocketId
half_sockets trails loose = map (λ t. t.socket) trails ++ map (λ l. l.trail.socket) loose

-- the half of each ask that was judged is one that the side took, or a loose one
abbrev pub HaveHalves : List TrailNow → List LooseNow → List Judgement → Type 0
HaveHalves trails loose judgements = AllByRecursion (λ (j : Judgement). is_among j.socket (half_sockets trails loose) ≡ true) judgements

-- a loose half on whose socket an ask was judged has just these judged asks
abbrev pub IsJudgedSo : List Judgement → LooseNow → Type 0
IsJudgedSo judgements l = is_among l.trail.socket (map (λ (j : Judgement). j.socket) judgements) ≡ true → l.trail.judged ≡ judged_on l.trail.socket judgements

-- what is asked of the two sides of a link: whatever either has judged, its half is there
pub record AreOfLink (x : BothNow) : Type 0 where
  pub near : HaveHalves x.a.trails x.loose (judgements_in x.a.journal)
  pub far : HaveHalves x.b.trails x.loose (judgements_in x.b.journal)
  pub loose : AllByRecursion (IsJudgedSo (judgements_in x.a.journal ++ judgements_in x.b.journal)) x.loose

-- what the type of a loose half keeps
abbrev pub IsWholeHalf : LooseNow → Type 0
IsWholeHalf l = IsWholeTrail l.trail l.end

-- all that is known of two records and of such halves
pub record AreKept (x : BothNow) : Type 0 where
  pub near : IsKeptSide x.a
  pub far : IsKeptSide x.b
  pub whole : AllByRecursion IsWholeHalf x.loose
  pub link : AreOfLink x

-- Their strands wait in no circle, and each socket that they name has an end.
pub record StrandsAreTidy : Type 0 where
  pub tidy : (x : BothNow) (bytes : Bytes) → AreKept x → AreTidy (record { strands = strands_of x; bytes = bytes })
  pub named : (x : BothNow) (bytes : Bytes) → AreKept x → AreNamed (map (λ (e : EndNow). e.socket) (woven.ends_of x)) (record { strands = strands_of x; bytes = bytes })

-- ---- two records woven

abbrev pub both_of : (a b : RecordNow) → List LooseNow → BothNow
both_of a b loose = record { a = parts_of a; b = parts_of b; loose = loose }

-- There is no order of all; and as far as any goes, the first strand that stands at a read stands at this byte, which the other
-- end hasn't written there by then, or has written otherwise.
pub record StopsAtByte (w : Woven) (u : Unfit) : Type 0 where
  pub stop : StopsAt w (Some u)
  pub byte : IsAtRead w (reached (sizes w) stop.order) (Some u)
  pub none : (order : List ℕ) → IsWoven w order → ⊥

-- of the strands of both sides, with the bytes of these sockets
abbrev pub ComesOfRecords : Result History WeaveFault → Woven → Type 0
ComesOfRecords (Ok h) w = IsHistory w h
ComesOfRecords (Err (fault.Unfit u)) w = StopsAtByte w u
ComesOfRecords (Err fault.NoMemory) w = Unit {0}

abbrev pub WeavesRecords : Result History WeaveFault → BothNow → Type 0
WeavesRecords (Err fault.NoMemory) x = Unit {0}
WeavesRecords result x = (sockets : List SocketBytes) × (map row_now sockets ≡ rows_of (woven.ends_of x)) × ComesOfRecords result (record { strands = strands_of x; bytes = bytes_of sockets })
