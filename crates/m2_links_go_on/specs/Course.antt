-- What an event thread keeps while it takes turns over sockets of any kind. This project's own.
use Rattle.std.specs.Prelude.{◌≡◌, ◌⊎◌, ℕ, ◌+◌, ◌-◌, ◌^◌, ◌≤◌, Bool, true, false, List, [], ◌∷◌}
use Rattle.std.specs.List.{AllByRecursion, IsDistinct, list_any}
use Rattle.m2_cluster.specs.m2_center.Center.{CenterNow}
use Rattle.m2_cluster.specs.m2_center.m2_feed.m2_journal.declared.entry.Entry.{Entry}
use Rattle.m2_cluster.specs.m2_center.m2_feed.m2_journal.declared.entry.Entry.TheVariants as entry
use Rattle.m2_cluster.specs.m2_center.m2_record.RecordNow.{RecordNow, ids_of}
use Rattle.m2_fabric.specs.declared.socket.SocketId.{SocketId}
use Rattle.m2_fabric.specs.Sockets.{is_among, same_socket}
use Rattle.m2_growth.specs.Holding.{AreOwn, HaveTheirHalves, Holding, ends_held}
use Rattle.m2_links_go_on.specs.Made.{NodeMade, node_made}

-- ---- sockets

-- what a center has of the sockets of its port
abbrev pub holding_in : {D : Type 0} → CenterNow D → Holding
holding_in c = record { port = c.port; records = c.records; halves = c.halves }

-- each socket that the port made is that of an end of its records or halves: none was lost
abbrev pub MadeAreHeld : Holding → Type 0
MadeAreHeld h = (k : SocketId) → is_among k h.port.made ≡ true → is_among k (ids_of (ends_held h)) ≡ true

-- ---- connects that were missed

-- how many these records missed, added up
abbrev pub missed_by : List RecordNow → ℕ
missed_by [] = 0
missed_by (r ∷ rs) = r.missed + missed_by rs

-- a port has counted as many or more, or its count has come to its end, where it stands still
abbrev pub HasCounted : (port_missed missed : ℕ) → Type 0
HasCounted port_missed missed = (missed ≤ port_missed) ⊎ (2 ^ 64 - 1 ≤ port_missed)

-- ---- moments

-- an entry by which something was queued, read, written or accepted
abbrev pub is_productive : Entry → Bool
is_productive (entry.Post place) = true
is_productive (entry.Read socket count) = true
is_productive (entry.Wrote socket count) = true
is_productive (entry.Accepted number key) = true
is_productive _ = false

-- where the journal has one, the moment of the last one is one that the clock may give
abbrev pub LastIsGiven : (may_give : ℕ → Type 0) → RecordNow → Type 0
LastIsGiven may_give r = list_any is_productive r.journal ≡ true → may_give r.last

-- no connect waits longer than the longest wait of its node from this moment on
abbrev pub DialsInTime : (moment : ℕ) → RecordNow → Type 0
DialsInTime moment r = r.waits.next_dial ≤ moment + r.core.facts.node.most_wait

-- ---- all of it

-- At a moment, which the clock may give: it is what the node was made; the sockets that the port made, each once, are those of the
-- ends, each of one; each ask that was judged has its half; and what is told of connects and of moments is so.
pub record IsOnCourse {D : Type 0} (may_give : ℕ → Type 0) (moment : ℕ) (node : NodeMade) (c : CenterNow D) : Type 0 where
  pub given : may_give moment
  pub made : node_made c ≡ node
  pub own : AreOwn (holding_in c)
  pub held : MadeAreHeld (holding_in c)
  pub once : IsDistinct same_socket c.port.made
  pub halves : HaveTheirHalves (holding_in c)
  pub missed : HasCounted c.port.missed (missed_by c.records)
  pub last : AllByRecursion (LastIsGiven may_give) c.records
  pub dials : AllByRecursion (DialsInTime moment) c.records
