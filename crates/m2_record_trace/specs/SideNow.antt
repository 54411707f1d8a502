-- What contracts see of a side of a pair, and what its type keeps. This project's own.
use Rattle.std.specs.Prelude.{◌≡◌, ℕ, ◌-◌, ◌<◌, ◌≤◌, List, [], ◌∷◌, ◌++◌, Option, map}
use Rattle.std.specs.Option.{option_map}
use Rattle.m2_dispatch.specs.declared.logged.Logged.{Logged}
use Rattle.m2_fabric.specs.declared.socket.SocketId.{SocketId}
use Rattle.m2_fabric.specs.End.{SeenEnd}
use Rattle.m2_fabric.specs.Log.{Log}
use Rattle.m2_journal.specs.SideFacts.{SideFacts}
use Rattle.m2_shared.specs.declared.limits.TheConstants.{MOST_TAKEN}
use Rattle.m2_shared.specs.Numbers.{SeenNumberPass, SeenNumbers}
use Rattle.m2_shared.specs.Place.{IsAlone}
use Rattle.m2_shared.specs.Gates.{ArePassesOf, Gate, dispatch, places, throttle_in}
use Rattle.m2_shared.specs.declared.peer_type.PeerType.TheVariants.{Osd}
use Rattle.m2_shared.specs.declared.throttles.TakePasses.{TakePasses}
use Rattle.m2_shared.specs.declared.throttles.Throttles.{Throttles}
use Rattle.m2_trail.specs.Arrivals.{LooseNow, left_of}
use Rattle.m2_trail.specs.Incoming.{IncomingNow, accepted}
use Rattle.m2_record.specs.Calls.{Connects, Owns, all_held}
use Rattle.m2_record.specs.IsRecord.{new_record}
use Rattle.m2_record.specs.RecordNow.{RecordNow, Rooms, feed_end}
use Rattle.m2_record.specs.Sources.{end_at}

pub record SideNow : Type 0 where
  -- its record
  pub kept : RecordNow
  -- the most bytes that the throttle of its dispatch lets out, and how many are out
  pub limit : ℕ
  pub out : ℕ
  -- the sockets of the peer that are open and not taken, and those that were closed and never taken
  pub halves : List IncomingNow
  pub loose : List LooseNow
  -- what was dispatched behind the queue, and at once
  pub log : List Logged
  pub fast : List Logged

-- nothing planned, nothing done, towards an osd
abbrev pub new_side : SideFacts → (place limit : ℕ) → Rooms → SideNow
new_side f place limit room = record {
  kept = record (new_record f place Osd) { room = room };
  limit = limit;
  out = 0;
  halves = [];
  loose = [];
  log = [];
  fast = [];
}

-- ---- what its type keeps

-- its counter of global numbers and its throttles, with the passes
pub record Means : Type 0 where
  pub numbers : SeenNumbers
  pub number_pass : SeenNumberPass
  pub throttles : Throttles
  pub passes : TakePasses

-- All are alone, and the passes are theirs. The bound of the dispatch is the limit, which one grant can hold.
pub record AreAlone (m : Means) (limit : ℕ) : Type 0 where
  pub counter : IsAlone m.numbers.place
  pub number_pass : m.number_pass.place ≡ m.numbers.place
  pub throttles : (gate : Gate) → IsAlone (places m.throttles gate)
  pub passes : ArePassesOf m.throttles m.passes
  pub bound : (throttle_in m.throttles dispatch).most ≡ limit
  pub some : 0 < limit
  pub most : limit ≤ MOST_TAKEN

-- what the record holds was granted by the throttles, and no global number that it used is above those that were drawn
pub record IsSupplied (m : Means) (r : RecordNow) : Type 0 where
  pub owned : Owns (places m.throttles) r
  pub top : r.core.top ≤ m.number_pass.least

pub record IsSide (m : Means) (limit : ℕ) (r : RecordNow) : Type 0 where
  pub alone : AreAlone m limit
  pub supplied : IsSupplied m r

-- ---- what its calls do

-- how many bytes are out once its record has given back what it holds
abbrev pub left_out : SideNow → ℕ
left_out s = s.out - all_held s.kept dispatch

-- all but the room of its record is the same
abbrev pub IsSameButRoom : SideNow → SideNow → Type 0
IsSameButRoom old new = new ≡ record old { kept = record old.kept { room = new.kept.room } }

-- an end of a socket that it has opened is the feed
pub record Opens (end : SeenEnd) (old new : SideNow) : Type 0 where
  pub connects : Connects end old.kept new.kept
  pub only : new ≡ record old { kept = new.kept }

-- an end of a socket of the peer is that of its last half
pub record Accepts (end : SeenEnd) (old new : SideNow) : Type 0 where
  pub room : ℕ
  pub only : new ≡ record old { halves = old.halves ++ accepted old.kept.core.facts.node.entity end room ∷ [] }

-- an ask is judged: what its halves are, and what was dispatched, is as it was
abbrev pub OnlyJudges : SideNow → SideNow → Type 0
OnlyJudges old new = new ≡ record old { kept = new.kept; out = new.out }

-- its halves go on, and asks are judged: nothing is dispatched
abbrev pub OnlyArrives : SideNow → SideNow → Type 0
OnlyArrives old new = new ≡ record old { kept = new.kept; out = new.out; halves = new.halves; loose = new.loose }

-- nothing is done but that sockets of the peer are accepted
abbrev pub OnlyAccepts : SideNow → SideNow → Type 0
OnlyAccepts old new = new ≡ record old { halves = new.halves }

-- the sockets of the peer that were never taken: those that were closed, and then those that are open, as they are
abbrev pub untaken : SideNow → List LooseNow
untaken s = s.loose ++ map left_of s.halves

-- ---- its ends

-- the feed's, those of the open sockets of the peer, those that were the feed, and those of the sockets that were left
abbrev pub ends_seen : SideNow → List SeenEnd
ends_seen s = feed_end s.kept.core.live.feed ++ map (λ (h : IncomingNow). h.end) s.halves ++ s.kept.spent ++ map (λ (l : LooseNow). l.end) s.loose

-- what the first end of a socket did, where there is one
abbrev pub log_in : List SeenEnd → SocketId → Option Log
log_in ends k = option_map (λ (e : SeenEnd). e.log) (end_at ends k)
