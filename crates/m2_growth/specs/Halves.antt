-- What becomes of the halves on sockets of peers. This project's own.
use Rattle.std.specs.Prelude.{◌≡◌, ◌⊎◌, ℕ, ◌≤◌, true, List, [], ◌∷◌, ◌++◌, length, map, drop, Some, IfSome, false}
use Rattle.std.specs.List.{AllByRecursion}
use Rattle.m2_fabric.specs.m2_addr.declared.addr.Addr.{Addr}
use Rattle.m2_fabric.specs.declared.socket.SocketId.{SocketId}
use Rattle.m2_fabric.specs.End.{SeenEnd}
use Rattle.m2_fabric.specs.Sockets.{is_among, goes_to}
use Rattle.m2_weave.specs.m2_journal.State.{Judgement}
use Rattle.m2_turn.specs.m2_record.RecordNow.{RecordNow}
use Rattle.m2_turn.specs.m2_record.Sources.{end_at, got_of}
use Rattle.m2_turn.specs.m2_record.TakenTrails.{judgements_in}
use Rattle.m2_turn.specs.Halves.{AllHalves}
use Rattle.m2_turn.specs.Sessions.{PendingNow, is_asker, peer_of}
use Rattle.m2_bytes_fit.specs.m2_trail.Arrivals.{IsArrival, LooseNow, left_of}
use Rattle.m2_bytes_fit.specs.m2_trail.Asks.{IsMain}
use Rattle.m2_bytes_fit.specs.m2_trail.Incoming.{IncomingNow}
use Rattle.m2_bytes_fit.specs.m2_trail.Trails.{TrailNow}
use Rattle.m2_weave.specs.Later.{GoesOn}
use Rattle.m2_growth.specs.Ends.{come_to}

-- all that no record took, as those that are over would be left
abbrev pub all_left : AllHalves → List LooseNow
all_left h = map (λ (p : PendingNow). left_of p.half) h.pending ++ h.loose

-- it is one of a list
abbrev pub IsOneOf : {X : Type 0} → X → List X → Type 0
IsOneOf x [] = ⊥
IsOneOf x (y ∷ ys) = (x ≡ y) ⊎ IsOneOf x ys

-- further asks were judged, each behind so many entries or more
pub record JudgesMore (entries : ℕ) (old new : List ℕ) : Type 0 where
  pub more : List ℕ
  pub all : new ≡ old ++ more
  pub behind : AllByRecursion (λ (n : ℕ). entries ≤ n) more

-- The trail of the same half, later: it did more, and of its asks more were judged, behind all that it had done.
pub record TrailGrows (t u : TrailNow) : Type 0 where
  pub socket : u.socket ≡ t.socket
  pub entity : u.entity ≡ t.entity
  pub entries : GoesOn t.entries u.entries
  pub judged : GoesOn t.judged u.judged
  pub asks : JudgesMore (length t.entries) t.judged_after u.judged_after

-- a half is one that no record took still
pub record IsLeft (h : AllHalves) (t : TrailNow) : Type 0 where
  pub half : LooseNow
  pub there : IsOneOf half (all_left h)
  pub grows : TrailGrows t half.trail

-- a record has taken it
pub record IsTakenBy (records : List RecordNow) (t : TrailNow) : Type 0 where
  pub side : RecordNow
  pub there : IsOneOf side records
  pub trail : TrailNow
  pub taken : IsOneOf trail side.trails
  pub grows : TrailGrows t trail

-- each half is there still, or a record has taken it
abbrev pub HalvesStay : (old new : AllHalves) → (records : List RecordNow) → Type 0
HalvesStay old new records = AllByRecursion (λ (l : LooseNow). IsLeft new l.trail ⊎ IsTakenBy records l.trail) (all_left old)

-- ---- asks that records have judged

-- the sockets on which a record has judged asks
abbrev pub asked_on : RecordNow → List SocketId
asked_on r = map (λ (j : Judgement). j.socket) (judgements_in r.journal)

-- the sockets of the halves that it took, and of those that no record took
abbrev pub sockets_taken : RecordNow → List SocketId
sockets_taken r = map (λ (t : TrailNow). t.socket) r.trails

abbrev pub sockets_left : List LooseNow → List SocketId
sockets_left left = map (λ (l : LooseNow). l.trail.socket) left

-- the half of each ask that a record has judged is one that it took, or one that no record took
abbrev pub HasItsHalves : List LooseNow → RecordNow → Type 0
HasItsHalves left r = (k : SocketId) → is_among k (asked_on r) ≡ true → is_among k (sockets_taken r ++ sockets_left left) ≡ true

-- it came on a socket that the port made
abbrev pub AskedOnMade : (made : List SocketId) → RecordNow → Type 0
AskedOnMade made r = (k : SocketId) → is_among k (asked_on r) ≡ true → is_among k made ≡ true

-- and that goes to this address
abbrev pub AskedTowards : Addr → RecordNow → Type 0
AskedTowards at r = (k : SocketId) → is_among k (asked_on r) ≡ true → goes_to at k ≡ true

-- on no socket have both judged asks
abbrev pub JudgeApart : RecordNow → RecordNow → Type 0
JudgeApart r s = (k : SocketId) → is_among k (asked_on r) ≡ true → is_among k (asked_on s) ≡ false

-- on each socket one of them at most has
abbrev pub OneJudge : List RecordNow → Type 0
OneJudge [] = Unit {0}
OneJudge (r ∷ rs) = AllByRecursion (JudgeApart r) rs × OneJudge rs

-- of a half none but the record of its asker has judged asks
abbrev pub IsHeardBy : List RecordNow → PendingNow → Type 0
IsHeardBy records p = AllByRecursion (λ (r : RecordNow). is_among p.half.trail.socket (asked_on r) ≡ true → is_asker p.asker (peer_of r) ≡ true) records

-- ---- who asked

-- Of an ask that a record has judged: its half was asked by the record's peer, and its end is among these still as it was.
pub record IsAskedHere (ends : List SeenEnd) (r : RecordNow) (j : Judgement) : Type 0 where
  pub arrival : IncomingNow
  pub arrived : IsArrival arrival
  pub socket : arrival.end.id ≡ j.socket
  pub main : IfSome arrival.ask (λ ask. IsMain ask (peer_of r))
  pub here : end_at ends j.socket ≡ Some arrival.end

-- Of an ask that a record has judged since: its half was asked by the record's peer; what had come to its end had come to the end of
-- its socket before; and what it had got is the first of what the end of its socket has got now.
pub record IsAskedByPeer (ends now : List SeenEnd) (r : RecordNow) (j : Judgement) : Type 0 where
  pub arrival : IncomingNow
  pub arrived : IsArrival arrival
  pub socket : arrival.end.id ≡ j.socket
  pub main : IfSome arrival.ask (λ ask. IsMain ask (peer_of r))
  pub come : IfSome (end_at ends j.socket) (λ e. come_to arrival.end ≡ come_to e)
  pub got : GoesOn arrival.end.log.got (got_of (end_at now j.socket))

-- those that a record has judged since
abbrev pub judged_since : (old new : RecordNow) → List Judgement
judged_since old new = judgements_in (drop (length old.journal) new.journal)

-- so are all that records have judged since, beside these ends as they were and as they are now
abbrev pub AreAskedByPeers : (ends now : List SeenEnd) → (old new : List RecordNow) → Type 0
AreAskedByPeers ends now [] ss = Unit {0}
AreAskedByPeers ends now (r ∷ rs) [] = Unit {0}
AreAskedByPeers ends now (r ∷ rs) (s ∷ ss) = AllByRecursion (IsAskedByPeer ends now s) (judged_since r s) × AreAskedByPeers ends now rs ss
