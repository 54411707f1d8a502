-- What a half does in a center's turn: it moves on, an ask that it comes to is answered by the record of the asking address, and
-- after a reply it moves on again. That only the address of the first ask may ask again, and that an ask for which there is no
-- record closes the socket without a word, is this project's profile; the rest is its own.
use Rattle.std.specs.Prelude.{◌≡◌, ℕ, ◌<◌, ◌⊎◌, if◌then◌else◌, List, [], ◌∷◌, ◌++◌, length, map, position, slice_get, slice_set, Option, Some, None, IfSome}
use Rattle.m2_addr.specs.declared.addr.Addr.{Addr}
use Rattle.m2_fabric.specs.declared.socket.SocketId.{SocketId}
use Rattle.m2_trail.specs.declared.turn.HalfTurn.{HalfTurn}
use Rattle.m2_trail.specs.declared.turn.HalfTurn.TheVariants as turn
use Rattle.m2_trail.specs.Turn.{AdvancesAs}
use Rattle.m2_handshake.specs.Asks.{is_known, same_addr}
use Rattle.m2_record.specs.declared.work.Work.{Work}
use Rattle.m2_record.specs.RecordNow.{RecordNow}
use Rattle.m2_shared.specs.Numbers.{SeenNumberPass}
use Rattle.m2_shared.specs.declared.throttles.TakePasses.{TakePasses}
use Rattle.m2_trail.specs.Arrivals.{IsArrival, LooseNow, closed_of}
use Rattle.m2_trail.specs.Asks.{IsMain}
use Rattle.m2_trail.specs.Incoming.{IncomingNow}
use Rattle.m2_turn.specs.declared.answering.HalfAnswered.{HalfAnswered}
use Rattle.m2_turn.specs.declared.answering.HalfAnswered.TheVariants as answered
use Rattle.m2_turn.specs.declared.half_turn.HalfMoved.{HalfMoved}
use Rattle.m2_turn.specs.declared.half_turn.HalfMoved.TheVariants as moved
use Rattle.m2_turn.specs.declared.half_turn.HalfTurned.{HalfTurned}
use Rattle.m2_turn.specs.declared.half_turn.HalfTurned.TheVariants as turned
use Rattle.m2_turn.specs.declared.half_turn.TheConstants.{MOST_ASKS}
use Rattle.m2_turn.specs.Answering.{AnswersHalf}
use Rattle.m2_turn.specs.Judging.{Judging}
use Rattle.m2_turn.specs.RecordTurn.{Means}
use Rattle.m2_turn.specs.Sessions.{PendingNow, Sessions, peer_of}

-- what answering asks can change: the records of a center, and the passes of its thread
pub record Homes : Type 0 where
  pub records : List RecordNow
  pub bytes : TakePasses
  pub numbers : SeenNumberPass

abbrev pub homes : List RecordNow → Work → Homes
homes records w = record { records = records; bytes = w.passes.now; numbers = w.number_pass.now }

-- one of the records with the passes
abbrev pub judging_in : RecordNow → Homes → Judging
judging_in side h = record { side = side; bytes = h.bytes; numbers = h.numbers }

-- ---- an ask

-- the place of the record that answers an ask of this address: of the one towards it, where no other address asked first
abbrev pub home_of_ask : Option Addr → Addr → (peers : List Addr) → Option ℕ
home_of_ask asker peer peers = if is_known asker peer then position (same_addr peer) peers else None

abbrev pub asked_by : IncomingNow → Addr → PendingNow
asked_by a peer = record { half = a; asker = Some peer }

-- what the half comes to by the answer of its record
abbrev pub moved_by : {E : Type 0} → HalfAnswered E → Addr → HalfMoved E
moved_by (answered.Taken answer) peer = moved.Ends turned.Taken
moved_by (answered.Open goes_on) peer = moved.GoesOn (asked_by goes_on peer)
moved_by (answered.Closed loose) peer = moved.Ends (turned.Over loose)
moved_by (answered.Undrawn back) peer = moved.Ends (turned.Open (asked_by back peer))
moved_by (answered.NoMemory back) peer = moved.Ends (turned.NoMemory (asked_by back peer))

-- the record at this place answers, and no other changes
pub record AnswersAt {E : Type 0} (place : ℕ) (answer : HalfAnswered E) (a : IncomingNow) (m : Means) (old new : Homes) : Type 0 where
  pub before : RecordNow
  pub behind : RecordNow
  pub side : slice_get old.records place ≡ Some before
  pub records : new.records ≡ slice_set old.records place behind
  pub answers : AnswersHalf answer a m (judging_in before old) (judging_in behind new)

-- by the place of its record; without one the half is closed
abbrev pub AnswersFrom : {E : Type 0} → Option ℕ → HalfMoved E → IncomingNow → Addr → Means → Homes → Homes → Type 0
AnswersFrom {E} (Some place) result a peer m old new = (answer : HalfAnswered E) × AnswersAt place answer a m old new × (result ≡ moved_by answer peer)
AnswersFrom {E} None result a peer m old new = (result ≡ moved.Ends (turned.Over (closed_of a))) × (new ≡ old)

-- a half that was asked
pub record AnswersAsk {E : Type 0} (result : HalfMoved E) (p : PendingNow) (m : Means) (old new : Homes) : Type 0 where
  pub arrival : IsArrival p.half
  pub peer : Addr
  pub main : IfSome p.half.ask (λ ask. IsMain ask peer)
  pub answers : AnswersFrom (home_of_ask p.asker peer (map peer_of old.records)) result p.half peer m old new

-- ---- a move on

-- by what it came to; it is answered where it was asked
abbrev pub ComesTo : {E : Type 0} → HalfTurn → HalfMoved E → PendingNow → Means → Homes → Homes → Type 0
ComesTo {E} turn.Asked result p m old new = AnswersAsk result p m old new
ComesTo {E} turn.Over result p m old new = (result ≡ moved.Ends (turned.Over (closed_of p.half))) × (new ≡ old)
ComesTo {E} turn.NoMemory result p m old new = (result ≡ moved.Ends (turned.NoMemory p)) × (new ≡ old)
ComesTo {E} _ result p m old new = (result ≡ moved.Ends (turned.Open p)) × (new ≡ old)

pub record TurnsOnce {E : Type 0} (result : HalfMoved E) (p : PendingNow) (m : Means) (old new : Homes) : Type 0 where
  pub to : HalfTurn
  pub on : IncomingNow
  pub advances : AdvancesAs to p.half on
  pub comes : ComesTo to result (record p { half = on }) m old new

-- ---- a turn

-- a half beside the records
pub record HalfTurning : Type 0 where
  pub pending : PendingNow
  pub homes : Homes

-- it has replied, and goes on
abbrev pub RepliesOnce : (E : Type 0) → Means → HalfTurning → HalfTurning → Type 0
RepliesOnce E m old new = TurnsOnce {E = E} (moved.GoesOn new.pending) old.pending m old.homes new.homes

-- one reply after another; the list has how it stood behind each
abbrev pub Replies : (E : Type 0) → Means → List HalfTurning → HalfTurning → HalfTurning → Type 0
Replies E m [] old new = old ≡ new
Replies E m (t ∷ ts) old new = RepliesOnce E m old t × Replies E m ts t new

-- fewer replies than all, and then its turn ended so
pub record EndsTurn {E : Type 0} (result : HalfTurned E) (m : Means) (old : HalfTurning) (new : Homes) : Type 0 where
  pub stood : List HalfTurning
  pub mid : HalfTurning
  pub replies : Replies E m stood old mid
  pub within : length stood < MOST_ASKS
  pub last : TurnsOnce (moved.Ends result) mid.pending m mid.homes new

-- all replies of a turn
pub record HasReplied {E : Type 0} (result : HalfTurned E) (m : Means) (old : HalfTurning) (new : Homes) : Type 0 where
  pub stood : List HalfTurning
  pub pending : PendingNow
  pub replies : Replies E m stood old (record { pending = pending; homes = new })
  pub many : length stood ≡ MOST_ASKS
  pub stays : result ≡ turned.Open pending

abbrev pub TurnsHalf : {E : Type 0} → HalfTurned E → PendingNow → Means → Homes → Homes → Type 0
TurnsHalf result p m old new = EndsTurn result m (record { pending = p; homes = old }) new ⊎ HasReplied result m (record { pending = p; homes = old }) new

-- ---- the sessions around a half

-- the sockets that the port made, the kind of the node, the other halves, and those that are over
pub record Others : Type 0 where
  pub made : List SocketId
  pub entity : ℕ
  pub halves : List PendingNow
  pub loose : List LooseNow

-- a half takes its turn before the others
abbrev pub with_half : PendingNow → Others → List RecordNow → Sessions
with_half p c records = record { made = c.made; records = records; halves = p ∷ c.halves; loose = c.loose }

-- what it came to
abbrev pub with_turned : {E : Type 0} → HalfTurned E → Others → List RecordNow → Sessions
with_turned (turned.Open p) c records = with_half p c records
with_turned turned.Taken c records = record { made = c.made; records = records; halves = c.halves; loose = c.loose }
with_turned (turned.Over l) c records = record { made = c.made; records = records; halves = c.halves; loose = c.loose ++ l ∷ [] }
with_turned (turned.NoMemory p) c records = with_half p c records

abbrev pub with_moved : {E : Type 0} → HalfMoved E → Others → List RecordNow → Sessions
with_moved (moved.GoesOn p) c records = with_half p c records
with_moved (moved.Ends result) c records = with_turned result c records
