-- What a socket of the peer did before a record took it, beside the log of its end. This project's own.
use Rattle.std.specs.Prelude.{◌≡◌, ℕ, suc, ◌+◌, ◌^◌, ◌<◌, ◌≤◌, nat_lt, if◌then◌else◌, Bool, true, false, List, [], ◌∷◌, ◌++◌, length, map, take, slice_index, Option, IfSome}
use Rattle.m2_addr.specs.declared.addr.Addr.{Addr}
use Rattle.m2_addr.specs.declared.addr.TheConstants.Addr.{MSGR2}
use Rattle.m2_control.specs.declared.control.Control.{Control}
use Rattle.m2_fabric.specs.declared.log.Run.{Run}
use Rattle.m2_fabric.specs.declared.log.Run.TheVariants as run
use Rattle.m2_fabric.specs.declared.socket.SocketId.{SocketId}
use Rattle.m2_fabric.specs.End.{SeenEnd}
use Rattle.m2_fabric.specs.Log.{Log}
use Rattle.m2_handshake.specs.Course.{acceptor_course, Exchange, Reaches}
use Rattle.m2_handshake.specs.Laws.{IsPrefix}
use Rattle.m2_handshake.specs.Standing.{Standing, acceptor_at_start}
use Rattle.m2_handshake.specs.declared.stage.Stage.TheVariants.{Asked}
use Rattle.m2_journal.specs.declared.entry.Entry.{Entry}
use Rattle.m2_journal.specs.declared.entry.Entry.TheVariants as entry
use Rattle.m2_journal.specs.declared.entry.JudgedItem.{JudgedItem}
use Rattle.m2_journal.specs.Items.{runs_on}
use Rattle.m2_trail.specs.declared.trail.Trail.{Trail}
use Rattle.m2_trail.specs.Asks.{facts_of_ask}
use Rattle.m2_trail.specs.Replies.{replies_to, first_replies}

-- a socket of the peer; as what the half on it named itself; its reads, writes and close; its asks that were judged, with
-- their answers, in order; and how many entries there were when each of them was judged
pub record TrailNow : Type 0 where
  pub socket : SocketId
  pub entity : ℕ
  pub entries : List Entry
  pub judged : List JudgedItem
  pub judged_after : List ℕ

abbrev pub trail_now : Trail → TrailNow
trail_now t = record {
  socket = t.socket;
  entity = t.entity;
  entries = t.entries.items;
  judged = t.judged.items;
  judged_after = t.judged_after.items;
}

-- ---- its entries, and the log of its end

abbrev pub entry_of : SocketId → Run → Entry
entry_of socket (run.Read count) = entry.Read socket count
entry_of socket (run.Wrote count) = entry.Wrote socket count

abbrev pub closing : SocketId → (closed : Bool) → List Entry
closing socket true = entry.Closed socket ∷ []
closing socket false = []

-- all that an end did, as entries
abbrev pub entries_of : SocketId → Log → List Entry
entries_of socket log = map (entry_of socket) log.runs ++ closing socket log.closed

-- how many bytes runs read, and how many they wrote
abbrev pub read_by : List Run → ℕ
read_by [] = 0
read_by (run.Read count ∷ rs) = count + read_by rs
read_by (run.Wrote count ∷ rs) = read_by rs

abbrev pub written_by : List Run → ℕ
written_by [] = 0
written_by (run.Read count ∷ rs) = written_by rs
written_by (run.Wrote count ∷ rs) = count + written_by rs

-- the bytes that the first runs of a log got, and those that they put
abbrev pub got_by : List Run → Log → List ℕ
got_by runs log = take (read_by runs) log.got

abbrev pub put_by : List Run → Log → List ℕ
put_by runs log = take (written_by runs) log.put

-- the runs of a log speak of all its bytes
pub record IsCounted (log : Log) : Type 0 where
  pub got : length log.got ≡ read_by log.runs
  pub put : length log.put ≡ written_by log.runs

-- the runs of a trail
abbrev pub runs_of : TrailNow → List Run
runs_of t = runs_on t.socket t.entries

-- ---- its half

-- the address of a socket's opener as its acceptor knows it
abbrev pub opener_of : SocketId → Addr
opener_of socket = record { kind = MSGR2; nonce = 0; ip = socket.from_ip; port = socket.from_port }

-- where the half of a trail began
abbrev pub begins : TrailNow → Standing
begins t = acceptor_at_start t.entity (opener_of t.socket)

-- ---- when its asks were judged

-- numbers of which none is above the next one, from the least to the most
abbrev pub RisesWithin : (least : ℕ) → List ℕ → (most : ℕ) → Type 0
RisesWithin least [] most = least ≤ most
RisesWithin least (n ∷ ns) most = (least ≤ n) × RisesWithin n ns most

-- how many of these numbers are below another one, before the first that isn't
abbrev pub how_many_below : ℕ → List ℕ → ℕ
how_many_below n [] = 0
how_many_below n (m ∷ ms) = if nat_lt m n then suc (how_many_below n ms) else 0

-- how many asks were judged before the last of the first n entries
abbrev pub judged_by : TrailNow → ℕ → ℕ
judged_by t n = how_many_below n t.judged_after

-- the replies to those asks, and behind the reply to the very last judged ask the refusal
abbrev pub replies_by : TrailNow → (refused : Option ℕ) → ℕ → List Control
replies_by t refused n = first_replies t.judged (judged_by t n) refused

-- ---- the two facts of a trail

-- By these bytes, and some of these replies, a half comes to asks of which the first ones are these judged ones.
pub record ComesToAsk (begin : Standing) (bytes : List ℕ) (replies : List Control) (judged : List JudgedItem) : Type 0 where
  pub exchange : Exchange
  pub standing : Standing
  pub comes : Reaches begin exchange standing
  pub fed : exchange.bytes ≡ bytes
  pub given : IsPrefix exchange.replies replies
  pub first : IsPrefix (map (λ (i : JudgedItem). i.ask) judged) (map facts_of_ask exchange.asks)

-- By these bytes, and the first of these replies, as many as its asks in the bytes allow, a half comes to write this text, or
-- more.
pub record ComesToWrite (begin : Standing) (bytes : List ℕ) (replies : List Control) (text : List ℕ) : Type 0 where
  pub exchange : Exchange
  pub standing : Standing
  pub comes : Reaches begin exchange standing
  pub fed : exchange.bytes ≡ bytes
  pub given : IsPrefix exchange.replies replies
  pub written : IsPrefix text exchange.text

-- what these runs put is what the half writes by what they got
abbrev pub IsPoint : Standing → Log → List Control → List Run → Type 0
IsPoint begin log replies runs = ComesToWrite begin (got_by runs log) replies (put_by runs log)

-- by what these runs got, and by the replies to the asks before it, the half comes to the judged ask at this place
abbrev pub IsAsked : TrailNow → Log → (place : ℕ) → List Run → Type 0
IsAsked t log place runs = ComesToAsk (begins t) (got_by runs log) (replies_to (take place t.judged)) (take (suc place) t.judged)

-- Each judged ask is one that the half came to before it was judged: by what it had got by then, and by the replies to the
-- asks before. And behind the first n entries of the trail, for each n, what was put is what the half writes by what was got
-- and by the answers judged by then. Its replies are the frames of the answers, and at most one refusal behind them.
pub record IsTrailOf (t : TrailNow) (log : Log) : Type 0 where
  pub refused : Option ℕ
  pub refused_fits : IfSome refused (λ bits. bits < 2 ^ 64)
  pub many : length t.judged_after ≡ length t.judged
  pub rising : RisesWithin 0 t.judged_after (length t.entries)
  pub asks : (place : ℕ) → place < length t.judged → IsAsked t log place (runs_on t.socket (take (slice_index t.judged_after place) t.entries))
  pub points : (n : ℕ) → IsPoint (begins t) log (replies_by t refused n) (runs_on t.socket (take n t.entries))

-- The trail of an end that no record took: it is of that socket, and its entries are all that the end did.
pub record IsWholeTrail (t : TrailNow) (end : SeenEnd) : Type 0 where
  pub socket : t.socket ≡ end.id
  pub entries : t.entries ≡ entries_of t.socket end.log
  pub counted : IsCounted end.log
  pub facts : IsTrailOf t end.log

-- ---- what a half leaves to the record that takes it

-- what the half has left unread at its last ask: the end of the bytes that the trail got, behind what the half has used by
-- the replies to its earlier asks
unfoldable pub unread_of : TrailNow → Log → List ℕ
unread_of t log = (acceptor_course t.entity (opener_of t.socket) (got_by (runs_of t) log) (replies_to t.judged)).standing.rest

-- the bytes that a half has read so far, and those that it has written
pub record HalfBytes : Type 0 where
  pub got : List ℕ
  pub put : List ℕ

-- a half that a record has taken: it owes the reply to the last of the asks that were judged, has replied to those before,
-- has put all that it wrote, and had this left unread
pub record IsTaken (begin : Standing) (h : HalfBytes) (judged : List JudgedItem) (left : List ℕ) : Type 0 where
  pub exchange : Exchange
  pub standing : Standing
  pub comes : Reaches begin exchange standing
  pub got : exchange.bytes ≡ h.got
  pub put : exchange.text ≡ h.put
  pub replies : exchange.replies ≡ replies_to judged
  pub asks : map facts_of_ask exchange.asks ≡ map (λ (i : JudgedItem). i.ask) judged
  pub stage : standing.stage ≡ Asked
  pub unread : standing.rest ≡ left

-- the bytes of the half of a trail
abbrev pub half_bytes : TrailNow → Log → HalfBytes
half_bytes t log = record { got = got_by (runs_of t) log; put = put_by (runs_of t) log }

-- The half of this trail was taken, by the answer to the last ask, behind which it did nothing more.
pub record IsTakenTrail (t : TrailNow) (log : Log) : Type 0 where
  pub half : IsTaken (begins t) (half_bytes t log) t.judged (unread_of t log)
  pub earlier : List ℕ
  pub last : t.judged_after ≡ earlier ++ length t.entries ∷ []
