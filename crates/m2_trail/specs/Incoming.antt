-- What contracts see of a socket of the peer with its half and its trail, and how each call changes that. This project's
-- own.
use Rattle.std.specs.Prelude.{◌≡◌, ℕ, ◌<◌, ◌^◌, Bool, true, false, List, [], ◌∷◌, ◌++◌, length, map, take, drop, slice_index, Option, Some, None, IsSome, IfSome, MatchBool}
use Rattle.std.specs.List.{AllByRecursion}
use Rattle.m2_addr.specs.declared.addr.Addr.{Addr}
use Rattle.m2_session.specs.declared.ask.AskFacts.{AskFacts}
use Rattle.m2_control.specs.declared.control.Control.{Control}
use Rattle.m2_control.specs.Laws.{IsInBounds}
use Rattle.m2_fabric.specs.declared.end.EndRead.{EndRead}
use Rattle.m2_fabric.specs.declared.end.EndRead.TheVariants as read
use Rattle.m2_fabric.specs.declared.end.EndWrite.{EndWrite}
use Rattle.m2_fabric.specs.declared.end.EndWrite.TheVariants as write
use Rattle.m2_fabric.specs.End.{SeenEnd, Reads, Writes}
use Rattle.m2_handshake.specs.declared.answer.HalfStep.{HalfStep}
use Rattle.m2_handshake.specs.declared.answer.HalfStep.TheVariants as half
use Rattle.m2_handshake.specs.declared.ask.Ask.{Ask}
use Rattle.m2_handshake.specs.declared.ask.AskStep.{AskStep}
use Rattle.m2_handshake.specs.declared.ask.AskStep.TheVariants as asked
use Rattle.m2_handshake.specs.declared.stage.Stage.{Stage}
use Rattle.m2_handshake.specs.declared.stage.Stage.TheVariants.{Asked, Ended, Faulty}
use Rattle.m2_handshake.specs.Asking.{AskAnswers, is_ready, after_reply}
use Rattle.m2_handshake.specs.Asks.{bare_ask}
use Rattle.m2_handshake.specs.Course.{Exchange, Reaches}
use Rattle.m2_handshake.specs.Greeting.{control_of}
use Rattle.m2_handshake.specs.Half.{Writer, Answers}
use Rattle.m2_handshake.specs.Moves.{can_ask}
use Rattle.m2_handshake.specs.Standing.{Standing, acceptor_at_start, fed}
use Rattle.m2_handshake.specs.Texts.{frame_text}
use Rattle.m2_journal.specs.declared.entry.Entry.{Entry}
use Rattle.m2_journal.specs.declared.entry.Entry.TheVariants as entry
use Rattle.m2_journal.specs.declared.entry.JudgedItem.{JudgedItem}
use Rattle.m2_journal.specs.Lawful.{may_ask_again}
use Rattle.m2_session.specs.declared.answer.Answer.{Answer}
use Rattle.m2_trail.specs.declared.step.IncomingStep.{IncomingStep}
use Rattle.m2_trail.specs.declared.step.IncomingStep.TheVariants as step
use Rattle.m2_trail.specs.Asks.{facts_of_ask, IsMain}
use Rattle.m2_trail.specs.Replies.{refusal_of, all_replies}
use Rattle.m2_trail.specs.Trails.{TrailNow, begins, entries_of, opener_of, replies_by, IsAsked, IsCounted, IsPoint, RisesWithin}

pub record IncomingNow : Type 0 where
  pub end : SeenEnd
  pub trail : TrailNow
  -- where the half stands
  pub half : Standing
  -- what the half has written and isn't put
  pub left : List ℕ
  -- the ask that has no reply
  pub ask : Option Ask
  -- whether that ask is the last one of those that were judged
  pub is_judged : Bool
  -- the features for which the last ask was refused
  pub refused : Option ℕ
  -- how many more judged asks fit before memory is taken
  pub room : ℕ

-- ---- where it begins

-- an accepted end that did nothing yet, with a half that names this entity
abbrev pub accepted : ℕ → SeenEnd → (room : ℕ) → IncomingNow
accepted entity end room = record {
  end = end;
  trail = record { socket = end.id; entity = entity; entries = []; judged = []; judged_after = [] };
  half = acceptor_at_start entity (opener_of end.id);
  left = [];
  ask = None;
  is_judged = false;
  refused = None;
  room = room;
}

-- ---- reading and writing

abbrev pub with_entry : Entry → TrailNow → TrailNow
with_entry e t = record t { entries = t.entries ++ e ∷ [] }

-- the half is fed what a read gave
abbrev pub fed_of : EndRead → (piece : List ℕ) → Standing → Standing
fed_of (read.Got n) piece s = fed s (take n piece)
fed_of _ piece s = s

-- a read is noted
abbrev pub noted_read : EndRead → TrailNow → TrailNow
noted_read (read.Got n) t = with_entry (entry.Read t.socket n) t
noted_read _ t = t

-- the first bytes of the piece are fed to the half, and the read is noted
abbrev pub after_read : EndRead → (piece : List ℕ) → SeenEnd → IncomingNow → IncomingNow
after_read answer piece end v = record v { end = end; half = fed_of answer piece v.half; trail = noted_read answer v.trail }

abbrev pub ReadsOn : EndRead → (piece : List ℕ) → IncomingNow → IncomingNow → Type 0
ReadsOn answer piece old new = Reads answer piece old.end new.end × (new ≡ after_read answer piece new.end old)

-- a write is noted
abbrev pub noted_write : EndWrite → TrailNow → TrailNow
noted_write (write.Put n) t = with_entry (entry.Wrote t.socket n) t
noted_write _ t = t

-- what was put is left no more
abbrev pub left_by : EndWrite → (left : List ℕ) → List ℕ
left_by (write.Put n) left = drop n left
left_by _ left = left

-- the first bytes that are left are put, and the write is noted
abbrev pub after_write : EndWrite → SeenEnd → IncomingNow → IncomingNow
after_write answer end v = record v { end = end; left = left_by answer v.left; trail = noted_write answer v.trail }

abbrev pub WritesOn : EndWrite → IncomingNow → IncomingNow → Type 0
WritesOn answer old new = Writes answer old.left old.end new.end × (new ≡ after_write answer new.end old)

-- ---- one answer of the half

abbrev pub writer_of : IncomingNow → Writer
writer_of v = record { standing = v.half; out = v.left }

-- the half answers so: one that can be asked is asked, another goes on with its handshake
abbrev pub HalfAnswers : HalfStep → AskStep → IncomingNow → IncomingNow → Type 0
HalfAnswers answer ask old new =
    MatchBool (can_ask old.half) (AskAnswers ask old.half new.half) (Answers answer (writer_of old) (writer_of new))

-- nothing but where the half stands
abbrev pub OnlyMoves : IncomingNow → IncomingNow → Type 0
OnlyMoves old new = new ≡ record old { half = new.half }

abbrev pub StepsOn : IncomingStep → IncomingNow → IncomingNow → Type 0
StepsOn step.Wrote old new =
    (can_ask old.half ≡ false) × Answers half.Wrote (writer_of old) (writer_of new)
    × (new ≡ record old { half = new.half; left = new.left })
StepsOn step.Signed old new =
    (can_ask old.half ≡ false) × Answers half.Authed (writer_of old) (writer_of new) × OnlyMoves old new
StepsOn step.Rests old new = HalfAnswers half.NotYet asked.NotYet old new × OnlyMoves old new
StepsOn step.Asked old new =
    (ask : Ask) × (can_ask old.half ≡ true) × AskAnswers (asked.Asked ask) old.half new.half
    × (new ≡ record old { half = new.half; ask = Some ask })
StepsOn (step.Fault f) old new = HalfAnswers (half.Fault f) (asked.Fault f) old new × OnlyMoves old new
StepsOn step.NoMemory old new = HalfAnswers half.NoMemory asked.NoMemory old new × OnlyMoves old new

-- ---- judging and replying

abbrev pub item_of : Ask → Answer → JudgedItem
item_of ask answer = record { ask = facts_of_ask ask; answer = answer }

-- the answer to the ask in hand
abbrev pub items_of : Option Ask → Answer → List JudgedItem
items_of (Some ask) answer = item_of ask answer ∷ []
items_of None answer = []

-- asks are judged, behind all entries that there are
abbrev pub with_judged : List JudgedItem → TrailNow → TrailNow
with_judged more t = record t { judged = t.judged ++ more; judged_after = t.judged_after ++ map (λ (_ : JudgedItem). length t.entries) more }

abbrev pub after_judging : Answer → (room : ℕ) → IncomingNow → IncomingNow
after_judging answer room v =
    record v { trail = with_judged (items_of v.ask answer) v.trail; is_judged = true; room = room }

-- this is the answer to the ask in hand
abbrev pub IsAnswered : Answer → IncomingNow → Type 0
IsAnswered answer v =
    (v.is_judged ≡ true) × ((before : List JudgedItem) × (v.trail.judged ≡ before ++ items_of v.ask answer))

-- the frame is to be put, and the half goes on
abbrev pub after_replying : Control → IncomingNow → IncomingNow
after_replying c v =
    record v { half = record v.half { stage = after_reply c }; left = frame_text c; ask = None; is_judged = false }

abbrev pub after_refusing : Control → ℕ → IncomingNow → IncomingNow
after_refusing c bits v = record (after_replying c v) { refused = Some bits }

-- ---- what it keeps

-- the half waits for no ask any more
abbrev pub is_over : Stage → Bool
is_over Ended = true
is_over (Faulty f) = true
is_over _ = false

-- what the half was fed, replied, wrote and was asked
abbrev pub exchange_of : (replied : List Control) → (asks : List Ask) → IncomingNow → Exchange
exchange_of replied asks v = record { bytes = v.end.log.got; replies = replied; text = v.end.log.put ++ v.left; asks = asks }

abbrev pub facts_judged : List JudgedItem → List AskFacts
facts_judged judged = map (λ (i : JudgedItem). i.ask) judged

abbrev pub facts_asked : List Ask → List AskFacts
facts_asked asks = map facts_of_ask asks

-- the ask is the last one, the half owes its reply, and all that the half wrote is put; it can be read, and is somebody's
pub record IsOwed (ask : Ask) (asks : List Ask) (v : IncomingNow) : Type 0 where
  pub ready : is_ready v.half ≡ true
  pub stage : v.half.stage ≡ Asked
  pub put : v.left ≡ []
  pub unrefused : v.refused ≡ None
  pub earlier : List Ask
  pub last : asks ≡ earlier ++ bare_ask ask ∷ []
  pub main : Addr
  pub is_main : IsMain ask main
  pub bounds : IsInBounds (control_of ask)

-- the asks that were judged and replied to, those that are judged and not replied to, and all asks
pub record Asking : Type 0 where
  pub before : List JudgedItem
  pub this : List JudgedItem
  pub asks : List Ask

-- Without an ask in hand all judged asks were replied to, and at most one more was refused. An ask in hand is the last one,
-- and is the last judged one, or the next after them.
abbrev pub StandsAt : Option Ask → (is_judged : Bool) → IncomingNow → Asking → Type 0
StandsAt None judged v a =
    (judged ≡ false) × (a.this ≡ [])
    × ((more : List AskFacts) × (facts_asked a.asks ≡ facts_judged a.before ++ more)
    × (length more ≡ length (refusal_of v.refused)))
StandsAt (Some ask) false v a =
    IsOwed ask a.asks v × (a.this ≡ []) × (facts_asked a.asks ≡ facts_judged a.before ++ facts_of_ask ask ∷ [])
StandsAt (Some ask) true v a =
    IsOwed ask a.asks v × ((answer : Answer) × (a.this ≡ item_of ask answer ∷ []))
    × (facts_asked a.asks ≡ facts_judged a.before ++ facts_of_ask ask ∷ [])

-- all replies that the half has given
abbrev pub given_by : IncomingNow → Asking → List Control
given_by v a = all_replies a.before v.refused

pub record Keeps (v : IncomingNow) : Type 0 where
  pub unclosed : v.end.log.closed ≡ false
  pub socket : v.trail.socket ≡ v.end.id
  pub entries : v.trail.entries ≡ entries_of v.trail.socket v.end.log
  pub counted : IsCounted v.end.log
  pub asking : Asking
  pub judged : v.trail.judged ≡ asking.before ++ asking.this
  pub comes : Reaches (begins v.trail) (exchange_of (given_by v asking) asking.asks v) v.half
  pub stands : StandsAt v.ask v.is_judged v asking
  pub again : is_over v.half.stage ≡ false → AllByRecursion (λ (i : JudgedItem). may_ask_again i.answer ≡ true) asking.before
  pub refused_ends : IsSome v.refused → is_over v.half.stage ≡ true
  pub refused_fits : IfSome v.refused (λ bits. bits < 2 ^ 64)
  pub many : length v.trail.judged_after ≡ length v.trail.judged
  pub rising : RisesWithin 0 v.trail.judged_after (length v.end.log.runs)
  pub asked : (place : ℕ) → place < length v.trail.judged → IsAsked v.trail v.end.log place (take (slice_index v.trail.judged_after place) v.end.log.runs)
  pub points : (n : ℕ) → IsPoint (begins v.trail) v.end.log (replies_by v.trail v.refused n) (take n v.end.log.runs)
