-- What comes of a half that was asked: an ident is looked at before it is judged, and where an answer takes no socket the half
-- replies. The order is that of a center's turn; the rest is this project's own.
use Rattle.std.specs.Prelude.{◌≡◌, ℕ, ◌⊎◌, Bool, true, false, List, IfSome}
use Rattle.m2_fabric.specs.declared.socket.SocketId.{SocketId}
use Rattle.m2_fabric.specs.Sockets.{IsNewTo, is_among, same_socket}
use Rattle.m2_handshake.specs.declared.ident.IdentCheck.{IdentCheck}
use Rattle.m2_handshake.specs.declared.ident.IdentCheck.TheVariants.{Fine, Missing, Fault}
use Rattle.m2_feed.specs.m2_journal.Lawful.{judged_on}
use Rattle.m2_trail.specs.Arrivals.{closed_of}
use Rattle.m2_trail.specs.Asks.{check_of}
use Rattle.m2_trail.specs.Incoming.{IncomingNow, after_refusing}
use Rattle.m2_trail.specs.Replies.{refusal}
use Rattle.m2_record.specs.RecordNow.{RecordNow, ends_of, ids_of}
use Rattle.m2_record.specs.TakenTrails.{judgements_in}
use Rattle.m2_turn.specs.declared.answering.HalfAnswered.{HalfAnswered}
use Rattle.m2_turn.specs.declared.answering.HalfAnswered.TheVariants as half
use Rattle.m2_turn.specs.declared.judging.AskJudged.TheVariants as asked
use Rattle.m2_turn.specs.declared.judging.Replied.TheVariants as replied
use Rattle.m2_turn.specs.Connecting.{IsMadeBy}
use Rattle.m2_turn.specs.Judging.{Judging, JudgesAsk, RepliesAs}
use Rattle.m2_turn.specs.RecordTurn.{Means}

-- The half named the kind of the record's node; the record has no end of its socket, and has judged there just what its trail
-- says.
pub record IsKnown (a : IncomingNow) (r : RecordNow) : Type 0 where
  pub entity : a.trail.entity ≡ r.core.facts.node.entity
  pub new : IsNewTo (ids_of (ends_of r)) a.end.id
  pub judged : a.trail.judged ≡ judged_on a.end.id (judgements_in r.journal)

-- what is found in the ask before it is judged
abbrev pub IsFound : IdentCheck → IncomingNow → RecordNow → Type 0
IsFound found a r = IfSome a.ask (λ ask. found ≡ check_of ask r.core.facts.mine r.core.facts.policy r.core.facts.node.requires_)

-- a reply that is owed: given, or said by closing; for want of memory it is owed still
abbrev pub RepliesHalf : {E : Type 0} → HalfAnswered E → IncomingNow → Type 0
RepliesHalf {E} (half.Taken answer) a = ⊥
RepliesHalf {E} (half.Open goes_on) a = RepliesAs {E = E} (replied.Open goes_on) a
RepliesHalf {E} (half.Closed loose) a = RepliesAs {E = E} (replied.Closed loose) a
RepliesHalf {E} (half.Undrawn back) a = ⊥
RepliesHalf {E} (half.NoMemory back) a = RepliesAs {E = E} (replied.NoMemory back) a

-- an ident of which features are missing: refused; for want of memory it is asked still
abbrev pub RefusesHalf : {E : Type 0} → HalfAnswered E → (bits : ℕ) → IncomingNow → Type 0
RefusesHalf (half.Open goes_on) bits a = goes_on ≡ after_refusing (refusal bits) bits a
RefusesHalf (half.NoMemory back) bits a = back ≡ a
RefusesHalf _ bits a = ⊥

-- an ask that isn't meant for this node
abbrev pub RejectsHalf : {E : Type 0} → HalfAnswered E → IncomingNow → Type 0
RejectsHalf (half.Closed loose) a = loose ≡ closed_of a
RejectsHalf _ a = ⊥

-- it is judged, and replied to where the record doesn't take the socket
abbrev pub OwesThen : {E : Type 0} → HalfAnswered E → IncomingNow → Means → Judging → Judging → Type 0
OwesThen {E} result a m old new = (arrival : IncomingNow) × JudgesAsk {E = E} (asked.Owes arrival) a m old new × RepliesHalf result arrival

-- It stays unanswered exactly where no number could be drawn for its answer.
abbrev pub HearsHalf : {E : Type 0} → HalfAnswered E → IncomingNow → Means → Judging → Judging → Type 0
HearsHalf {E} (half.Taken answer) a m old new = JudgesAsk {E = E} (asked.Taken answer) a m old new
HearsHalf {E} (half.Undrawn back) a m old new = JudgesAsk {E = E} (asked.Undrawn back) a m old new
HearsHalf {E} (half.NoMemory back) a m old new =
    JudgesAsk {E = E} (asked.NoMemory back) a m old new ⊎ OwesThen {E = E} (half.NoMemory back) a m old new
HearsHalf {E} result a m old new = OwesThen result a m old new

abbrev pub FindsSo : {E : Type 0} → IdentCheck → HalfAnswered E → IncomingNow → Means → Judging → Judging → Type 0
FindsSo Fine result a m old new = HearsHalf result a m old new
FindsSo (Missing bits) result a m old new = RefusesHalf result bits a × (new ≡ old)
FindsSo (Fault f) result a m old new = RejectsHalf result a × (new ≡ old)

-- by whether it was judged before
abbrev pub AnswersBy : {E : Type 0} → (judged : Bool) → HalfAnswered E → IncomingNow → Means → Judging → Judging → Type 0
AnswersBy true result a m old new = RepliesHalf result a × (new ≡ old)
AnswersBy false result a m old new = (found : IdentCheck) × IsFound found a old.side × FindsSo found result a m old new

abbrev pub AnswersHalf : {E : Type 0} → HalfAnswered E → IncomingNow → Means → Judging → Judging → Type 0
AnswersHalf result a m old new = AnswersBy a.is_judged result a m old new

-- ---- what stays beside a record that answers

-- the same socket, of which the record knows all
pub record IsStill (b a : IncomingNow) (r : RecordNow) : Type 0 where
  pub id : b.end.id ≡ a.end.id
  pub known : IsKnown b r

-- of the half itself, where its socket wasn't taken
abbrev pub StaysKnown : {E : Type 0} → HalfAnswered E → IncomingNow → RecordNow → Type 0
StaysKnown (half.Taken answer) a r = Unit {0}
StaysKnown (half.Open goes_on) a r = IsStill goes_on a r
StaysKnown (half.Closed loose) a r = (b : IncomingNow) × IsStill b a r × (loose ≡ closed_of b)
StaysKnown (half.Undrawn back) a r = IsStill back a r
StaysKnown (half.NoMemory back) a r = IsStill back a r

-- what never changes of it; the sockets that came to it, where that of the half is one of those that were made; and what it
-- knows of the sockets of other halves, and of this one
pub record StaysAnswered {E : Type 0} (result : HalfAnswered E) (a : IncomingNow) (old new : RecordNow) : Type 0 where
  pub facts : new.core.facts ≡ old.core.facts
  pub made : (made : List SocketId) → is_among a.end.id made ≡ true → IsMadeBy made old → IsMadeBy made new
  pub others : (b : IncomingNow) → same_socket b.end.id a.end.id ≡ false → IsKnown b old → IsKnown b new
  pub itself : StaysKnown result a new

-- ---- what stays beside a record in its steps

-- what never changes of it, the sockets that came to it, and what it knows of the sockets of halves
pub record StaysBeside (old new : RecordNow) : Type 0 where
  pub facts : new.core.facts ≡ old.core.facts
  pub made : (made : List SocketId) → IsMadeBy made old → IsMadeBy made new
  pub known : (a : IncomingNow) → IsKnown a old → IsKnown a new
