-- How an ask is judged at its home, and replied to. The answers are those of the session's tables; the rest is this project's own.
use Rattle.std.specs.Prelude.{◌≡◌, ℕ, false, None, IfSome, IsSome}
use Rattle.m2_record.specs.m2_core.Asking.{IsDraw}
use Rattle.m2_record.specs.m2_core.Judging.{verdict_on}
use Rattle.m2_fabric.specs.Sockets.{IsNewTo}
use Rattle.m2_feed.specs.m2_journal.Lawful.{judged_on}
use Rattle.m2_session.specs.declared.answer.Answer.{Answer}
use Rattle.m2_shared.specs.declared.draw.Draw.{Draw}
use Rattle.m2_shared.specs.declared.draw.Draw.TheVariants as draw
use Rattle.m2_shared.specs.Numbers.{SeenNumberPass}
use Rattle.m2_shared.specs.Gates.{Return}
use Rattle.m2_shared.specs.declared.throttles.TakePasses.{TakePasses}
use Rattle.m2_trail.specs.Asks.{AgreesWith, facts_of_ask}
use Rattle.m2_trail.specs.Incoming.{IncomingNow, IsAnswered, after_replying}
use Rattle.m2_trail.specs.Arrivals.{closed_of}
use Rattle.m2_trail.specs.Replies.{first_reply}
use Rattle.m2_record.specs.declared.judging.Judged.{Judged}
use Rattle.m2_record.specs.declared.judging.Judged.TheVariants as judged
use Rattle.m2_record.specs.declared.work.Work.{Work}
use Rattle.m2_record.specs.Judging.{JudgesAs, given_back}
use Rattle.m2_record.specs.RecordNow.{RecordNow, ends_of, ids_of}
use Rattle.m2_record.specs.TakenTrails.{judgements_in}
use Rattle.m2_turn.specs.declared.judging.AskJudged.{AskJudged}
use Rattle.m2_turn.specs.declared.judging.AskJudged.TheVariants as asked
use Rattle.m2_turn.specs.declared.judging.Replied.{Replied}
use Rattle.m2_turn.specs.declared.judging.Replied.TheVariants as replied
use Rattle.m2_turn.specs.RecordTurn.{Means}

-- It isn't judged, and says the same of the session as the record's policy. Its half named the kind of the record's node; the
-- record has no end of its socket, and has judged there just what its trail says.
pub record CanBeHeard (a : IncomingNow) (r : RecordNow) : Type 0 where
  pub unjudged : a.is_judged ≡ false
  pub agrees : IfSome a.ask (AgreesWith r.core.facts.policy)
  pub entity : a.trail.entity ≡ r.core.facts.node.entity
  pub new : IsNewTo (ids_of (ends_of r)) a.end.id
  pub judged : a.trail.judged ≡ judged_on a.end.id (judgements_in r.journal)

-- what judging changes: the record, and the passes of the thread
pub record Judging : Type 0 where
  pub side : RecordNow
  pub bytes : TakePasses
  pub numbers : SeenNumberPass

abbrev pub judging : RecordNow → Work → Judging
judging side w = record { side = side; bytes = w.passes.now; numbers = w.number_pass.now }

-- a number is drawn, and the record judges the ask with it
pub record Judges {E : Type 0} (j : Judged E) (a : IncomingNow) (m : Means) (old new : Judging) : Type 0 where
  pub number : ℕ
  pub draws : IsDraw m.counter (draw.Number number) old.numbers new.numbers
  pub judges : IfSome a.ask (λ ask. JudgesAs j (verdict_on (facts_of_ask ask) number old.side.core.live) a m.now old.side new.side)
  pub gives : Return (given_back j old.side.core.live.granted) m.throttles old.bytes new.bytes

-- no number: none is left, or another thread drew one between
abbrev pub IsUndrawn : Draw → Type 0
IsUndrawn (draw.Number n) = ⊥
IsUndrawn answer = Unit {0}

abbrev pub JudgesAsk : {E : Type 0} → AskJudged E → IncomingNow → Means → Judging → Judging → Type 0
JudgesAsk {E} (asked.Taken answer) a m old new = Judges {E = E} (judged.Taken answer) a m old new
JudgesAsk {E} (asked.Owes arrival) a m old new = (answer : Answer) × Judges {E = E} (judged.Back answer arrival) a m old new
JudgesAsk {E} (asked.Undrawn arrival) a m old new =
    (arrival ≡ a) × (new.side ≡ old.side) × (new.bytes ≡ old.bytes) × ((answer : Draw) × IsUndrawn answer × IsDraw m.counter answer old.numbers new.numbers)
JudgesAsk {E} (asked.NoMemory arrival) a m old new = Judges {E = E} (judged.NoMemory arrival) a m old new

-- ---- the reply

-- a reply for each answer but those that take the socket and the one to close
abbrev pub RepliesAs : {E : Type 0} → Replied E → IncomingNow → Type 0
RepliesAs (replied.Open half) a =
    (answer : Answer) × IsAnswered answer a × IsSome (first_reply answer) × IfSome (first_reply answer) (λ c. half ≡ after_replying c a)
RepliesAs (replied.Closed loose) a = (answer : Answer) × IsAnswered answer a × (first_reply answer ≡ None) × (loose ≡ closed_of a)
RepliesAs (replied.NoMemory back) a = back ≡ a
