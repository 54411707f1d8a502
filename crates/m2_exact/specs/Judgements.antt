-- Two asks that say the same, judged by records that are alike; and news of the other side. This project's own.
use Rattle.std.specs.Prelude.{◌≡◌, ℕ, Bool, true, false, List, IfSome, IsSome}
use Rattle.m2_fabric.specs.Kinds.{IsInMemory}
use Rattle.m2_fabric.specs.declared.end.News.{News}
use Rattle.m2_fabric.specs.declared.socket.SocketId.{SocketId}
use Rattle.m2_trail.specs.Asks.{facts_of_ask}
use Rattle.m2_trail.specs.Incoming.{IncomingNow}
use Rattle.m2_script.specs.m2_center.m2_core.Judging.{verdict_on}
use Rattle.m2_script.specs.m2_center.m2_record.Calls.{after_news}
use Rattle.m2_script.specs.m2_center.m2_record.Judging.{JudgesAs}
use Rattle.m2_script.specs.m2_center.m2_record.RecordNow.{RecordNow}
use Rattle.m2_script.specs.m2_center.m2_record.declared.judging.Judged.{Judged}
use Rattle.m2_script.specs.m2_center.m2_record.declared.judging.Judged.TheVariants as judged
use Rattle.m2_exact.specs.Halves as half
use Rattle.m2_exact.specs.Records.{plain}
use Rattle.m2_exact.specs.RecordTurns.{IsFit}

-- without the room of an arrival that comes back, and without where the parts of its ask lie
abbrev pub bare_judged : {E : Type 0} → Judged E → Judged E
bare_judged (judged.Taken answer) = judged.Taken answer
bare_judged (judged.Back answer arrival) = judged.Back answer (half.plain arrival)
bare_judged (judged.NoMemory arrival) = judged.NoMemory (half.plain arrival)

abbrev pub lacks : {E : Type 0} → Judged E → Bool
lacks (judged.NoMemory arrival) = true
lacks j = false

-- an arrival that comes back is over an end in memory
abbrev pub BackInMemory : {E : Type 0} → Judged E → Type 0
BackInMemory (judged.Taken answer) = Unit {0}
BackInMemory (judged.Back answer arrival) = IsInMemory arrival.end
BackInMemory (judged.NoMemory arrival) = IsInMemory arrival.end

-- the ask of an arrival was judged with this number, and memory lasted
pub record Judges {E : Type 0} (j : Judged E) (a : IncomingNow) (number now : ℕ) (old new : RecordNow) : Type 0 where
  pub asked : IsSome a.ask
  pub judges : IfSome a.ask (λ ask. JudgesAs j (verdict_on (facts_of_ask ask) number old.core.live) a now old new)
  pub memory : lacks j ≡ false

-- Arrivals that are alike but for room and for where the parts of their asks lie have one answer, and the records stay alike; a
-- record that is fit stays fit. News of the other side are told alike.
pub record LikeRecordsJudgeAlike (E : Type 0) : Type 0 where
  pub judges : (one other : Judged E) (a b : IncomingNow) (number now : ℕ) (r s new behind : RecordNow) → half.plain a ≡ half.plain b → plain r ≡ plain s →
      Judges one a number now r new → Judges other b number now s behind → (bare_judged one ≡ bare_judged other) × (plain new ≡ plain behind)
  pub stays : (j : Judged E) (a : IncomingNow) (number now : ℕ) (old new : RecordNow) → IsInMemory a.end → IsFit old → Judges j a number now old new → IsFit new × BackInMemory j
  pub news : (id : SocketId) (news : News) (bytes : List ℕ) (r s : RecordNow) → plain r ≡ plain s → plain (after_news id news bytes r) ≡ plain (after_news id news bytes s)
