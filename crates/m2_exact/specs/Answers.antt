-- What comes of two halves that were asked, beside records that are alike. This project's own.
use Rattle.std.specs.Prelude.{◌≡◌, ℕ, Bool, true, false, IsSome}
use Rattle.m2_dispatch.specs.m2_shared.Numbers.{SeenNumberPass}
use Rattle.m2_dispatch.specs.m2_shared.Gates.{Gate, words}
use Rattle.m2_fabric.specs.Kinds.{IsInMemory}
use Rattle.m2_trail.specs.Incoming.{IncomingNow}
use Rattle.m2_script.specs.m2_center.m2_turn.Answering.{AnswersHalf}
use Rattle.m2_script.specs.m2_center.m2_turn.Judging.{Judging}
use Rattle.m2_script.specs.m2_center.m2_turn.RecordTurn.{Means}
use Rattle.m2_script.specs.m2_center.m2_turn.declared.answering.HalfAnswered.{HalfAnswered}
use Rattle.m2_script.specs.m2_center.m2_turn.declared.answering.HalfAnswered.TheVariants as answered
use Rattle.m2_script.specs.m2_center.m2_record.RecordNow.{RecordNow}
use Rattle.m2_exact.specs.Halves as half
use Rattle.m2_exact.specs.Records.{bare_numbers, plain}
use Rattle.m2_exact.specs.RecordTurns.{HasAlone, IsFit}

pub record PlainJudging : Type 0 where
  pub side : RecordNow
  pub bytes : Gate → ℕ
  pub numbers : SeenNumberPass

abbrev pub plain_judging : Judging → PlainJudging
plain_judging j = record { side = plain j.side; bytes = words j.bytes; numbers = bare_numbers j.numbers }

-- without the room of a half that goes on or comes back, and without where the parts of its ask lie
abbrev pub bare_answered : {E : Type 0} → HalfAnswered E → HalfAnswered E
bare_answered (answered.Taken answer) = answered.Taken answer
bare_answered (answered.Open goes_on) = answered.Open (half.plain goes_on)
bare_answered (answered.Closed loose) = answered.Closed loose
bare_answered (answered.Undrawn back) = answered.Undrawn (half.plain back)
bare_answered (answered.NoMemory back) = answered.NoMemory (half.plain back)

abbrev pub lacks : {E : Type 0} → HalfAnswered E → Bool
lacks (answered.NoMemory back) = true
lacks _ = false

-- a half that goes on or comes back is over an end in memory
abbrev pub StaysInMemory : {E : Type 0} → HalfAnswered E → Type 0
StaysInMemory (answered.Open goes_on) = IsInMemory goes_on.end
StaysInMemory (answered.Undrawn back) = IsInMemory back.end
StaysInMemory (answered.NoMemory back) = IsInMemory back.end
StaysInMemory _ = Unit {0}

-- But for want of memory, asks that say the same come to the same: they are refused, judged with one number, replied to, or left for
-- want of a number alike, and what is left is alike. A record that is fit stays fit.
pub record LikeHalvesAreAnsweredAlike (E : Type 0) : Type 0 where
  pub answers : (m : Means) (one other : HalfAnswered E) (a b : IncomingNow) (old last new behind : Judging) → HasAlone m → IsSome a.ask → half.plain a ≡ half.plain b →
      plain_judging old ≡ plain_judging last → lacks one ≡ false → lacks other ≡ false → AnswersHalf one a m old new → AnswersHalf other b m last behind →
      (bare_answered one ≡ bare_answered other) × (plain_judging new ≡ plain_judging behind)
  pub stays : (m : Means) (result : HalfAnswered E) (a : IncomingNow) (old new : Judging) → IsSome a.ask → IsInMemory a.end → IsFit old.side → lacks result ≡ false → AnswersHalf result a m old new →
      IsFit new.side × StaysInMemory result
