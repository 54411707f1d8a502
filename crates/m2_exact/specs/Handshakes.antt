-- Two answers of one half of a handshake, whatever socket it is of. This project's own.
use Rattle.std.specs.Prelude.{◌≡◌, ◌≢◌}
use Rattle.m2_script.specs.m2_center.m2_turn.m2_handshake.declared.answer.HalfStep.{HalfStep}
use Rattle.m2_script.specs.m2_center.m2_turn.m2_handshake.declared.answer.HalfStep.TheVariants as half
use Rattle.m2_script.specs.m2_center.m2_turn.m2_handshake.declared.ask.AskStep.{AskStep}
use Rattle.m2_script.specs.m2_center.m2_turn.m2_handshake.declared.ask.AskStep.TheVariants as asked
use Rattle.m2_script.specs.m2_center.m2_turn.m2_handshake.Asking.{AskAnswers}
use Rattle.m2_script.specs.m2_center.m2_turn.m2_handshake.Asks.{bare_ask}
use Rattle.m2_script.specs.m2_center.m2_turn.m2_handshake.Half.{Answers, Writer}
use Rattle.m2_script.specs.m2_center.m2_turn.m2_handshake.Standing.{Standing}

-- an answer without where the parts of an ask lie in memory
abbrev pub bare : AskStep → AskStep
bare (asked.Asked ask) = asked.Asked (bare_ask ask)
bare answer = answer

pub record HandshakesAnswerInOneWay : Type 0 where
  pub answers : (one other : HalfStep) (old new behind : Writer) → one ≢ half.NoMemory → other ≢ half.NoMemory → Answers one old new → Answers other old behind →
      (one ≡ other) × (new ≡ behind)
  pub asks : (one other : AskStep) (old new behind : Standing) → one ≢ asked.NoMemory → other ≢ asked.NoMemory → AskAnswers one old new → AskAnswers other old behind →
      (bare one ≡ bare other) × (new ≡ behind)
