-- The forms of lines: `pair POLICY POLICY THROTTLE`, and instructions, whose second word is a side. This project's own.
use Rattle.std.specs.Prelude.{◌≡◌, ℕ, ◌==◌, if◌then◌else◌, Bool, List, length, drop, not, Some, Result, Ok, Err, codes}
use Rattle.std.specs.Option.{is_some}
use Rattle.std.specs.Str.{bytes_eq}
use Rattle.m2_message.specs.declared.message.Message.{Message}
use Rattle.m2_message.specs.Message.{Content, content_of}
use Rattle.m2_policy.specs.Policy.{allows}
use Rattle.m2_scenario.specs.Valid.{are_short}
use Rattle.m2_scenario_text.specs.Flaw.{kind_alone}
use Rattle.m2_scenario_text.specs.PlanLines.{message_of}
use Rattle.m2_scenario_text.specs.Vocabulary.{policy_of}
use Rattle.m2_scenario_text.specs.declared.lines.TheConstants.{MOST_THROTTLE}
use Rattle.m2_scenario_text.specs.declared.schedule.Instruction.{Instruction}
use Rattle.m2_scenario_text.specs.declared.schedule.PairFacts.{PairFacts}
use Rattle.m2_scenario_text.specs.declared.schedule.SideName.{SideName}
use Rattle.m2_scenario_text.specs.declared.schedule.SideName.TheVariants as name
use Rattle.m2_scenario_text.specs.declared.verb.Verb.{Verb}
use Rattle.m2_scenario_text.specs.declared.verb.Verb.TheVariants as verb
use Rattle.m2_scenario_text.specs.Schedule.{Deed, Draft, deed_of, post, dial, down, connect, step, arrivals, turn, flow, fault, tell}
use Rattle.m2_scenario.specs.declared.kind.Kind.{Kind}
use Rattle.m2_scenario.specs.declared.kind.Kind.TheVariants as kind
use Rattle.m2_scenario.specs.declared.kind.LineFault.{LineFault}
use Rattle.m2_scenario.specs.declared.kind.LineFault.TheVariants as flaw
use Rattle.m2_scenario.specs.Steps.{◌>>=◌, check, or_kind}
use Rattle.m2_scenario.specs.Text.{Word, word}
use Rattle.m2_scenario.specs.Word.{number_of, bytes_of}

-- ---- what single words say

-- The two sides are there once a line has said what they are.
unfoldable pub side_of : (paired : Bool) → Word → Result SideName Kind
side_of paired w = do
  _ ← check kind.NoNode paired
  if bytes_eq w (codes "a") then Ok name.A else if bytes_eq w (codes "b") then Ok name.B else Err kind.NoNode

abbrev pub now_of : Word → Result ℕ Kind
now_of w = number_of kind.Number 0 18446744073709551615 w

abbrev pub wire_of : Word → Result ℕ Kind
wire_of w = number_of kind.Number 1 4294967295 w

-- ---- `pair POLICY POLICY THROTTLE`, once

unfoldable pub facts_of : List Word → Result PairFacts Kind
facts_of ws = do
  throttle ← number_of kind.Number 1 MOST_THROTTLE (word ws 2)
  of_a ← or_kind kind.Policy (policy_of (word ws 0))
  of_b ← or_kind kind.Policy (policy_of (word ws 1))
  _ ← check kind.Policy (allows of_a of_b)
  Ok (record { of_a = of_a; of_b = of_b; throttle = throttle })

unfoldable pub pair_line : Draft → List Word → Result Draft Kind
pair_line d ws = do
  _ ← check kind.Words (length ws == 3)
  facts ← facts_of ws
  _ ← check kind.Taken (not (is_some d.pair))
  Ok (record d { pair = Some facts })

-- ---- instructions

-- `post SIDE KIND PRIORITY FRONT MIDDLE DATA`
unfoldable pub post_deed : Bool → List Word → Result Deed Kind
post_deed paired ws = do
  _ ← check kind.Words (length ws == 6)
  message ← kind_alone (message_of 1 (drop 1 ws))
  side ← side_of paired (word ws 0)
  _ ← check kind.Limit (are_short message)
  Ok (post side message)

-- `dial SIDE` and `down SIDE`
unfoldable pub side_alone : Bool → List Word → Result SideName Kind
side_alone paired ws = do
  _ ← check kind.Words (length ws == 1)
  side_of paired (word ws 0)

-- `connect SIDE NOW`, `step SIDE NOW`, `arrivals SIDE NOW` and `turn SIDE NOW`
unfoldable pub side_at : Bool → List Word → Result (SideName × ℕ) Kind
side_at paired ws = do
  _ ← check kind.Words (length ws == 2)
  now ← now_of (word ws 1)
  side ← side_of paired (word ws 0)
  Ok (side, now)

-- `flow SIDE WIRE MOST`
unfoldable pub flow_deed : Bool → List Word → Result Deed Kind
flow_deed paired ws = do
  _ ← check kind.Words (length ws == 3)
  wire ← wire_of (word ws 1)
  most ← now_of (word ws 2)
  side ← side_of paired (word ws 0)
  Ok (flow side wire most)

-- `fault SIDE WIRE`
unfoldable pub fault_deed : Bool → List Word → Result Deed Kind
fault_deed paired ws = do
  _ ← check kind.Words (length ws == 2)
  wire ← wire_of (word ws 1)
  side ← side_of paired (word ws 0)
  Ok (fault side wire)

-- `tell SIDE WIRE BYTES`
unfoldable pub tell_deed : Bool → List Word → Result Deed Kind
tell_deed paired ws = do
  _ ← check kind.Words (length ws == 3)
  wire ← wire_of (word ws 1)
  bytes ← bytes_of (word ws 2)
  side ← side_of paired (word ws 0)
  Ok (tell side wire bytes)

-- ---- one case a verb

abbrev pub timed : (SideName → ℕ → Deed) → Result (SideName × ℕ) Kind → Result Deed Kind
timed deed at = at >>= (λ p. Ok (deed p.0 p.1))

abbrev pub deed_by : Bool → Verb → List Word → Result Deed Kind
deed_by paired verb.Post ws = post_deed paired ws
deed_by paired verb.Dial ws = side_alone paired ws >>= (λ side. Ok (dial side))
deed_by paired verb.Down ws = side_alone paired ws >>= (λ side. Ok (down side))
deed_by paired verb.Connect ws = timed connect (side_at paired ws)
deed_by paired verb.Step ws = timed step (side_at paired ws)
deed_by paired verb.Arrivals ws = timed arrivals (side_at paired ws)
deed_by paired verb.Turn ws = timed turn (side_at paired ws)
deed_by paired verb.Flow ws = flow_deed paired ws
deed_by paired verb.Fault ws = fault_deed paired ws
deed_by paired verb.Tell ws = tell_deed paired ws
deed_by paired verb.Pair ws = Err kind.Unknown

-- a verb whose line has a moment
abbrev pub IsTimed : Verb → Type 0
IsTimed verb.Connect = Unit {0}
IsTimed verb.Step = Unit {0}
IsTimed verb.Arrivals = Unit {0}
IsTimed verb.Turn = Unit {0}
IsTimed _ = ⊥

-- ---- what the readers make in memory, beside what the definitions make. Memory may run out.

abbrev pub Takes : Result (Unit {0}) LineFault → Result Draft Kind → Draft → Type 0
Takes (Ok _) asked new = asked ≡ Ok new
Takes (Err (flaw.Bad k)) asked new = asked ≡ Err k
Takes (Err flaw.NoMemory) asked new = Unit {0}

abbrev pub DeedRead : Result Instruction LineFault → Result Deed Kind → Type 0
DeedRead (Ok i) asked = asked ≡ Ok (deed_of i)
DeedRead (Err (flaw.Bad k)) asked = asked ≡ Err k
DeedRead (Err flaw.NoMemory) asked = Unit {0}

abbrev pub MessageTaken : Result Message LineFault → Result Content Kind → Type 0
MessageTaken (Ok m) asked = asked ≡ Ok (content_of m)
MessageTaken (Err (flaw.Bad k)) asked = asked ≡ Err k
MessageTaken (Err flaw.NoMemory) asked = Unit {0}
