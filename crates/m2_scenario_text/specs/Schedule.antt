-- A schedule, apart from where bytes lie in memory. This project's own.
use Rattle.std.specs.Prelude.{ℕ, List, [], ◌∷◌, ◌++◌, map, Option, None}
use Rattle.m2_message.specs.Message.{Content, content_of}
use Rattle.m2_scenario_text.specs.declared.schedule.Instruction.{Instruction}
use Rattle.m2_scenario_text.specs.declared.schedule.Instruction.TheVariants as code
use Rattle.m2_scenario_text.specs.declared.schedule.Order.{Order}
use Rattle.m2_scenario_text.specs.declared.schedule.PairFacts.{PairFacts}
use Rattle.m2_scenario_text.specs.declared.schedule.Schedule.{Schedule}
use Rattle.m2_scenario_text.specs.declared.schedule.SideName.{SideName}

pub data Deed : Type 0 where
  post : SideName → Content → Deed
  dial : SideName → Deed
  down : SideName → Deed
  connect : SideName → (now : ℕ) → Deed
  step : SideName → (now : ℕ) → Deed
  arrivals : SideName → (now : ℕ) → Deed
  turn : SideName → (now : ℕ) → Deed
  flow : SideName → (wire most : ℕ) → Deed
  fault : SideName → (wire : ℕ) → Deed
  tell : SideName → (wire : ℕ) → (bytes : List ℕ) → Deed

abbrev pub deed_of : Instruction → Deed
deed_of (code.Post side message) = post side (content_of message)
deed_of (code.Dial side) = dial side
deed_of (code.Down side) = down side
deed_of (code.Connect side now) = connect side now
deed_of (code.Step side now) = step side now
deed_of (code.Arrivals side now) = arrivals side now
deed_of (code.Turn side now) = turn side now
deed_of (code.Flow side wire most) = flow side wire most
deed_of (code.Fault side wire) = fault side wire
deed_of (code.Tell side wire bytes) = tell side wire bytes.bytes

-- what is to be done, with its line
pub record Ordered : Type 0 where
  pub line : ℕ
  pub what : Deed

pub record Draft : Type 0 where
  pub pair : Option PairFacts
  pub orders : List Ordered

abbrev pub no_lines : Draft
no_lines = record { pair = None; orders = [] }

abbrev pub ordered_of : Order → Ordered
ordered_of o = record { line = o.line; what = deed_of o.what }

abbrev pub draft_of : Schedule → Draft
draft_of s = record { pair = s.pair; orders = map ordered_of s.orders.items }

-- one instruction more
abbrev pub with_deed : (line : ℕ) → Draft → Deed → Draft
with_deed line d what = record d { orders = d.orders ++ record { line = line; what = what } ∷ [] }
