-- What is promised of two sides whose nodes act in turns.
use Rattle.std.specs.Prelude.{Result, Ok, Err}
use Rattle.std.specs.List.{AllByRecursion}
use Rattle.m2_history.specs.declared.history.History.{History}
use Rattle.m2_history.specs.declared.history.WeaveFault.{WeaveFault}
use Rattle.m2_history.specs.declared.history.WeaveFault.TheVariants as fault
use Rattle.m2_history.specs.Link.{AreKept, WeavesRecords, parts_of}
use Rattle.m2_history.specs.Woven.{BothNow}
use Rattle.m2_history.specs.m2_record.IsRecord.{IsRecord}
use Rattle.m2_history.specs.m2_record.RecordNow.{RecordNow}
use Rattle.m2_links_go_on.specs.Records.{IsSide, RecordsGoOn}
use Rattle.m2_links_go_on.specs.Sides.{IsHalf, IsTurnOfSides, SidesGoOn, halves_of, woven_now}
use Rattle.m2_links_go_on.specs.Told.{AreTold, IsTurnOfRecords, TellsAll}
use Rattle.m2_weave.specs.TurnLaws.{HasOrder}
use Rattle.m2_weave.specs.Later.{HaveGot, HaveWritten, IsLater}

-- where sides go on, their strands do
abbrev pub SidesAreLater : Type 0
SidesAreLater = (old new : BothNow) → SidesGoOn old new → IsLater (woven_now old) (woven_now new)

-- where records go on, the sides that they keep do
abbrev pub RecordsAreSidesThatGoOn : Type 0
RecordsAreSidesThatGoOn = (old new : BothNow) → RecordsGoOn old new → SidesGoOn old new

-- where there is an order of all before a turn, there is one behind it
abbrev pub SidesInTurnsAreWoven : Type 0
SidesInTurnsAreWoven = (old new : BothNow) → IsTurnOfSides old new → HasOrder (woven_now old) → HasOrder (woven_now new)

-- where sides and halves tell of all that their ends have got and put, strands do
pub record IsMoved (x : BothNow) : Type 0 where
  pub got : HaveGot (woven_now x)
  pub written : HaveWritten (woven_now x)

abbrev pub ToldIsMoved : Type 0
ToldIsMoved = (x : BothNow) → AreTold x → IsMoved x

-- each record does
abbrev pub RecordsTellAll : Type 0
RecordsTellAll = (r : RecordNow) → IsRecord r → TellsAll (parts_of r)

-- what kept sides have taken, and whole halves beside them, are halves
abbrev pub KeptAreHalves : Type 0
KeptAreHalves = (x : BothNow) → AreKept x → IsSide x.a → IsSide x.b → AllByRecursion IsHalf (halves_of x)

-- so where two records have an order of all before a turn, they have one behind it
abbrev pub RecordsInTurnsAreWoven : Type 0
RecordsInTurnsAreWoven = (old new : BothNow) → IsTurnOfRecords old new → HasOrder (woven_now old) → HasOrder (woven_now new)

-- weaving gives an order, or wants memory
abbrev pub IsFoundOrFull : Result History WeaveFault → Type 0
IsFoundOrFull (Ok h) = Unit {0}
IsFoundOrFull (Err fault.NoMemory) = Unit {0}
IsFoundOrFull (Err (fault.Unfit u)) = ⊥

-- of sides that have an order
abbrev pub AnOrderIsFound : Type 0
AnOrderIsFound = (x : BothNow) (result : Result History WeaveFault) → HasOrder (woven_now x) → WeavesRecords result x → IsFoundOrFull result
