-- What is left of centers, and of a cluster, where ends are told of the other side: all but what they were told. This project's
-- own.
use Rattle.std.specs.Prelude.{◌≡◌, List, [], ◌∷◌, map, IsSome}
use Rattle.std.specs.List.{AllByRecursion}
use Rattle.m2_fabric.specs.End.{SeenEnd}
use Rattle.m2_fabric.specs.Log.{nothing_done}
use Rattle.m2_fabric.specs.Port.{SeenPort}
use Rattle.m2_history.specs.m2_record.RecordNow.{RecordNow, ends_of}
use Rattle.m2_history.specs.m2_trail.Arrivals.{LooseNow}
use Rattle.m2_cluster.specs.m2_center.m2_turn.Halves.{AllHalves}
use Rattle.m2_cluster.specs.m2_center.Center.{CenterNow}
use Rattle.m2_cluster.specs.m2_center.Reaching.{untold, untold_half, untold_loose, untold_record}
use Rattle.m2_cluster.specs.Node.{KeepsShared, NodeNow}
use Rattle.m2_growth.specs.Ends.{AreOfTheirOwn}
use Rattle.m2_growth.specs.Halves.{all_left}
use Rattle.m2_growth.specs.Holding.{AreOwn, IsToCome, waiting_at}
use Rattle.m2_links_go_on.specs.Center.{holding_of}

-- each of the one list with its own of the other, in order
abbrev pub OneByOne : {X : Type 0} → (X → X → Type 0) → (old new : List X) → Type 0
OneByOne how [] [] = Unit {0}
OneByOne how (x ∷ xs) (y ∷ ys) = how x y × OneByOne how xs ys
OneByOne how xs ys = ⊥

-- ---- records and halves

-- All of a record is the same but for what its ends were told: of an end its socket, its log and its faults are.
pub record SameRecord (old new : RecordNow) : Type 0 where
  pub place : new.place ≡ old.place
  pub facts : new.core.facts ≡ old.core.facts
  pub plan : new.plan ≡ old.plan
  pub journal : new.journal ≡ old.journal
  pub trails : new.trails ≡ old.trails
  pub ends : map untold (ends_of new) ≡ map untold (ends_of old)
  pub all : untold_record new ≡ untold_record old

-- the same of a half that no record took
pub record SameHalf (old new : LooseNow) : Type 0 where
  pub trail : new.trail ≡ old.trail
  pub end : untold new.end ≡ untold old.end

-- and of all of them, in their turns or over
pub record SameHalves (old new : AllHalves) : Type 0 where
  pub pending : map untold_half new.pending ≡ map untold_half old.pending
  pub loose : map untold_loose new.loose ≡ map untold_loose old.loose
  pub left : OneByOne SameHalf (all_left old) (all_left new)

-- ---- a center

-- Its records and halves are the same but for what their ends were told, and so is all else but the sockets that wait at its port.
pub record SameCenter {D : Type 0} (old new : CenterNow D) : Type 0 where
  pub entity : new.entity ≡ old.entity
  pub at : new.port.at ≡ old.port.at
  pub made : new.port.made ≡ old.port.made
  pub records : OneByOne SameRecord old.records new.records
  pub halves : SameHalves old.halves new.halves
  pub out : new.out ≡ old.out
  pub queued : new.queued ≡ old.queued
  pub bytes : new.bytes ≡ old.bytes
  pub numbers : new.numbers ≡ old.numbers

-- what a port keeps of the ends that wait there: each is of a socket of its own, which is to come
pub record AreToCome (port : SeenPort) : Type 0 where
  pub waiting : AreOfTheirOwn (waiting_at port)
  pub to_come : AllByRecursion (IsToCome port) (waiting_at port)

-- it does so still
abbrev pub StayToCome : (old new : SeenPort) → Type 0
StayToCome old new = AreToCome old → AreToCome new

-- and those that wait there did nothing yet
abbrev pub AreUnused : SeenPort → Type 0
AreUnused port = AllByRecursion (λ (e : SeenEnd). e.log ≡ nothing_done) (waiting_at port)

-- ---- a cluster

pub record SameNode {D : Type 0} (old new : NodeNow D) : Type 0 where
  pub center : SameCenter old.center new.center
  pub shared : KeepsShared old new

-- it is in memory, each socket has one end there, and the ends that wait did nothing yet
pub record KeepsSockets {D : Type 0} (n : NodeNow D) : Type 0 where
  pub in_memory : IsSome n.center.port.waiting
  pub own : AreOwn (holding_of n.center)
  pub unused : AreUnused n.center.port
