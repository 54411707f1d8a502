-- What is woven of two records of a cluster, with all halves of their nodes. This project's own.
use Rattle.std.specs.Prelude.{ℕ, List, ◌++◌, slice_get, Option, Some, None}
use Rattle.std.specs.Option.{option_map}
use Rattle.m2_cluster.specs.Node.{NodeNow}
use Rattle.m2_growth.specs.Halves.{all_left}
use Rattle.m2_history.specs.Link.{both_of}
use Rattle.m2_history.specs.Woven.{BothNow}
use Rattle.m2_history.specs.m2_record.RecordNow.{RecordNow}
use Rattle.m2_cluster.specs.m2_center.m2_turn.Halves.{AllHalves}
use Rattle.m2_links_go_on.specs.Sides.{woven_now}
use Rattle.m2_weave.specs.Rule.{Woven}

-- a record, and all halves of its node
pub record OneSide : Type 0 where
  pub side : RecordNow
  pub halves : AllHalves

-- two of them, with the halves that no record of either node took
abbrev pub both_sides : OneSide → OneSide → BothNow
both_sides a b = both_of a.side b.side (all_left a.halves ++ all_left b.halves)

-- ---- of a cluster

-- a record, by its node and its place there
pub record SideName : Type 0 where
  pub node : ℕ
  pub place : ℕ

abbrev pub side_in : {D : Type 0} → (place : ℕ) → Option (NodeNow D) → Option OneSide
side_in place (Some n) = option_map (λ (r : RecordNow). record { side = r; halves = n.center.halves }) (slice_get n.center.records place)
side_in place None = None

abbrev pub side_at : {D : Type 0} → List (NodeNow D) → SideName → Option OneSide
side_at nodes s = side_in s.place (slice_get nodes s.node)

-- what is woven of two, where both are there
abbrev pub woven_of : Option OneSide → Option OneSide → Option Woven
woven_of (Some a) (Some b) = Some (woven_now (both_sides a b))
woven_of _ _ = None
