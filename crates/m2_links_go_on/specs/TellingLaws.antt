-- What is promised of what is woven where ends are told of the other side.
use Rattle.std.specs.Prelude.{◌≡◌}
use Rattle.m2_cluster.specs.Cluster.{ClusterNow, rest_of}
use Rattle.m2_links_go_on.specs.ClusterTold.{SameHalves, SameRecord}
use Rattle.m2_links_go_on.specs.Sides.{woven_now}
use Rattle.m2_links_go_on.specs.ToldSides.{SideName, OneSide, both_sides, side_at, woven_of}

-- ---- two sides

-- a record and the halves of its node are the same but for what their ends were told
pub record SameSide (old new : OneSide) : Type 0 where
  pub side : SameRecord old.side new.side
  pub halves : SameHalves old.halves new.halves

abbrev pub WovenStays : Type 0
WovenStays = (a b c d : OneSide) → SameSide a c → SameSide b d → woven_now (both_sides c d) ≡ woven_now (both_sides a b)

-- ---- a cluster

abbrev pub ToldStaysWoven : Type 0 → Type 0
ToldStaysWoven D = (old new : ClusterNow D) → rest_of new ≡ rest_of old → (a b : SideName) →
    woven_of (side_at new.nodes a) (side_at new.nodes b) ≡ woven_of (side_at old.nodes a) (side_at old.nodes b)
