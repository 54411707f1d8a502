-- The deeds of two runs in memory that are alike. This project's own.
use Rattle.std.specs.Prelude.{◌≡◌, ℕ, List, map, Ok}
use Rattle.std.specs.List.{AllByRecursion}
use Rattle.m2_dispatch.specs.Heard.{Heard}
use Rattle.m2_fabric.specs.SimFabric.{looked_at}
use Rattle.m2_script.specs.Apart.{AllEndsApart}
use Rattle.m2_script.specs.Script.{Deed, Happens, RunNow}
use Rattle.m2_exact.specs.Nodes.{IsFitNode, plain_node}

-- Their nodes are alike, the same flowed between them, it is the same moment, and dispatchers had as many calls in the turns so far.
-- How many of a node's sockets were looked at is 0 where none is noted.
pub record AreAlike {D : Type 0} (heard : D → List Heard) (s t : RunNow D) : Type 0 where
  pub nodes : map (plain_node heard) s.cluster.nodes ≡ map (plain_node heard) t.cluster.nodes
  pub addresses : s.fabric.nodes ≡ t.fabric.nodes
  pub pairs : s.fabric.pairs ≡ t.fabric.pairs
  pub looked : (node : ℕ) → looked_at s.fabric node ≡ looked_at t.fabric node
  pub now : s.now ≡ t.now
  pub calls : s.calls ≡ t.calls

abbrev pub HasFitNodes : {D : Type 0} → RunNow D → Type 0
HasFitNodes s = AllByRecursion IsFitNode s.cluster.nodes

-- But for want of memory, a deed of runs that are alike leads to such runs, whose nodes stay fit. What ends are told is said by their
-- sockets, and of two ends of one socket it is known of the first alone: so no node has such behind the deed.
pub record LikeRunsDoAlike (E D : Type 0) (heard : D → List Heard) : Type 0 where
  pub deeds : (d : Deed) (old last new behind : RunNow D) → HasFitNodes old → AllEndsApart new → AreAlike heard old last → Happens E heard (Ok tt) d old new →
      Happens E heard (Ok tt) d last behind → AreAlike heard new behind
  pub stays : (d : Deed) (old new : RunNow D) → HasFitNodes old → Happens E heard (Ok tt) d old new → HasFitNodes new
