-- What is promised of the nodes of a run behind a deed of a script.
use Rattle.std.specs.Prelude.{List, [], ◌∷◌, ◌++◌, Ok}
use Rattle.std.specs.List.{AllByRecursion}
use Rattle.m2_dispatch.specs.Heard.{Heard}
use Rattle.m2_script.specs.m2_cluster.Node.{IsWholeNode}
use Rattle.m2_links_go_on.specs.Cluster.{AllOwn}
use Rattle.m2_script.specs.Script.{Deed, Happens, RunNow}
use Rattle.m2_promise.specs.Planned.{AllKept, PlansGoOn}

-- Behind a deed each node is kept still, and the plan of each record goes on by what the deed plans for it. Before it each socket has
-- one end at each node.
abbrev pub DeedsKeepNodes : (D E : Type 0) → Type 0
DeedsKeepNodes D E = (heard : D → List Heard) (d : Deed) (old new : RunNow D) → Happens E heard (Ok tt) d old new →
    AllOwn old.cluster.nodes → AllByRecursion IsWholeNode old.cluster.nodes → AllKept heard old → AllKept heard new × PlansGoOn (d ∷ []) old new

-- Plans go on by no deeds as they are, and by deeds one after another.
pub record PlansGoOnFurther (D : Type 0) : Type 0 where
  pub none : (s : RunNow D) → PlansGoOn [] s s
  pub both : (xs ys : List Deed) (a b c : RunNow D) → PlansGoOn xs a b → PlansGoOn ys b c → PlansGoOn (xs ++ ys) a c
