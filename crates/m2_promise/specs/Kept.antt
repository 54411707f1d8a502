-- What holds of a run between any two deeds of a script. This project's own.
use Rattle.std.specs.Prelude.{◌≡◌, List, length}
use Rattle.std.specs.List.{AllByRecursion}
use Rattle.m2_dispatch.specs.Heard.{Heard}
use Rattle.m2_script.specs.m2_cluster.Node.{IsWholeNode}
use Rattle.m2_promise.specs.Acting.{run_of}
use Rattle.m2_promise.specs.Passed.{IsAtRest}
use Rattle.m2_promise.specs.Planned.{AllKept}
use Rattle.m2_promise.specs.Running as running
use Rattle.m2_scenario.specs.declared.link.Link.{Link}
use Rattle.m2_scenario.specs.declared.node.Node.{Node}
use Rattle.m2_script.specs.Made.{AreOverLinks}
use Rattle.m2_script.specs.Script.{RunNow}

-- its nodes and the sockets between them, as a run of nodes in memory
abbrev pub run_in : {D : Type 0} → RunNow D → running.RunNow
run_in s = run_of s.cluster.nodes s.fabric

-- It is at rest, each node keeps what its types say, its dispatchers were called with what its records handed on, and each planned
-- step was taken. There is a node for each of the scenario's, and its records are over its links.
pub record IsKept {D : Type 0} (heard : D → List Heard) (nodes : List Node) (links : List Link) (s : RunNow D) : Type 0 where
  pub rest : IsAtRest (run_in s)
  pub whole : AllByRecursion IsWholeNode s.cluster.nodes
  pub kept : AllKept heard s
  pub count : length s.cluster.nodes ≡ length nodes
  pub sides : AreOverLinks nodes links s.cluster.nodes
