-- A script's run, from the nodes of a scenario before its first line to where its last line leads. This project's own.
use Rattle.std.specs.Prelude.{◌≡◌, List, [], length, map, Ok}
use Rattle.m2_dispatch.specs.Heard.{heard_by}
use Rattle.m2_dispatch.specs.declared.logged.Logged.{Logged}
use Rattle.m2_fabric.specs.SimFabric.{fresh_fabric}
use Rattle.m2_scenario.specs.declared.line.Line.{Line}
use Rattle.m2_scenario.specs.declared.link.Link.{Link}
use Rattle.m2_scenario.specs.declared.node.Node.{Node}
use Rattle.m2_script.specs.Nodes.{AreNewNodes, address_of}
use Rattle.m2_script.specs.Script.{Ends, RunNow, script_of}

-- new nodes, at moment 0, between which nothing flowed
pub record IsFirst (nodes : List Node) (links : List Link) (lines : List Line) (s : RunNow (List Logged)) : Type 0 where
  pub new : AreNewNodes nodes links lines s.cluster.nodes
  pub fabric : s.fabric ≡ fresh_fabric (map address_of nodes)
  pub now : s.now ≡ 0
  pub calls : s.calls ≡ []

-- the lines are done one after another, each in full
pub record IsScriptRun (E : Type 0) (nodes : List Node) (links : List Link) (lines : List Line) (first last : RunNow (List Logged)) : Type 0 where
  pub begins : IsFirst nodes links lines first
  pub ends : Ends E heard_by (Ok tt) (script_of links (length nodes) lines) first last
