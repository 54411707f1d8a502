-- Nodes that listen, and their ports behind that; and why they don't all listen, as what came of the run: nobody has seen a node then.
use Rattle.std.proofs.Common.{inl, ℕ, List, ◌∙◌}
use Rattle.m2_fabric.specs.Fabric.{SeenFabric}
use Rattle.m2_scenario.specs.declared.line.Line.{Line}
use Rattle.m2_scenario.specs.declared.link.Link.{Link}
use Rattle.m2_scenario.specs.declared.node.Node.{Node}
use Rattle.m2_node.specs.Way.{AreOut}
use Rattle.m2_run.specs.Listening.{AllListen, IsListeningFault}
use Rattle.m2_run.specs.Ran.{IsFaultOf, ShowsFault}
use Rattle.m2_run.specs.Rests.{Shown}
use Rattle.m2_run.specs.declared.outcome.RunFault.{RunFault}
use Rattle.m2_run.specs.declared.outcome.RunFault.TheVariants as fault

pub out_behind_listens : (nodes : List Node) (old mid new : SeenFabric) → AllListen nodes old mid → AreOut nodes mid new → AreOut nodes old new
out_behind_listens nodes old mid new listens out = record {
  out = out.out;
  off = λ k x there off. out.off k x there off ∙ listens.off k x there off;
  gathered = λ k. out.gathered k ∙ listens.gathered k;
  gathers = λ k. out.gathers k ∙ listens.gathers k;
}

pub listening_fault : (may_give : ℕ → Type 0) (nodes : List Node) (links : List Link) (lines : List Line) (old new : SeenFabric) (f : RunFault) → IsListeningFault f nodes old new →
    IsFaultOf may_give nodes links lines old new f
listening_fault may_give nodes links lines old new fault.NoMemory h = h
listening_fault may_give nodes links lines old new (fault.Bind node) h = h
listening_fault may_give nodes links lines old new (fault.Unfit u) h = absurd h

pub listening_shown : (saw : Shown → Type 0) (stays : Type 0) (may_give : ℕ → Type 0) (nodes : List Node) (links : List Link) (lines : List Line) (old new : SeenFabric) (f : RunFault) →
    IsListeningFault f nodes old new → stays → ShowsFault saw stays may_give nodes links lines old new f
listening_shown saw stays may_give nodes links lines old new fault.NoMemory h as_it_was = inl as_it_was
listening_shown saw stays may_give nodes links lines old new (fault.Bind node) h as_it_was = as_it_was
listening_shown saw stays may_give nodes links lines old new (fault.Unfit u) h as_it_was = absurd h
