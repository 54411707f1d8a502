-- Rounds in which nodes take turns, and where they were left. This project's own.
use Rattle.std.specs.Prelude.{◌≡◌, ◌⊎◌, ℕ, ◌≤◌, List, slice_get, slice_set, Some}
use Rattle.std.specs.List.{AllByRecursion}
use Rattle.m2_bytes.specs.Items.{Holding}
use Rattle.m2_fabric.specs.declared.port.Cut.{Cut}
use Rattle.m2_scenario.specs.declared.line.Line.{Line}
use Rattle.m2_scenario.specs.declared.link.Link.{Link}
use Rattle.m2_scenario.specs.declared.node.Node.{Node}
use Rattle.m2_run.specs.Cuts.{cuts_at}
use Rattle.m2_run.specs.Kept.{left_of}
use Rattle.m2_node.specs.Nodes.{RunNodeNow}
use Rattle.m2_run.specs.Opened.{AreOpenedNodes, OpenedNow}
use Rattle.m2_run.specs.Ran.{HasStalled}
use Rattle.m2_run.specs.Types.{IsCenterOfTypes}
use Rattle.m2_node.specs.Way.{AllGoOn, AreNodesOf}
use Rattle.m2_run.specs.declared.settling.Settled.{Settled}

-- the node at a place does so; all others are as they were
pub record OneNodeDoes (k : ℕ) (how : RunNodeNow → RunNodeNow → Type 0) (old new : List RunNodeNow) : Type 0 where
  pub before : RunNodeNow
  pub behind : RunNodeNow
  pub was : slice_get old k ≡ Some before
  pub does : how before behind
  pub only : new ≡ slice_set old k behind

-- all have gone on to a later moment, or the same one, which the clock may give
pub record HaveGoneOn (may_give : ℕ → Type 0) (from to : ℕ) (nodes : List Node) (old new : List RunNodeNow) : Type 0 where
  pub later : from ≤ to
  pub given : may_give to
  pub all : AllGoOn may_give from to nodes old new

-- these nodes were left so at this moment: nothing is left, or they have stalled
pub record IsSettled (limit : ℕ) (nodes : List Node) (links : List Link) (kept : List RunNodeNow) (start now : ℕ) (s : Settled) : Type 0 where
  pub left : s.left ≡ left_of links kept
  pub over : (s.left ≡ 0) ⊎ HasStalled limit nodes kept start s.stop
  pub stop : s.stop ≡ now

-- From a start on these nodes have gone on to others at a moment, at which so many posts are left, or all has stalled.
pub record HasPlayed (may_give : ℕ → Type 0) (limit : ℕ) (nodes : List Node) (links : List Link) (start stop : ℕ) (begun ran : List RunNodeNow) (left : ℕ) : Type 0 where
  pub left_is : left ≡ left_of links ran
  pub over : (left ≡ 0) ⊎ HasStalled limit nodes ran start stop
  pub later : start ≤ stop
  pub given : may_give stop
  pub goes_on : AllGoOn may_give start stop nodes begun ran

-- They are nodes of the scenario then, and this is left of them, whose sockets break where these cuts say.
pub record HasStopped (may_give : ℕ → Type 0) (limit : ℕ) (nodes : List Node) (links : List Link) (lines : List Line) (cuts : List (Holding Cut)) (start stop : ℕ) (ran : List RunNodeNow) (left : ℕ)
    (all : List OpenedNow) : Type 0 where
  pub start_given : may_give start
  pub stop_given : may_give stop
  pub later : start ≤ stop
  pub are_nodes : AreNodesOf may_give stop nodes links lines ran
  pub types : AllByRecursion (λ (n : RunNodeNow). AllByRecursion IsCenterOfTypes n.centers) ran
  pub left_is : left ≡ left_of links ran
  pub over : (left ≡ 0) ⊎ HasStalled limit nodes ran start stop
  pub opened : AreOpenedNodes (cuts_at cuts) ran all
