-- What is promised of a link between two nodes that act in turns.
use Rattle.std.specs.Prelude.{◌≡◌, ℕ, slice_get, Some}
use Rattle.m2_links_go_on.specs.Linked.{IsNode, LinkGoesOn, NodeGoesOn, NodeNow, Nodes, NodesGoOn, link_at}
use Rattle.m2_links_go_on.specs.Sides.{woven_now}
use Rattle.m2_weave.specs.TurnLaws.{HasOrder}
use Rattle.m2_weave.specs.Later.{HadFlowed}

-- where nodes go on, their link does
abbrev pub LinksGoOn : Type 0
LinksGoOn = (old new : Nodes) → NodesGoOn old new → LinkGoesOn (link_at old) (link_at new)

-- a node that stays goes on
abbrev pub StayingGoesOn : Type 0
StayingGoesOn = (n : NodeNow) (place : ℕ) → IsNode n.holding → slice_get n.holding.records place ≡ Some n.side → NodeGoesOn n n

-- So where all that was done on the link had an order before the turn, it has one behind it, if all that was got by the end of the
-- turn had been put before it.
abbrev pub LinksAreWoven : Type 0
LinksAreWoven = (old new : Nodes) → NodesGoOn old new → HadFlowed (woven_now (link_at old)) (woven_now (link_at new)) → HasOrder (woven_now (link_at old)) → HasOrder (woven_now (link_at new))

-- There are such nodes.
pub record ALinkGoesOn : Type 0 where
  pub old : Nodes
  pub new : Nodes
  pub goes : NodesGoOn old new
