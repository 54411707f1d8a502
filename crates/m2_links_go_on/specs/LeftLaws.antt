-- What is promised of what is left of nodes.
use Rattle.std.specs.Prelude.{ℕ, List}
use Rattle.std.specs.List.{AllByRecursion}
use Rattle.m2_growth.specs.m2_bytes_fit.Texts.{CanBePosted}
use Rattle.m2_history.specs.Link.{AreOfLink, both_of, parts_of}
use Rattle.m2_history.specs.m2_record.RecordNow.{RecordNow}
use Rattle.m2_history.specs.WovenLaws.{link_of}
use Rattle.m2_history.specs.WovenLink.{IsLink, IsOrderOf, LinkNow, items_in}
use Rattle.m2_growth.specs.Holding.{Grows, Holding, all_ends}
use Rattle.m2_growth.specs.Halves.{all_left}
use Rattle.m2_links_go_on.specs.Linked.{IsNode}
use Rattle.m2_links_go_on.specs.Left.{AllCameOfPeer, AreLeftNodes, AreTowards, IsLeftNode, IsNamed, IsSeen, LeftNode, all_halves, left_node}

-- the link between two records, with the halves that no record took, of all nodes
abbrev pub link_left : List LeftNode → (a b : RecordNow) → LinkNow
link_left nodes a b = link_of a b (all_halves nodes)

-- they are a link to be woven
abbrev pub LeftAreOfLink : Type 0
LeftAreOfLink = (nodes : List LeftNode) (n m : LeftNode) (a b : RecordNow) → AreLeftNodes nodes → AreTowards nodes n m a b → AreOfLink (both_of a b (all_halves nodes))

-- what a record's plan posts keeps the bounds of frames
abbrev pub PostsFit : RecordNow → Type 0
PostsFit r = AllByRecursion CanBePosted (items_in r.plan (parts_of r))

-- Where their strands have an order, a half that no record took on a socket that one of the two opened was asked by that one, and so
-- was told what the other one has judged: they are joined.
abbrev pub WovenNodesAreJoined : Type 0
WovenNodesAreJoined = (nodes : List LeftNode) (n m : LeftNode) (a b : RecordNow) (order : List ℕ) → AreLeftNodes nodes → AreTowards nodes n m a b → PostsFit a → PostsFit b →
    IsOrderOf (link_left nodes a b) order → IsLink (link_left nodes a b)

-- ---- along the turns of a center

-- each ask that its records have judged came of the record's peer
abbrev pub HaveCome : Holding → Type 0
HaveCome h = AllByRecursion (AllCameOfPeer (all_ends h)) h.records

-- that stays so, whatever sockets there are
abbrev pub ComingStays : Type 0
ComingStays = (old new : Holding) → Grows old new → HaveCome old → HaveCome new

-- So what a center leaves, where it is the node's only one, is a left node.
abbrev pub CentersLeave : Type 0
CentersLeave = (h : Holding) → IsNode h → HaveCome h → AllByRecursion (IsNamed h.port.at) h.records → AllByRecursion IsSeen (all_left h.halves) → IsLeftNode (left_node h)
