-- What is left of nodes whose threads have ended, before their halves are joined; and the rights to the threads' inboxes. This
-- project's own.
use Rattle.std.specs.Prelude.{◌≡◌, ℕ, ◌+◌, List, [], ◌∷◌, ◌++◌, length, map, reverse, slice_get, sum_by, Option, Some}
use Rattle.std.specs.List.{AllByRecursion, flat_map}
use Rattle.std.specs.Option.{option_to_list}
use Rattle.m2_node.specs.m2_script.m2_center.Center.{CenterNow}
use Rattle.m2_dispatch.specs.declared.logged.Logged.{Logged}
use Rattle.m2_fabric.specs.Port.{SeenPort}
use Rattle.m2_fabric.specs.declared.port.Cut.{Cut}
use Rattle.m2_fabric.specs.declared.socket.SocketId.{SocketId}
use Rattle.m2_handover.specs.Door.{weight_of, weight_on_way}
use Rattle.m2_handover.specs.End.{told_nothing}
use Rattle.m2_handover.specs.Handed.{OnItsWay}
use Rattle.m2_handover.specs.m2_mailbox.Passes.{IsGetPassOf, IsPutPassOf, parts_of, puts_of, taken_of}
use Rattle.m2_handover.specs.m2_mailbox.Views.{all_parts}
use Rattle.m2_handover.specs.m2_mailbox.declared.inbox.Inbox.{Inbox}
use Rattle.m2_handover.specs.m2_mailbox.declared.passes.GetPass.{GetPass}
use Rattle.m2_handover.specs.m2_mailbox.declared.passes.PutPass.{PutPass}
use Rattle.m2_trail.specs.Arrivals.{LooseNow}
use Rattle.m2_trail.specs.declared.home.HomeOf.{HomeOf}
use Rattle.m2_run.specs.Kept.{AreOpened}
use Rattle.m2_node.specs.Lists.{SideBySide}
use Rattle.m2_node.specs.Nodes.{KeptNow, RunNodeNow}
use Rattle.m2_run.specs.Once.{HasEachOnce}
use Rattle.m2_run.specs.Rests.{EndedCenterNow, EndedNow, IsEndOfCenter}
use Rattle.m2_run.specs.Still.{AllBelow}
use Rattle.m2_scenario.specs.declared.node.Node.{Node}

-- ---- what is left

-- the halves of a node that no record took: of its centers, at its door, and on their way
pub record LeftNow : Type 0 where
  pub opened : List LooseNow
  pub at_door : List LooseNow
  pub on_way : List LooseNow

pub record OpenedNow : Type 0 where
  pub centers : List EndedCenterNow
  pub left : LeftNow
  pub puts : List (PutPass OnItsWay HomeOf)
  pub gets : List (GetPass OnItsWay HomeOf)

-- the sockets that the ports of these threads made, and of all nodes
abbrev pub made_in : List EndedCenterNow → List SocketId
made_in centers = flat_map (λ (c : EndedCenterNow). c.made) centers

abbrev pub made_of_all : List OpenedNow → List SocketId
made_of_all all = flat_map (λ (n : OpenedNow). made_in n.centers) all

-- ---- sockets, however they are weighed

-- of the ports of the fabric that are inside
abbrev pub weight_inside : (SocketId → ℕ) → List EndedCenterNow → ℕ
weight_inside weight centers = sum_by (λ (c : EndedCenterNow). sum_by (λ (p : SeenPort). sum_by weight p.made) (option_to_list c.port)) centers

-- of those that were taken out of inboxes, and of those that were put there
abbrev pub weight_taken : (SocketId → ℕ) → List (GetPass OnItsWay HomeOf) → ℕ
weight_taken weight gets = sum_by (λ (g : GetPass OnItsWay HomeOf). sum_by (weight_on_way weight) (taken_of g)) gets

abbrev pub weight_put_by : (SocketId → ℕ) → List (PutPass OnItsWay HomeOf) → ℕ
weight_put_by weight puts = sum_by (λ (p : PutPass OnItsWay HomeOf). sum_by (sum_by (weight_on_way weight)) (puts_of p)) puts

-- Each socket that the fabric's ports made, or that was taken out of an inbox, is one that a thread's port made, in a half at the door or on
-- its way, or was put into an inbox.
abbrev pub WeighsUp : OpenedNow → Type 0
WeighsUp n = (weight : SocketId → ℕ) → weight_inside weight n.centers + weight_taken weight n.gets
    ≡ sum_by weight (made_in n.centers) + sum_by (weight_of weight) (n.left.at_door ++ n.left.on_way) + weight_put_by weight n.puts

-- the same where all inboxes are closed
abbrev pub AllAreThere : OpenedNow → Type 0
AllAreThere n = (weight : SocketId → ℕ) → weight_inside weight n.centers ≡ sum_by weight (made_in n.centers) + sum_by (weight_of weight) (n.left.at_door ++ n.left.on_way)

-- ---- a node that was taken apart

-- This is left of a node, whose sockets break where these cuts say: of each thread its end, and the halves of all of them, opened.
pub record IsOpenedNode (cuts : List Cut) (n : RunNodeNow) (o : OpenedNow) : Type 0 where
  pub ends : SideBySide IsEndOfCenter n.centers o.centers
  pub opened : AreOpened cuts n.centers o.left.opened

-- the rights of a node are those to the inboxes from a number on, all of them
pub record AreRightsTo (inbox : ℕ → Option (Inbox OnItsWay HomeOf)) (first : ℕ) (o : OpenedNow) : Type 0 where
  pub gets : (j : ℕ) (g : GetPass OnItsWay HomeOf) (b : Inbox OnItsWay HomeOf) → slice_get o.gets j ≡ Some g → inbox (first + j) ≡ Some b → IsGetPassOf b g
  pub puts : (j : ℕ) (p : PutPass OnItsWay HomeOf) (b : Inbox OnItsWay HomeOf) → slice_get o.puts j ≡ Some p → inbox (first + j) ≡ Some b → IsPutPassOf b p
  pub whole : AllByRecursion (λ (p : PutPass OnItsWay HomeOf). parts_of p ≡ all_parts) o.puts

-- of each node, in order
pub record AreOpenedNodes (cuts : ℕ → List Cut) (nodes : List RunNodeNow) (all : List OpenedNow) : Type 0 where
  pub count : length all ≡ length nodes
  pub each : (k : ℕ) (n : RunNodeNow) (o : OpenedNow) → slice_get nodes k ≡ Some n → slice_get all k ≡ Some o → IsOpenedNode (cuts k) n o

-- ---- one thread after another

-- what changes where a thread is taken apart: the halves of its node, and the rights to its node's inboxes
pub record PartsNow : Type 0 where
  pub left : LeftNow
  pub puts : List (PutPass OnItsWay HomeOf)
  pub gets : List (GetPass OnItsWay HomeOf)

abbrev pub parts_in : OpenedNow → PartsNow
parts_in o = record { left = o.left; puts = o.puts; gets = o.gets }

-- of what stands at the door, is on its way, and was put
abbrev pub weight_beside : (SocketId → ℕ) → PartsNow → ℕ
weight_beside weight p = sum_by (weight_of weight) p.left.at_door + sum_by (weight_of weight) p.left.on_way + weight_put_by weight p.puts

-- A port is taken apart, inside of which these ports of the fabric are, and which made these sockets: what it had is beside the rest, and
-- the rights that it had are those to the next inboxes.
pub record IsTakenApart (inbox : ℕ → Option (Inbox OnItsWay HomeOf)) (first : ℕ) (inside : Option SeenPort) (made : List SocketId) (old new : PartsNow) : Type 0 where
  pub opened : new.left.opened ≡ old.left.opened
  pub weighs : (weight : SocketId → ℕ) → sum_by (λ (p : SeenPort). sum_by weight p.made) (option_to_list inside) + weight_taken weight new.gets + weight_beside weight old
      ≡ weight_taken weight old.gets + sum_by weight made + weight_beside weight new
  pub rights : (cs : List EndedCenterNow) → AreRightsTo inbox first (record { centers = cs; left = old.left; puts = old.puts; gets = old.gets })
      → AreRightsTo inbox first (record { centers = cs; left = new.left; puts = new.puts; gets = new.gets })

-- so is that of a center, which is ended, and whose halves are opened behind the others
pub record EndsCenter (cuts : List Cut) (inbox : ℕ → Option (Inbox OnItsWay HomeOf)) (first : ℕ) (c : CenterNow (List Logged)) (d : EndedCenterNow) (old new : PartsNow) : Type 0 where
  pub end : IsEndOfCenter c d
  pub opened : List LooseNow
  pub are_opened : AreOpened cuts (c ∷ []) opened
  pub behind : new.left.opened ≡ old.left.opened ++ opened
  pub apart : IsTakenApart inbox first d.port d.made old (record new { left = record new.left { opened = old.left.opened } })

-- and so are these of a node
pub record EndsCenters (cuts : List Cut) (inbox : ℕ → Option (Inbox OnItsWay HomeOf)) (first : ℕ) (centers : List (CenterNow (List Logged))) (old new : OpenedNow) : Type 0 where
  pub behind : List EndedCenterNow
  pub opened : List LooseNow
  pub ends : SideBySide IsEndOfCenter centers behind
  pub are_opened : AreOpened cuts centers opened
  pub centers_are : new.centers ≡ old.centers ++ behind
  pub opened_are : new.left.opened ≡ old.left.opened ++ opened
  pub weighs : WeighsUp old → WeighsUp new
  pub rights : AreRightsTo inbox first old → AreRightsTo inbox first new

-- A node is ended whose first thread has this number, and what is left of it goes last; behind it is the number of the next thread.
pub record EndsNext (cuts : List Cut) (inbox : ℕ → Option (Inbox OnItsWay HomeOf)) (number : ℕ) (n : RunNodeNow) (old : List OpenedNow) (behind : ℕ) (new : List OpenedNow) : Type 0 where
  pub ended : OpenedNow
  pub last : new ≡ old ++ ended ∷ []
  pub next : behind ≡ number + length ended.gets
  pub is : IsOpenedNode cuts n ended
  pub weighs : WeighsUp ended
  pub rights : AreRightsTo inbox number ended

-- ---- its inboxes

-- from a number on there are the inboxes of these nodes, node by node, to which they have the rights; and what they have left weighs up
abbrev pub HasRoomsFor : (inbox : ℕ → Option (Inbox OnItsWay HomeOf)) → (first : ℕ) → List OpenedNow → Type 0
HasRoomsFor inbox first [] = Unit {0}
HasRoomsFor inbox first (o ∷ all) = AreRightsTo inbox first o × WeighsUp o × HasRoomsFor inbox (first + length o.gets) all

-- all of a node's inboxes are closed, and what was left there is on its way
pub record IsClosed (old new : OpenedNow) : Type 0 where
  pub centers : new.centers ≡ old.centers
  pub opened : new.left.opened ≡ old.left.opened
  pub at_door : new.left.at_door ≡ old.left.at_door
  pub there : AllAreThere new

abbrev pub AllClosed : (old new : List OpenedNow) → Type 0
AllClosed old new = SideBySide IsClosed old new

-- each socket of the node at this place is one of its own
abbrev pub IsEachOnceAt : List Node → List OpenedNow → (place : ℕ) → Type 0
IsEachOnceAt nodes all place = (x : Node) (o : OpenedNow) → slice_get nodes place ≡ Some x → slice_get all place ≡ Some o →
    HasEachOnce x.at (made_in o.centers) (o.left.at_door ++ o.left.on_way)

-- each of all
abbrev pub HaveEachOnce : List Node → List OpenedNow → Type 0
HaveEachOnce nodes all = AllBelow (IsEachOnceAt nodes all) (length all)

-- what is kept of a node of which this is left: the halves tell nothing of what will be readable
abbrev pub untold : LooseNow → LooseNow
untold l = record l { end = told_nothing l.end }

abbrev pub kept_as : RunNodeNow → OpenedNow → KeptNow
kept_as n o = record { node = n; opened = map untold o.left.opened; at_door = map untold o.left.at_door; on_way = map untold o.left.on_way }

-- of all nodes, in order
abbrev pub all_kept : List RunNodeNow → List OpenedNow → List KeptNow
all_kept [] all = []
all_kept (n ∷ nodes) [] = []
all_kept (n ∷ nodes) (o ∷ all) = kept_as n o ∷ all_kept nodes all

-- ---- joined

-- what is left of a node but for its halves
abbrev pub ended_of : OpenedNow → EndedNow
ended_of o = record { centers = o.centers; halves = length (o.left.opened ++ o.left.at_door ++ o.left.on_way) }

-- the halves of all nodes, those of the last one first
abbrev pub loose_in : List OpenedNow → List LooseNow
loose_in all = flat_map (λ (o : OpenedNow). map untold (o.left.opened ++ o.left.at_door ++ o.left.on_way)) (reverse all)
