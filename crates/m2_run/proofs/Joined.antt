-- A link of a kept run that has a history is a link as weaving asks for one: what is left of its nodes are left nodes, its records are
-- towards each other, and what their plans post keeps the bounds of frames.
use Rattle.std.proofs.Common.{◌≡◌, ◌⊎◌, ℕ, ◌+◌, true, false, List, map, Some, Ok, sym, ap, subst, ◌∙◌, arith}
use Rattle.std.specs.Prelude.{length, slice_get}
use Rattle.std.specs.List.{AllByRecursion}
use Rattle.std.proofs.lemmas.Option.{get_or_from_slice_get, same_Some, slice_get_within}
use Rattle.m2_bytes.proofs.m2_lemmas.Lists.{all_at, all_so_of}
use Rattle.m2_node.proofs.m2_links_go_on.CourseEnding.{centers_run_their_course}
use Rattle.m2_node.proofs.m2_links_go_on.m2_history.WovenSides.{steps_named}
use Rattle.m2_node.specs.m2_links_go_on.CourseEnded.{HasRunItsCourse, ends_left}
use Rattle.m2_node.specs.m2_links_go_on.Made.{NodeMade}
use Rattle.m2_dispatch.specs.declared.logged.Logged.{Logged}
use Rattle.m2_fabric.specs.Fabric.{SeenFabric}
use Rattle.m2_fabric.specs.declared.socket.SocketId.{SocketId}
use Rattle.m2_node.proofs.m2_links_go_on.m2_growth.Among.{of_each}
use Rattle.m2_node.proofs.m2_links_go_on.m2_growth.Records.{askers_are}
use Rattle.m2_node.specs.m2_links_go_on.m2_growth.Halves.{IsOneOf}
use Rattle.m2_node.proofs.m2_links_go_on.m2_history.Whole.{records_are_sides}
use Rattle.m2_node.specs.m2_links_go_on.m2_history.Counted.{logs_of}
use Rattle.m2_node.specs.m2_links_go_on.m2_history.Link.{WeavesRecords, both_of}
use Rattle.m2_node.specs.m2_links_go_on.m2_history.Lossy.{IsWovenInOrder}
use Rattle.m2_node.specs.m2_links_go_on.m2_history.Woven.{strands_of}
use Rattle.m2_node.specs.m2_links_go_on.m2_history.WovenLaws.{link_of, strands_in}
use Rattle.m2_node.specs.m2_links_go_on.m2_history.WovenLink.{IsLink, IsOrderOf}
use Rattle.m2_node.specs.m2_links_go_on.m2_history.declared.history.History.{History}
use Rattle.m2_node.specs.m2_links_go_on.m2_history.declared.history.HistoryStep.{HistoryStep}
use Rattle.m2_node.specs.m2_links_go_on.m2_history.m2_channel.m2_never_reset.Orders.{AreNodes}
use Rattle.m2_node.specs.m2_links_go_on.m2_history.m2_channel.Lossy.{AreLossy}
use Rattle.m2_node.proofs.m2_links_go_on.LeftNodes.{are_joined}
use Rattle.m2_node.specs.m2_links_go_on.Left.{AreLeftNodes, IsLeftNode}
use Rattle.m2_node.specs.m2_script.m2_record.IsRecord.{IsRecord}
use Rattle.m2_node.specs.m2_script.m2_record.RecordNow.{RecordNow, ids_of}
use Rattle.m2_scenario.specs.Draft.{draft_line}
use Rattle.m2_scenario.specs.Valid as valid
use Rattle.m2_scenario.specs.declared.line.Line.{Line}
use Rattle.m2_scenario.specs.declared.link.Link.{Link}
use Rattle.m2_scenario.specs.declared.node.Node.{Node}
use Rattle.m2_node.proofs.m2_script.Lists.{item_at}
use Rattle.m2_node.specs.m2_script.Nodes.{cuts_of}
use Rattle.m2_node.specs.m2_script.m2_center.Center.{CenterNow}
use Rattle.m2_node.specs.m2_script.m2_center.Finishing.{rest_of}
use Rattle.m2_node.specs.m2_script.m2_center.Home.{home_of}
use Rattle.m2_trail.specs.Arrivals.{LooseNow}
use Rattle.m2_weave.proofs.Written.{all_read}
use Rattle.m2_weave.specs.Stops.{IsWoven}
use Rattle.m2_weave.specs.Table.{bytes_of}
use Rattle.m2_run.proofs.JoinedCenters.{IsLeftCenter}
use Rattle.m2_run.proofs.JoinedHalves.{leaves, left_at}
use Rattle.m2_run.proofs.JoinedNodes.{AreAtHome, are_apart, each_left, halves_are, is_towards, left_of_all, one_left, peers_apart, side_at}
use Rattle.m2_run.proofs.JoinedPolicies.{IsOverLink, all_over_link, are_lossy, are_nodes, far_policy, near_policy}
use Rattle.m2_run.proofs.JoinedPosts.{posts_fit}
use Rattle.m2_run.proofs.JoinedSides.{IsOfNode, IsOfThread, all_of_node, all_of_thread, are_named}
use Rattle.m2_run.proofs.SideLists.{at_one}
use Rattle.m2_run.proofs.Times.{one_if, times, times_sum}
use Rattle.m2_run.proofs.Weighing.{weigh_the_same}
use Rattle.m2_run.specs.Joined.{AreWoven, IsJoinedBy, IsPromisedIn, IsRunOf, KeptLinksAreJoined, LossyLinksComeInOrder, PostsOfTypes, RunsAreJoined, RunsAreNeverReset}
use Rattle.m2_run.specs.Kept.{IsKeptNode}
use Rattle.m2_node.specs.Nodes.{KeptNow, records_in}
use Rattle.m2_run.specs.Ran.{HasRan}
use Rattle.m2_run.specs.Rests.{EndedCenterNow, EndedNow, IsEndOf, loose_of}
use Rattle.m2_run.specs.Types.{IsCenterOfTypes}
use Rattle.m2_node.specs.Way.{IsUnderWay, made_in}
use Rattle.m2_run.specs.Weaving.{HasHistory, side_of, side_towards, towards}
use Rattle.m2_run.specs.declared.outcome.Outcome.{Outcome}

-- ---- the order of a history

order_is : (a b : RecordNow) (loose : List LooseNow) (h : History) → WeavesRecords (Ok h) (both_of a b loose) → IsOrderOf (link_of a b loose) (strands_in h)
order_is a b loose h w = record {
  sockets = w.0;
  rows = w.1;
  woven = subst (IsWoven (record { strands = strands_of (both_of a b loose); bytes = bytes_of w.0 }))
      (sym (ap (map (λ (s : HistoryStep). s.strand)) w.2.steps ∙ steps_named _ w.2.order)) w.2.woven;
}

-- ---- a center

-- a center that has run its course has an end for each socket, and as many as it made
held_is : (may_give : ℕ → Type 0) (moment : ℕ) (made : NodeMade) (c : CenterNow (List Logged)) → HasRunItsCourse may_give moment made (rest_of c) → (k : SocketId) →
    times k c.port.made ≡ times k (ids_of (ends_left (rest_of c)))
held_is may_give moment made c ran k =
    let r = rest_of c in
    sym (times_sum k c.port.made) ∙ weigh_the_same c.port.made (ids_of (ends_left r)) ran.once ran.own ran.sockets (one_if k) ∙ times_sum k (ids_of (ends_left r))

-- ---- a run

module _ (may_give : ℕ → Type 0) (nodes : List Node) (links : List Link) (lines : List Line) (kept : List KeptNow) (ends : List EndedNow) (given : IsRunOf may_give nodes links lines kept ends) where
  -- the node at a place, as the scenario has it and as it is kept
  record IsAt (k : ℕ) (n : KeptNow) : Type 0 where
    node : Node
    there : slice_get nodes k ≡ Some node
    is : IsKeptNode may_give given.stop nodes links lines given.old given.new k node n

  node_at : (k : ℕ) (n : KeptNow) → slice_get kept k ≡ Some n → IsAt k n
  node_at k n e =
      let x = item_at nodes k (omega (arith, slice_get_within kept k n e, given.run.count)) in
      record { node = x.0; there = x.1; is = given.run.each k x.0 n x.1 e }

  -- ---- a center of it

  module _ (k : ℕ) (n : KeptNow) (at : IsAt k n) (j : ℕ) (c : CenterNow (List Logged)) (there : slice_get n.node.centers j ≡ Some c) where
    way : IsUnderWay may_give given.stop (made_in nodes links lines k j at.is.node.word at.node) c
    way = (at.is.node.each j c there).way

    types : IsCenterOfTypes c
    types = all_at IsCenterOfTypes n.node.centers j c there at.is.types.centers

    of_thread : AllByRecursion (IsOfThread nodes lines k at.node.centers j) c.records
    of_thread = all_of_thread nodes links lines k at.is.node.word j at.node c way.course.made

    of_node : AllByRecursion (IsOfNode nodes lines k) c.records
    of_node = all_of_node nodes links lines k at.is.node.word j at.node c way.course.made

    over_link : AllByRecursion (IsOverLink links k) c.records
    over_link = all_over_link nodes links lines k j at.is.node.word at.node c way.course.made

    at_home : AreAtHome at.node.centers j c.records
    at_home = all_so_of (IsOfThread nodes lines k at.node.centers j) (λ (r : RecordNow). home_of r.core.facts.peer at.node.centers ≡ j) c.records (λ r is. is.home) of_thread

    left_center : IsLeftCenter at.node.at c
    left_center = record {
      listens = ap (λ (m : NodeMade). m.at) way.course.made;
      own = way.course.own;
      held = held_is may_give given.stop (made_in nodes links lines k j at.is.node.word at.node) c
          (centers_run_their_course (List Logged) (Unit {0}) (λ u. may_give) tt given.stop (made_in nodes links lines k j at.is.node.word at.node) c way.course);
      halves = way.course.halves;
      sessions = types.center.consistent;
      records = types.records;
      came = way.came;
      named = are_named nodes links (map draft_line lines) given.sound lines k at.node at.there c of_node types.ranged;
    }

  of_node_at : (k : ℕ) (n : KeptNow) (at : IsAt k n) → IsLeftNode (left_at at.node.at n)
  of_node_at k n at =
      leaves at.node.at (cuts_of nodes lines k) n (λ j c there. left_center k n at j c there)
      (peers_apart at.node.centers 0 n.node.centers
      (λ j c there. subst (λ i. AreAtHome at.node.centers i c.records) (let same : j ≡ 0 + j = omega arith in same) (at_home k n at j c there))
      (λ j c there. (left_center k n at j c there).halves.peers))
      at.is.types.whole at.is.types.seen at.is.opened at.is.once

  is_left : (k : ℕ) (x : Node) (n : KeptNow) → slice_get nodes k ≡ Some x → slice_get kept k ≡ Some n → IsLeftNode (left_at x.at n)
  is_left k x n e f = of_node_at k n (record { node = x; there = e; is = given.run.each k x n e f })

  are_left : AreLeftNodes (left_of_all nodes kept)
  are_left = record {
    each = each_left IsLeftNode nodes kept is_left;
    apart = are_apart nodes kept given.sound.apart given.run.count;
  }

  -- ---- a record of it

  -- what is left of a node is that of the one that is kept at its place
  record IsEnded (k : ℕ) (e : EndedNow) : Type 0 where
    node : KeptNow
    there : slice_get kept k ≡ Some node
    is : IsEndOf node e

  ended_at : (k : ℕ) (e : EndedNow) → slice_get ends k ≡ Some e → IsEnded k e
  ended_at k e there =
      let n = item_at kept k (omega (arith, slice_get_within ends k e there, given.left.count)) in
      record { node = n.0; there = n.1; is = given.left.each k n.0 e n.1 there }

  -- the record of the node at place k that is towards that at place j
  record IsSide (k j : ℕ) (n : KeptNow) (r : RecordNow) : Type 0 where
    one : IsOneOf r (records_in n.node)
    of_types : IsRecord r
    of_it : IsOfNode nodes lines k r
    over : IsOverLink links k r
    place : r.place ≡ j

  side_of_it : (k j : ℕ) (e : EndedNow) (d : EndedCenterNow) (r : RecordNow) (n : IsEnded k e) → side_towards j e.centers ≡ Some (side_of d r) → IsSide k j n.node r
  side_of_it k j e d r n t =
      let at = node_at k n.node n.there in
      let s = side_at j e.centers d r t in
      let c = item_at n.node.node.centers s.place (omega (arith, slice_get_within e.centers s.place d s.there, n.is.count)) in
      let end = n.is.each s.place c.0 d c.1 s.there in
      let its = is_towards j r c.0.records (ap (towards j) (sym end.records) ∙ s.side) in
      record {
        one = at_one (λ (c : CenterNow (List Logged)). c.records) r n.node.node.centers s.place c.0 c.1 its.one;
        of_types = of_each IsRecord r c.0.records (types k n.node at s.place c.0 c.1).records its.one;
        of_it = of_each (IsOfNode nodes lines k) r c.0.records (of_node k n.node at s.place c.0 c.1) its.one;
        over = of_each (IsOverLink links k) r c.0.records (over_link k n.node at s.place c.0 c.1) its.one;
        place = its.place;
      }

  -- its peer listens at the other's place
  peer_is : (k j : ℕ) (n : KeptNow) (y : Node) (r : RecordNow) → IsSide k j n r → slice_get nodes j ≡ Some y → r.core.facts.peer ≡ y.at
  peer_is k j n y r side e =
      side.of_it.towards ∙ ap (λ (z : Node). z.at) (same_Some side.of_it.peer y (sym side.of_it.peer_there ∙ ap (slice_get nodes) side.place ∙ e))

  -- ---- a link

  module _ (a b : RecordNow) (w : AreWoven kept ends links a b) where
    n : IsEnded w.link.a w.is_of.here
    n = ended_at w.link.a w.is_of.here w.is_of.near_there

    m : IsEnded w.link.b w.is_of.there
    m = ended_at w.link.b w.is_of.there w.is_of.far_there

    near : IsSide w.link.a w.link.b n.node a
    near = side_of_it w.link.a w.link.b w.is_of.here w.near a n w.is_of.mine

    far : IsSide w.link.b w.link.a m.node b
    far = side_of_it w.link.b w.link.a w.is_of.there w.far b m w.is_of.theirs

    here : IsAt w.link.a n.node
    here = node_at w.link.a n.node n.there

    there : IsAt w.link.b m.node
    there = node_at w.link.b m.node m.there

    joined : IsLink (link_of a b (loose_of kept))
    joined =
        subst (λ ls. IsLink (link_of a b ls)) (halves_are nodes kept given.run.count)
        (are_joined all_read askers_are records_are_sides (left_of_all nodes kept) (left_at here.node.at n.node) (left_at there.node.at m.node) a b (strands_in w.history) are_left
        (record {
          near = one_left nodes kept w.link.a here.node n.node here.there n.there;
          far = one_left nodes kept w.link.b there.node m.node there.there m.there;
          mine = near.one;
          theirs = far.one;
          a_peer = peer_is w.link.a w.link.b n.node there.node a near there.there;
          b_peer = peer_is w.link.b w.link.a m.node here.node b far here.there;
        })
        (posts_fit lines given.posts w.link.a a near.of_types near.of_it.plan)
        (posts_fit lines given.posts w.link.b b far.of_types far.of_it.plan)
        (subst (λ ls. IsOrderOf (link_of a b ls) (strands_in w.history)) (sym (halves_are nodes kept given.run.count)) (order_is a b (loose_of kept) w.history w.weaves)))

    -- its policies are the link's

    is_valid : valid.IsLink (length nodes) w.link
    is_valid = subst (valid.IsLink (length nodes)) (get_or_from_slice_get links w.place w.link w.link w.there) (given.sound.joined w.place w.link (slice_get_within links w.place w.link w.there))

    of_a : a.core.facts.policy ≡ w.link.of_a
    of_a = near_policy links given.sound.joined_once w.place w.link w.there is_valid.different a near.over near.place

    of_b : b.core.facts.policy ≡ w.link.of_b
    of_b = far_policy links given.sound.joined_once w.place w.link w.there is_valid.different b far.over far.place

    nodes_are : w.link.of_a.lossy ≡ false → w.link.of_b.lossy ≡ false → AreNodes a.core.facts b.core.facts
    nodes_are p q = are_nodes w.link a b is_valid.allowed is_valid.different p q of_a of_b near.of_it.number far.of_it.number near.over.salt far.over.salt

    lossy_are : (w.link.of_a.lossy ≡ true) ⊎ (w.link.of_b.lossy ≡ true) → AreLossy a.core.facts b.core.facts
    lossy_are lossy = are_lossy w.link a b is_valid.allowed of_a of_b lossy

pub kept_joined : (C : Type 0) (may_give : C → ℕ → Type 0) → KeptLinksAreJoined C may_give
kept_joined C may_give clock nodes links lines kept ends a b given w = joined (may_give clock) nodes links lines kept ends given a b w

-- ---- a run that is told

module _ (C : Type 0) (may_give : C → ℕ → Type 0) (clock : C) (limit : ℕ) (nodes : List Node) (links : List Link) (lines : List Line) (old new : SeenFabric) (o : Outcome)
    (sound : valid.IsSound nodes links (map draft_line lines)) (posts : AllByRecursion PostsOfTypes lines) (ran : HasRan (may_give clock) limit nodes links lines old new o)
    (place : ℕ) (l : Link) (there : slice_get links place ≡ Some l) where
  abbrev h : HasHistory ran.ends (loose_of ran.kept) l
  h = ran.woven place l there

  it : IsRunOf (may_give clock) nodes links lines ran.kept ran.ends
  it = record { sound = sound; posts = posts; start = ran.start; stop = ran.stop; old = old; new = new; run = ran.run; left = ran.are_ends }

  abbrev woven : AreWoven ran.kept ran.ends links h.a h.b
  woven = record { place = place; link = l; there = there; near = h.near; far = h.far; is_of = h.is_of; history = h.history; weaves = h.weaves }

  link_is : IsLink (link_of h.a h.b (loose_of ran.kept))
  link_is = joined (may_give clock) nodes links lines ran.kept ran.ends it h.a h.b woven

  promised : l.of_a.lossy ≡ false → l.of_b.lossy ≡ false → IsPromisedIn (link_of h.a h.b (loose_of ran.kept)) h.near h.far h.history
  promised p q =
      let are = nodes_are (may_give clock) nodes links lines ran.kept ran.ends it h.a h.b woven p q in
      record {
        to_a_mark = h.to_a_mark (record { nodes = are; joined = link_is.joined });
        never_reset = λ up. h.never_reset (record { nodes = are; joined = link_is.joined; up = up });
        delivered = λ up. h.delivered (record { nodes = are; joined = link_is.joined; up = up });
      }

  in_order : (l.of_a.lossy ≡ true) ⊎ (l.of_b.lossy ≡ true) →
      IsWovenInOrder (link_of h.a h.b (loose_of ran.kept)) (strands_in h.history) (logs_of h.near.fast h.near.queued) (logs_of h.far.fast h.far.queued)
  in_order lossy = h.lossy (record { nodes = lossy_are (may_give clock) nodes links lines ran.kept ran.ends it h.a h.b woven lossy; joined = link_is.joined })

  joined_by : IsJoinedBy (link_of h.a h.b (loose_of ran.kept)) h.history
  joined_by = record { is_link = link_is; is_order = order_is h.a h.b (loose_of ran.kept) h.history h.weaves }

pub runs_joined : (C : Type 0) (may_give : C → ℕ → Type 0) → RunsAreJoined C may_give
runs_joined = joined_by

pub runs_never_reset : (C : Type 0) (may_give : C → ℕ → Type 0) → RunsAreNeverReset C may_give
runs_never_reset = promised

pub lossy_in_order : (C : Type 0) (may_give : C → ℕ → Type 0) → LossyLinksComeInOrder C may_give
lossy_in_order = in_order
