-- Where two nodes go on, their link does.
use Rattle.std.proofs.Common.{◌≡◌, refl, sym, ap, ◌∙◌}
use Rattle.m2_fabric.specs.m2_addr.declared.addr.Addr.{Addr}
use Rattle.m2_fabric.specs.declared.socket.SocketId.{SocketId}
use Rattle.m2_fabric.specs.Sockets.{goes_to}
use Rattle.m2_growth.specs.Holding.{LeadsElsewhere}
use Rattle.m2_growth.proofs.Among.{of_each}
use Rattle.m2_history.specs.Link.{parts_of}
use Rattle.m2_weave.specs.m2_journal.SideFacts.{SideFacts}
use Rattle.m2_links_go_on.specs.LinkLaws.{LinksGoOn}
use Rattle.m2_links_go_on.specs.Linked.{NodeGoesOn, NodeNow, Nodes, NodesGoOn, left_at}
use Rattle.m2_links_go_on.proofs.Both.{are_kept, are_told}
use Rattle.m2_links_go_on.proofs.Going.{StandsOn}
use Rattle.m2_links_go_on.proofs.LinkGoes.{go_on}
use Rattle.m2_links_go_on.proofs.Nodes.{stands}
use Rattle.m2_links_go_on.proofs.Standing.{AreOpposed, StandsAt, opposed_too}
use Rattle.m2_links_go_on.proofs.LinkTurns as turns
use Rattle.m2_fabric.proofs.m2_lemmas.Booleans.{false_isnt_true}

-- a node before and behind, where sockets to it come here and its record dials away
module _ (old new : NodeNow) (on : NodeGoesOn old new) (away : Addr) (peer : (k : SocketId) → goes_to old.side.core.facts.peer k ≡ goes_to away k) where
  stood : StandsAt (goes_to old.holding.port.at) (goes_to away) (parts_of old.side) (left_at old)
  stood = stands old.holding on.before old.side (turns.was_there old new on) (goes_to old.holding.port.at) (goes_to away) (λ k. refl) peer

  stand : StandsAt (goes_to old.holding.port.at) (goes_to away) (parts_of new.side) (left_at new)
  stand =
      stands new.holding on.now new.side (turns.is_there old new on) (goes_to old.holding.port.at) (goes_to away) (λ k. ap (λ at. goes_to at k) on.grows.grows.at)
      (λ k. ap (λ (f : SideFacts). goes_to f.peer k) (turns.side_grows old new on).facts ∙ peer k)

  -- no socket does both
  opposed : AreOpposed (goes_to old.holding.port.at) (goes_to away)
  opposed k h a = false_isnt_true (sym (of_each (LeadsElsewhere old.holding.port) old.side old.holding.records on.before.own.elsewhere (turns.was_there old new on) k (peer k ∙ a)) ∙ h)

module _ (old new : Nodes) (on : NodesGoOn old new) where
  abbrev near_at : Addr
  near_at = old.near.holding.port.at

  abbrev far_at : Addr
  far_at = old.far.holding.port.at

  apart : AreOpposed (goes_to near_at) (goes_to far_at)
  apart = opposed old.near new.near on.near far_at on.near_peer

  near_stood : StandsAt (goes_to near_at) (goes_to far_at) (parts_of old.near.side) (left_at old.near)
  near_stood = stood old.near new.near on.near far_at on.near_peer

  near_stands : StandsAt (goes_to near_at) (goes_to far_at) (parts_of new.near.side) (left_at new.near)
  near_stands = stand old.near new.near on.near far_at on.near_peer

  far_stood : StandsAt (goes_to far_at) (goes_to near_at) (parts_of old.far.side) (left_at old.far)
  far_stood = stood old.far new.far on.far near_at on.far_peer

  far_stands : StandsAt (goes_to far_at) (goes_to near_at) (parts_of new.far.side) (left_at new.far)
  far_stands = stand old.far new.far on.far near_at on.far_peer

  near_on : StandsOn (parts_of old.near.side) (parts_of new.near.side) (left_at old.near) (left_at new.near) old.far.side.journal
  near_on = turns.stands_on old.near new.near on.near (goes_to near_at) (goes_to far_at) apart near_stood old.far.side (left_at old.far) far_stood on.near_alone

  far_on : StandsOn (parts_of old.far.side) (parts_of new.far.side) (left_at old.far) (left_at new.far) old.near.side.journal
  far_on =
      turns.stands_on old.far new.far on.far (goes_to far_at) (goes_to near_at) (opposed_too (goes_to near_at) (goes_to far_at) apart) far_stood old.near.side (left_at old.near) near_stood on.far_alone

pub links_go_on : LinksGoOn
links_go_on old new on = record {
  go_on =
      go_on (goes_to (near_at old new on)) (goes_to (far_at old new on)) (apart old new on) (parts_of old.near.side) (parts_of new.near.side) (parts_of old.far.side) (parts_of new.far.side)
      (left_at old.near) (left_at new.near) (left_at old.far) (left_at new.far) (near_stood old new on) (near_stands old new on) (far_stood old new on) (far_stands old new on)
      (near_on old new on) (far_on old new on);
  told =
      are_told (goes_to (near_at old new on)) (goes_to (far_at old new on)) (apart old new on) (parts_of old.near.side) (parts_of old.far.side) (left_at old.near) (left_at old.far)
      (near_stood old new on) (far_stood old new on);
  kept =
      are_kept (goes_to (near_at old new on)) (goes_to (far_at old new on)) (apart old new on) (parts_of new.near.side) (parts_of new.far.side) (left_at new.near) (left_at new.far)
      (near_stands old new on) (far_stands old new on);
}
