-- The peer of each record is added behind those before it, from which it differs.
use Rattle.std.proofs.Common.{◌≡◌, add-one, false, map, take, sym, ap, subst, ◌∙◌, ◌++◌, ◌∷◌, []}
use Rattle.std.specs.List.{list_any}
use Rattle.m2_turn.specs.m2_handshake.Asks.{same_addr}
use Rattle.m2_turn.specs.Sessions.{peer_of}
use Rattle.m2_center.proofs.Rosters.{new_peer, one_more}
use Rattle.m2_center.proofs.making.roster_of.Goals as goal

pub add-requires : goal.add-requires
add-requires g c = subst (λ p. list_any (same_addr p) c.peers.roster ≡ false) (sym c.session.ensures.facts.peer)
    (subst (λ l. list_any (same_addr c.side-item.result.core.facts.peer) l ≡ false) (sym c.peers.invariant)
    (new_peer c.side-item.result c.args.records.now c.peers.side-index c.requires c.peers-test.true (sym c.side-item.is)))

pub peers-preserved : goal.peers-preserved
peers-preserved g c =
    c.in_ok-add.ensures.ok
    ∙ ap (λ l. l ++ c.session.result.now.peer ∷ []) c.peers.invariant
    ∙ ap (λ p. map peer_of (take c.peers.side-index c.args.records.now) ++ p ∷ []) c.session.ensures.facts.peer
    ∙ sym (one_more c.side-item.result c.args.records.now c.peers.side-index c.peers-test.true (sym c.side-item.is))
    ∙ ap (λ n. map peer_of (take n c.args.records.now)) (sym (add-one c.peers.side-index))
