-- A feed that has heard more bytes, or on which more was put, leaves the link as it is.
use Rattle.std.proofs.Common.{◌≡◌, ℕ, ◌≤◌, List, length, Some, refl, sym}
use Rattle.m2_journal.specs.m2_fabric.declared.socket.SocketId.{SocketId}
use Rattle.m2_session.specs.declared.session.Phase.{Phase}
use Rattle.m2_session.specs.declared.session.Phase.TheVariants as phase
use Rattle.m2_journal.specs.Lawful.{judged_sockets}
use Rattle.m2_journal.specs.State.{Feed, SentFrame, State}
use Rattle.m2_never_reset.specs.Asks.{Asks}
use Rattle.m2_never_reset.specs.Link.{Node}
use Rattle.m2_never_reset.specs.LinkOf.{asks_left, stand_on, node_of, link_of}
use Rattle.m2_never_reset.proofs.Feeds.{HasHeard, heard_same}
use Rattle.m2_never_reset.proofs.Links.{links, joined_same, same_asks}

pub stand_of_same : (p : Phase) (d d' : Feed) (mine theirs : List SentFrame) → d'.socket ≡ d.socket →
    d'.taken ≡ d.taken → stand_on p d mine theirs ≡ stand_on p d' mine theirs
stand_of_same phase.Connecting d d' mine theirs e h = refl
stand_of_same phase.IdentSent d d' mine theirs e h = rw (e, h) refl
stand_of_same phase.ReconnectSent d d' mine theirs e h = rw (e, h) refl
stand_of_same phase.Ready d d' mine theirs e h = rw (e, h) refl
stand_of_same phase.Absent d d' mine theirs e h = refl
stand_of_same phase.Standby d d' mine theirs e h = refl
stand_of_same phase.Wait d d' mine theirs e h = refl

pub left_of_same : (d d' : Feed) (mine : List SentFrame) (judged : List SocketId) → d'.socket ≡ d.socket →
    asks_left (Some d) mine judged ≡ asks_left (Some d') mine judged
left_of_same d d' mine judged e =
    same_asks (asks_left (Some d) mine judged) (asks_left (Some d') mine judged) (λ k. rw e refl)

module _ (a b : State) (d d' : Feed) where
  same_node : (h h' : ℕ) (l l' : Asks) → h ≡ h' → l ≡ l' →
      ◌≡◌ {A = Node} (record (node_of a (judged_sockets b)) { heard = h; asks = l })
      (record (node_of a (judged_sockets b)) { heard = h'; asks = l' })
  same_node h h' l l' e e' = rw (e, e') refl

  pub same_feed : (n n' : ℕ) → HasHeard d d' → d.taken ≤ length d.got → n ≡ n' → link_of n
      (record a { feed = Some d }) b ≡ link_of n' (record a { feed = Some d' }) b
  same_feed n n' h l e =
      links _ _ _ _ _ _ _ _ _ _ _ _
      (same_node _ _ _ _ (sym (heard_same d d' h l)) (left_of_same d d' a.sent (judged_sockets b) h.socket))
      (stand_of_same a.session.phase d d' a.sent b.sent h.socket h.taken)
      refl refl
      (joined_same d d' b.feed h.socket h.opened)
      e
