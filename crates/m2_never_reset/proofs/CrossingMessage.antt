-- Runs one after the other; and one that brings a message over and has it acknowledged.
use Rattle.std.proofs.Common.{◌≡◌, inl, inr, false, [], ◌∷◌, refl, arith, None}
use Rattle.m2_queues.specs.m2_message.Message.{Content}
use Rattle.m2_never_reset.specs.Roles.{Role}
use Rattle.m2_never_reset.specs.Asks.{Ident, by_ident}
use Rattle.m2_never_reset.specs.Mails.{letter, ack}
use Rattle.m2_never_reset.specs.Link.{absent, asking, offered, ready, Node, apart, by_near, by_far, Link, link, new_node, new_link}
use Rattle.m2_never_reset.specs.Steps.{IsDrawn, after_acceptance, set_back, dials, asks_by_ident, accepts, takes_offer, numbers, writes, acknowledges, accepts_mail, counts, Run, done, near_acts, far_acts}
use Rattle.m2_never_reset.specs.CrossingLaws.{RunsGoOn, AMessageComesOver}

pub go_on_lem : RunsGoOn
go_on_lem p q l m n (done k) next = next
go_on_lem p q l m n (near_acts k o r step run) next = near_acts k o n step (go_on_lem p q o r n run next)
go_on_lem p q l m n (far_acts k o r step run) next = far_acts k o n step (go_on_lem p q o r n run next)

module _ (p q : Role) (m : Content) (client : p.policy.server ≡ false) where
  -- the opener has asked, is accepted, and has written its message
  abbrev opener : Node
  opener = record new_node { client = p.mint 1; greatest = 1 }

  abbrev acceptor : Node
  acceptor = after_acceptance q new_node (record { cookie = p.mint 1; global = 1 }) false 1 (λ k. None)

  abbrev opened : Node
  opened = record (set_back false opener) { server = q.mint 1; peer_global = 1 }

  abbrev numbered : Node
  numbered = record opened { numbered = m ∷ [] }

  abbrev reader : Node
  reader = record acceptor { last = 1; accepted = m ∷ [] }

  abbrev its_ident : Ident
  its_ident = record { cookie = p.mint 1; global = 1 }

  -- the link once the opener has asked, was accepted, has written its message, and once the message was accepted and
  -- acknowledged
  abbrev asked : Link
  asked = link opener (asking (by_ident its_ident)) new_node absent apart 0

  abbrev accepted : Link
  accepted = link opener (offered (q.mint 1) 1 []) acceptor (ready []) by_near 0

  abbrev written : Link
  written = link numbered (ready []) acceptor (ready (letter 1 0 m ∷ [])) by_near 0

  abbrev taken : Link
  taken = link numbered (ready []) reader (ready []) by_near 0

  abbrev acked : Link
  acked = link numbered (ready (ack 1 ∷ [])) reader (ready []) by_near 0

  abbrev counted : Link
  counted = link (record numbered { base = 1 }) (ready (ack 1 ∷ [])) reader (ready []) by_near 0

  drawn : IsDrawn new_node 1
  drawn = record { above = omega arith; within = omega arith }

  runs : Run p q new_link counted
  runs =
      near_acts _ _ _ (dials new_node new_node absent absent apart 0 (λ k. None) client tt (λ k a e. e))
      (near_acts _ _ _ (asks_by_ident new_node new_node absent apart 0 its_ident refl drawn (inr (refl, refl)))
      (far_acts asked accepted _ (accepts new_node opener absent apart 0 its_ident false 1 (λ k. None) (λ k. None)
      (record { not_old = inr refl; in_full = inl refl }) drawn (λ k a e. inl e) (λ k a e. e))
      (near_acts _ _ _ (takes_offer opener acceptor (ready []) by_near 0 (q.mint 1) 1 [])
      (near_acts _ _ _ (numbers opened acceptor [] (ready []) by_near 0 (m ∷ []))
      (near_acts _ _ _ (writes numbered acceptor [] (ready []) by_near 0 1 m (omega arith) refl)
      (far_acts written taken _ (accepts_mail acceptor numbered [] (ready []) by_far 0 1 0 m refl)
      (far_acts taken acked _ (acknowledges reader numbered [] (ready []) by_far 0 1 (omega arith))
      (near_acts _ _ _ (counts numbered reader (ack 1 ∷ []) (ready []) by_near 0 1 (omega arith) (omega arith))
      (done _)))))))))

pub comes_over_lem : AMessageComesOver
comes_over_lem p q m client = (counted p q m client, runs p q m client, refl, refl)
