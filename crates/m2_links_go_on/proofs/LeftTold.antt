-- A half on a socket that the other node's record opened was asked by that record, so it was told what the record towards it has judged.
use Rattle.std.proofs.Common.{◌≡◌, ◌⊎◌, inl, inr, Bool, true, false, List, [], ◌∷◌, map, Some, refl, sym, ap, subst, ◌∙◌}
use Rattle.std.specs.List.{AllByRecursion, IsDistinct}
use Rattle.m2_growth.proofs.m2_bytes_fit.Lists.{prefix_trans}
use Rattle.m2_growth.specs.AskLaws.{ArePut, AskersAreTheOpeners}
use Rattle.m2_fabric.specs.declared.socket.SocketId.{SocketId}
use Rattle.m2_fabric.specs.Sockets.{is_among}
use Rattle.m2_growth.proofs.m2_bytes_fit.Judges.{not_judged_on}
use Rattle.m2_growth.specs.Halves.{IsOneOf, asked_on}
use Rattle.m2_growth.specs.Records.{ends_of_all}
use Rattle.m2_growth.proofs.Among.{IsOf, mapped_one, of_each, one_back, whose}
use Rattle.m2_weave.specs.m2_handshake.Asks.{same_addr}
use Rattle.m2_weave.specs.m2_handshake.Laws.{IsPrefix}
use Rattle.m2_weave.specs.m2_journal.Lawful.{judged_on}
use Rattle.m2_weave.specs.m2_journal.State.{Judgement}
use Rattle.m2_growth.proofs.Asked.{end_own}
use Rattle.m2_fabric.proofs.m2_lemmas.Booleans.{false_isnt_true}
use Rattle.m2_history.specs.m2_record.RecordNow.{RecordNow, ends_of}
use Rattle.m2_history.specs.m2_record.Sources.{end_at, got_of, put_of}
use Rattle.m2_history.specs.m2_record.TakenTrails.{judgements_in}
use Rattle.m2_growth.specs.m2_turn.Sessions.{peer_of}
use Rattle.m2_history.specs.m2_trail.Arrivals.{LooseNow}
use Rattle.m2_weave.specs.Strands.{has_opened, journal_of}
use Rattle.m2_links_go_on.specs.Left.{AllCameOfPeer, CameOfPeer, IsHalfOf, IsLeftNode, IsRecordOf, IsToldBy, LeftNode, ends_left}
use Rattle.m2_growth.proofs.m2_bytes_fit.m2_feed.m2_handshake.Idents.{same_self}

-- ---- records by their peers

head_differs : (x s : RecordNow) (rs : List RecordNow) → IsOneOf s rs → AllByRecursion (λ y. same_addr (peer_of x) y ≡ false) (map peer_of rs) → peer_of x ≡ peer_of s → ⊥
head_differs x s [] i all h = i
head_differs x s (y ∷ rs) (inl e) all h = false_isnt_true (sym all.0 ∙ ap (λ p. same_addr (peer_of x) p) (ap peer_of (sym e) ∙ sym h) ∙ same_self (peer_of x))
head_differs x s (y ∷ rs) (inr i) all h = head_differs x s rs i all.1 h

pub one_peer : (r s : RecordNow) (rs : List RecordNow) → IsOneOf r rs → IsOneOf s rs → IsDistinct same_addr (map peer_of rs) → peer_of r ≡ peer_of s → r ≡ s
unfolding IsDistinct
one_peer r s [] i j d h = absurd i
one_peer r s (x ∷ rs) (inl p) (inl q) d h = p ∙ sym q
one_peer r s (x ∷ rs) (inl p) (inr j) d h = absurd (head_differs x s rs j d.0 (sym (ap peer_of p) ∙ h))
one_peer r s (x ∷ rs) (inr i) (inl q) d h = absurd (head_differs x r rs i d.0 (sym (ap peer_of q) ∙ sym h))
one_peer r s (x ∷ rs) (inr i) (inr j) d h = one_peer r s rs i j d.1 h

-- ---- a half of the node

module _ (n m : LeftNode) (here : IsLeftNode n) (a b : RecordNow) (mine : IsOneOf a n.records) (theirs : IsRecordOf m.at b) (towards : peer_of a ≡ m.at) (askers : AskersAreTheOpeners)
    (l : LooseNow) (one : IsOneOf l n.halves) where
  abbrev k : SocketId
  k = l.trail.socket

  half : IsHalfOf n.at n.records l
  half = of_each (IsHalfOf n.at n.records) l n.halves here.halves one

  end_is : end_at (ends_left n) k ≡ Some l.end
  end_is =
      ap (end_at (ends_left n)) half.whole.socket
      ∙ end_own l.end (ends_left n) here.own (one_back l.end (ends_of_all n.records) (map (λ (x : LooseNow). x.end) n.halves) (mapped_one (λ (x : LooseNow). x.end) l n.halves one))

  -- whoever has judged asks there is the record towards the opener
  judge_is : (c : RecordNow) → IsOneOf c n.records → is_among k (asked_on c) ≡ true → has_opened (journal_of b.journal) k ≡ true → IsPrefix l.end.log.got (put_of (end_at (ends_of b) k)) → c ≡ a
  judge_is c there asked opened put = one_peer c a n.records there mine here.peers (peer ∙ theirs.mine ∙ sym towards)
    where
      found : IsOf (λ (j : Judgement). j.socket) k (judgements_in c.journal)
      found = whose (λ (j : Judgement). j.socket) k (judgements_in c.journal) asked

      came : CameOfPeer (ends_left n) c found.item
      came = of_each (CameOfPeer (ends_left n) c) found.item (judgements_in c.journal) (of_each (AllCameOfPeer (ends_left n)) c n.records here.came there) found.there

      got_now : IsPrefix came.arrival.end.log.got l.end.log.got
      got_now = subst (λ o. IsPrefix came.arrival.end.log.got (got_of o)) (ap (end_at (ends_left n)) (sym found.is) ∙ end_is) came.got

      are_put : ArePut b k came.arrival.end.log.got
      are_put = prefix_trans came.arrival.end.log.got l.end.log.got (put_of (end_at (ends_of b) k)) got_now put

      peer : peer_of c ≡ b.core.facts.mine
      peer = askers b k came.arrival (peer_of c) theirs.is theirs.ranges opened came.arrived are_put came.main

  pub told : (has_opened (journal_of b.journal) k ≡ true) ⊎ (is_among k (asked_on a) ≡ true) → (has_opened (journal_of b.journal) k ≡ true → IsPrefix l.end.log.got (put_of (end_at (ends_of b) k))) →
      l.trail.judged ≡ judged_on k (judgements_in a.journal)
  told which put = by (is_among k (asked_on a)) refl
    where
      its : is_among k (asked_on a) ≡ true → l.trail.judged ≡ judged_on k (judgements_in a.journal)
      its asked = of_each (λ (r : RecordNow). is_among k (asked_on r) ≡ true → l.trail.judged ≡ judged_on k (judgements_in r.journal)) a n.records half.told mine asked

      opened : is_among k (asked_on a) ≡ false → (has_opened (journal_of b.journal) k ≡ true) ⊎ (is_among k (asked_on a) ≡ true) → has_opened (journal_of b.journal) k ≡ true
      opened none (inl o) = o
      opened none (inr asked) = absurd (false_isnt_true (sym none ∙ asked))

      of_none : is_among k (asked_on a) ≡ false → (l.trail.judged ≡ []) ⊎ IsToldBy l n.records → l.trail.judged ≡ judged_on k (judgements_in a.journal)
      of_none none (inl empty) = empty ∙ sym (not_judged_on k (judgements_in a.journal) none)
      of_none none (inr by) =
          let o = opened none which in
          let is : by.side ≡ a = judge_is by.side by.there by.asked o (put o) in
          absurd (false_isnt_true (sym none ∙ ap (λ (r : RecordNow). is_among k (asked_on r)) (sym is) ∙ by.asked))

      by : (c : Bool) → is_among k (asked_on a) ≡ c → l.trail.judged ≡ judged_on k (judgements_in a.journal)
      by true asked = its asked
      by false none = of_none none half.judged
