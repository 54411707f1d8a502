-- What a center leaves is a left node, where it is the node's only one.
use Rattle.std.proofs.Common.{◌≡◌, ◌⊎◌, inl, inr, true, [], ◌++◌, map, Option, Some, refl, sym, ap, subst, ◌∙◌}
use Rattle.std.specs.List.{AllByRecursion}
use Rattle.m2_fabric.specs.declared.socket.SocketId.{SocketId}
use Rattle.m2_fabric.specs.End.{SeenEnd}
use Rattle.m2_fabric.specs.Sockets.{goes_to, is_among}
use Rattle.m2_growth.specs.Ends.{AreOfTheirOwn}
use Rattle.m2_growth.specs.Halves.{HasItsHalves, IsOneOf, all_left, asked_on, sockets_left, sockets_taken}
use Rattle.m2_growth.specs.Holding.{Holding, LeadsElsewhere, all_ends, ends_held, waiting_at}
use Rattle.m2_growth.specs.Records.{ends_of_all}
use Rattle.m2_growth.proofs.Among.{among_mapped, each_by, mapped_one, of_each, one_back, whose}
use Rattle.m2_fabric.proofs.Sockets.{among_part}
use Rattle.m2_growth.proofs.Ends.{end_append, first_of, own_first}
use Rattle.m2_history.proofs.Kept.{records_are_kept}
use Rattle.m2_history.specs.Link.{IsKeptHalf, IsWholeHalf, end_ids, parts_of}
use Rattle.m2_weave.specs.m2_journal.Lawful.{judged_on}
use Rattle.m2_weave.specs.m2_journal.State.{Judgement}
use Rattle.m2_links_go_on.specs.Linked.{IsNode}
use Rattle.m2_links_go_on.proofs.Callers.{IsCalled, IsJudgedBy, are_called, judged_by_one, told_all}
use Rattle.m2_links_go_on.proofs.Nodes.{ends_of_left}
use Rattle.m2_growth.proofs.Asked.{end_own}
use Rattle.m2_links_go_on.proofs.LinkRecords.{has_one, one_at}
use Rattle.m2_history.specs.m2_record.IsRecord.{IsRecord}
use Rattle.m2_history.specs.m2_record.RecordNow.{RecordNow, ends_of, ids_of}
use Rattle.m2_history.specs.m2_record.Sources.{end_at, got_of}
use Rattle.m2_history.specs.m2_record.TakenTrails.{judgements_in}
use Rattle.m2_weave.specs.m2_handshake.Laws.{IsPrefix}
use Rattle.m2_growth.specs.m2_turn.Hearing.{ends_in}
use Rattle.m2_growth.specs.m2_turn.Sessions.{IsTold}
use Rattle.m2_history.specs.m2_trail.Arrivals.{LooseNow}
use Rattle.m2_history.specs.m2_trail.Trails.{TrailNow}
use Rattle.m2_links_go_on.specs.LeftLaws.{CentersLeave, HaveCome}
use Rattle.m2_links_go_on.specs.Left.{AllCameOfPeer, CameOfPeer, IsHalfOf, IsLeftNode, IsNamed, IsRecordOf, IsSeen, IsToldBy, ends_left, left_node}

module _ (h : Holding) (node : IsNode h) (come : HaveCome h) (named : AllByRecursion (IsNamed h.port.at) h.records) (seen : AllByRecursion IsSeen (all_left h.halves)) where
  ends_are : ends_left (left_node h) ≡ ends_held h
  ends_are = ap (λ es. ends_of_all h.records ++ es) (ends_of_left h.halves.pending h.halves.loose)

  own : AreOfTheirOwn (ends_left (left_node h))
  own = subst AreOfTheirOwn (sym ends_are) node.own.held

  one_record : (r : RecordNow) → IsOneOf r h.records → IsRecordOf h.port.at r
  one_record r one = let its = of_each (IsNamed h.port.at) r h.records named one in record {
    is = of_each IsRecord r h.records node.records one;
    ranges = its.ranges;
    mine = its.mine;
    elsewhere = of_each (LeadsElsewhere h.port) r h.records node.own.elsewhere one;
    seen = its.seen;
  }

  -- ---- halves

  one_half : (l : LooseNow) → IsOneOf l (all_left h.halves) → IsHalfOf h.port.at h.records l
  one_half l one = record {
    whole = of_each IsWholeHalf l (all_left h.halves) node.whole one;
    here = of_each (λ (y : LooseNow). goes_to h.port.at y.end.id ≡ true) l (all_left h.halves) node.own.here one;
    entity = (of_each IsSeen l (all_left h.halves) seen one).entity;
    seen = (of_each IsSeen l (all_left h.halves) seen one).seen;
    told = each_by (λ (r : RecordNow). is_among l.trail.socket (asked_on r) ≡ true → l.trail.judged ≡ judged_on l.trail.socket (judgements_in r.journal)) h.records
        (λ r i asked. sym called.judged
        ∙ told_all called.caller r (of_each (IsTold called.caller) r h.records called.is.told i) (ap (λ k. is_among k (asked_on r)) same ∙ asked)
        ∙ ap (λ k. judged_on k (judgements_in r.journal)) same);
    judged = by (judged_by_one h.port.made h.records called.caller called.is);
  }
    where
      called : IsCalled h.port.made h.records l
      called = of_each (IsCalled h.port.made h.records) l (all_left h.halves) (are_called node.supply node.entity h.port.made h.records h.halves node.sessions) one

      same : called.caller.socket ≡ l.trail.socket
      same = called.socket ∙ sym (of_each (λ (y : LooseNow). y.trail.socket ≡ y.end.id) l (all_left h.halves) node.own.on_socket one)

      by : (called.caller.judged ≡ []) ⊎ IsJudgedBy h.records called.caller.socket called.caller.judged → (l.trail.judged ≡ []) ⊎ IsToldBy l h.records
      by (inl none) = inl (sym called.judged ∙ none)
      by (inr its) = inr (record { side = its.side; there = its.there; asked = ap (λ k. is_among k (asked_on its.side)) (sym same) ∙ its.asked })

  -- ---- the ends of what was judged

  held_some : (k : SocketId) (e : SeenEnd) → end_at (ends_held h) k ≡ Some e → end_at (all_ends h) k ≡ end_at (ends_left (left_node h)) k
  held_some k e is =
      end_append (ends_held h) (waiting_at h.port) k ∙ ap (λ o. first_of o (end_at (waiting_at h.port) k)) is ∙ sym is ∙ ap (λ es. end_at es k) (sym ends_are)

  same_end_of : (r : RecordNow) → IsOneOf r h.records → (k : SocketId) → is_among k (asked_on r) ≡ true → end_at (all_ends h) k ≡ end_at (ends_left (left_node h)) k
  same_end_of r one k asked = by (among_part k (sockets_taken r) (sockets_left (all_left h.halves)) (of_each (HasItsHalves (all_left h.halves)) r h.records node.halves.each one k asked))
    where
      by : (is_among k (sockets_taken r) ≡ true) ⊎ (is_among k (sockets_left (all_left h.halves)) ≡ true) → end_at (all_ends h) k ≡ end_at (ends_left (left_node h)) k
      by (inl taken) =
          let t = whose (λ (t : TrailNow). t.socket) k r.trails taken in
          let half = of_each (IsKeptHalf (end_ids (parts_of r)) r.journal) t.item r.trails (records_are_kept r (of_each IsRecord r h.records node.records one)).halves t.there in
          let its = has_one (ends_of r) k (ap (λ j. is_among j (ids_of (ends_of r))) t.is ∙ half.end) in
          held_some k its.end
          (end_append (ends_of_all h.records) (ends_in h.halves) k
          ∙ ap (λ o. first_of o (end_at (ends_in h.halves) k)) (one_at r h.records one (own_first (ends_of_all h.records) (ends_in h.halves) node.own.held) k its.end its.at))
      by (inr left) =
          let l = whose (λ (l : LooseNow). l.trail.socket) k (all_left h.halves) left in
          let on = of_each (λ (y : LooseNow). y.trail.socket ≡ y.end.id) l.item (all_left h.halves) node.own.on_socket l.there in
          held_some k l.item.end
          (ap (λ es. end_at es k) (sym ends_are) ∙ ap (end_at (ends_left (left_node h))) (l.is ∙ on)
          ∙ end_own l.item.end (ends_left (left_node h)) own (one_back l.item.end (ends_of_all h.records) (map (λ (y : LooseNow). y.end) (all_left h.halves)) (mapped_one (λ (y : LooseNow). y.end) l.item (all_left h.halves) l.there)))

  came : (r : RecordNow) → IsOneOf r h.records → AllCameOfPeer (ends_left (left_node h)) r
  came r one = each_by (CameOfPeer (ends_left (left_node h)) r) (judgements_in r.journal) each
    where
      each : (j : Judgement) → IsOneOf j (judgements_in r.journal) → CameOfPeer (ends_left (left_node h)) r j
      each j i =
          let c = of_each (CameOfPeer (all_ends h) r) j (judgements_in r.journal) (of_each (AllCameOfPeer (all_ends h)) r h.records come one) i in
          record {
            arrival = c.arrival;
            arrived = c.arrived;
            socket = c.socket;
            main = c.main;
            got = subst (λ (o : Option SeenEnd). IsPrefix c.arrival.end.log.got (got_of o))
                (same_end_of r one j.socket (among_mapped (λ (y : Judgement). y.socket) j j.socket (judgements_in r.journal) i refl)) c.got;
          }

  leaves : IsLeftNode (left_node h)
  leaves = record {
    records = each_by (IsRecordOf h.port.at) h.records one_record;
    peers = node.halves.peers;
    halves = each_by (IsHalfOf h.port.at h.records) (all_left h.halves) one_half;
    own = own;
    each = node.halves.each;
    asked = node.halves.here;
    came = each_by (AllCameOfPeer (ends_left (left_node h))) h.records came;
  }

pub centers_leave : CentersLeave
centers_leave h node come named seen = leaves h node come named seen
