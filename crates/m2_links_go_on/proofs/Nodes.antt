-- A record of a node with the node's halves stands as a side of a link does.
use Rattle.std.proofs.Common.{◌≡◌, ◌⊎◌, inl, inr, Bool, true, false, ◌||◌, if◌then◌else◌, List, [], ◌∷◌, ◌++◌, map, Some, None, refl, sym, ap, subst, ◌∙◌}
use Rattle.std.specs.List.{AllByRecursion, IsDistinct}
use Rattle.m2_fabric.specs.declared.socket.SocketId.{SocketId}
use Rattle.m2_fabric.specs.End.{SeenEnd}
use Rattle.m2_fabric.specs.Sockets.{goes_to, is_among, same_socket}
use Rattle.m2_growth.specs.Ends.{AreOfTheirOwn}
use Rattle.m2_growth.specs.Halves.{IsOneOf, HasItsHalves, AskedTowards, all_left}
use Rattle.m2_growth.specs.Holding.{Holding, all_ends, ends_held, waiting_at}
use Rattle.m2_growth.specs.Records.{ends_of_all}
use Rattle.m2_growth.proofs.Among.{each_by, mapped_one, of_each}
use Rattle.m2_growth.proofs.Ends.{all_none, end_append, first_of, own_apart, own_first, own_last}
use Rattle.m2_history.proofs.Kept.{records_are_kept}
use Rattle.m2_history.specs.Link.{parts_of}
use Rattle.m2_weave.specs.m2_journal.Items.{at_start}
use Rattle.m2_weave.specs.m2_journal.Lawful.{judged_on}
use Rattle.m2_weave.specs.m2_journal.State.{start}
use Rattle.m2_history.specs.m2_record.IsRecord.{IsRecord}
use Rattle.m2_history.specs.m2_record.RecordNow.{RecordNow, ends_of, ids_of}
use Rattle.m2_history.specs.m2_record.Sources.{end_at}
use Rattle.m2_history.specs.m2_record.TakenTrails.{judgements_in}
use Rattle.m2_cluster.specs.m2_center.m2_turn.Halves.{AllHalves}
use Rattle.m2_cluster.specs.m2_center.m2_turn.Hearing.{ends_in}
use Rattle.m2_cluster.specs.m2_center.m2_turn.Sessions.{IsTold, PendingNow}
use Rattle.m2_history.specs.m2_trail.Arrivals.{LooseNow, left_of}
use Rattle.m2_links_go_on.proofs.Telling.{records_tell_all}
use Rattle.m2_history.specs.WovenLink.{sources_in}
use Rattle.m2_history.proofs.Halfway.{apart_from}
use Rattle.m2_history.proofs.Journals.{opened_leads}
use Rattle.m2_history.proofs.Whole.{records_are_sides}
use Rattle.m2_links_go_on.specs.Linked.{IsNode}
use Rattle.m2_links_go_on.proofs.Callers.{IsCalled, are_called, told_all}
use Rattle.m2_links_go_on.proofs.LinkRecords.{ends_feeds, feed_kind, none_some, one_at, one_own}
use Rattle.m2_links_go_on.proofs.Standing.{StandsAt, ids_left, judged_sockets}
use Rattle.m2_fabric.proofs.m2_lemmas.Lists.{all_map}
use Rattle.m2_fabric.proofs.m2_lemmas.Booleans.{false_isnt_true}
use Rattle.m2_growth.proofs.Asked.{end_own}

-- ---- the ends of halves

pub ends_of_left : (ps : List PendingNow) (ls : List LooseNow) → map (λ (l : LooseNow). l.end) (map (λ (p : PendingNow). left_of p.half) ps ++ ls) ≡ map (λ (p : PendingNow). p.half.end) ps ++ map (λ (l : LooseNow). l.end) ls
ends_of_left [] ls = refl
ends_of_left (p ∷ ps) ls = ap (λ es. p.half.end ∷ es) (ends_of_left ps ls)

ids_of_left : (ls : List LooseNow) → ids_left ls ≡ ids_of (map (λ (l : LooseNow). l.end) ls)
ids_of_left [] = refl
ids_of_left (l ∷ ls) = ap (λ ks. l.end.id ∷ ks) (ids_of_left ls)

ids_in : (h : AllHalves) → ids_left (all_left h) ≡ ids_of (ends_in h)
ids_in h = ids_of_left (all_left h) ∙ ap ids_of (ends_of_left h.pending h.loose)

end_in_halves : (h : AllHalves) (l : LooseNow) → IsOneOf l (all_left h) → IsOneOf l.end (ends_in h)
end_in_halves h l i = subst (IsOneOf l.end) (ends_of_left h.pending h.loose) (mapped_one (λ (x : LooseNow). x.end) l (all_left h) i)

pub end_among : (es : List SeenEnd) (k : SocketId) (e : SeenEnd) → end_at es k ≡ Some e → is_among k (ids_of es) ≡ true
end_among es k e at = by (is_among k (ids_of es)) refl
  where
    none : (es : List SeenEnd) → is_among k (ids_of es) ≡ false → end_at es k ≡ None
    none [] h = refl
    none (x ∷ es) h = by (same_socket k x.id) refl h (none es)
      where
        by : (b : Bool) → same_socket k x.id ≡ b → b || is_among k (ids_of es) ≡ false → (is_among k (ids_of es) ≡ false → end_at es k ≡ None) → end_at (x ∷ es) k ≡ None
        by true same h rest = absurd (false_isnt_true (sym h))
        by false other h rest = ap (λ b. if b then Some x else end_at es k) other ∙ rest h

    by : (b : Bool) → is_among k (ids_of es) ≡ b → is_among k (ids_of es) ≡ true
    by true h = h
    by false h = none_some e (end_at es k) at (none es h)

-- ---- among all ends of a node

module _ (h : Holding) (node : IsNode h) where
  pub records_own : AreOfTheirOwn (ends_of_all h.records)
  records_own = own_first (ends_of_all h.records) (ends_in h.halves) node.own.held

  halves_own : AreOfTheirOwn (ends_in h.halves)
  halves_own = own_last (ends_of_all h.records) (ends_in h.halves) node.own.held

  -- the end of a record
  pub held_at : (r : RecordNow) → IsOneOf r h.records → (k : SocketId) (e : SeenEnd) → end_at (ends_of r) k ≡ Some e → end_at (all_ends h) k ≡ Some e
  held_at r i k e at =
      end_append (ends_held h) (waiting_at h.port) k
      ∙ ap (λ o. first_of o (end_at (waiting_at h.port) k)) (end_append (ends_of_all h.records) (ends_in h.halves) k
      ∙ ap (λ o. first_of o (end_at (ends_in h.halves) k)) (one_at r h.records i records_own k e at))

  -- of no socket a record and a half have one
  no_half : (r : RecordNow) → IsOneOf r h.records → (k : SocketId) (e : SeenEnd) → end_at (ends_of r) k ≡ Some e → end_at (ends_in h.halves) k ≡ None
  no_half r i k e at = by (own_apart (ends_of_all h.records) (ends_in h.halves) node.own.held k)
    where
      by : (end_at (ends_of_all h.records) k ≡ None) ⊎ (end_at (ends_in h.halves) k ≡ None) → end_at (ends_in h.halves) k ≡ None
      by (inl none) = none_some e (end_at (ends_of_all h.records) k) (one_at r h.records i records_own k e at) none
      by (inr none) = none

  -- the end of a half
  pub half_at : (l : LooseNow) → IsOneOf l (all_left h.halves) → end_at (all_ends h) l.end.id ≡ Some l.end
  half_at l i =
      end_append (ends_held h) (waiting_at h.port) l.end.id
      ∙ ap (λ o. first_of o (end_at (waiting_at h.port) l.end.id)) (end_append (ends_of_all h.records) (ends_in h.halves) l.end.id
      ∙ by (own_apart (ends_of_all h.records) (ends_in h.halves) node.own.held l.end.id))
    where
      there : end_at (ends_in h.halves) l.end.id ≡ Some l.end
      there = end_own l.end (ends_in h.halves) halves_own (end_in_halves h.halves l i)

      by : (end_at (ends_of_all h.records) l.end.id ≡ None) ⊎ (end_at (ends_in h.halves) l.end.id ≡ None) → first_of (end_at (ends_of_all h.records) l.end.id) (end_at (ends_in h.halves) l.end.id) ≡ Some l.end
      by (inl none) = ap (λ o. first_of o (end_at (ends_in h.halves) l.end.id)) none ∙ there
      by (inr none) = none_some l.end (end_at (ends_in h.halves) l.end.id) there none

  -- ---- one record as a side

  module _ (r : RecordNow) (i : IsOneOf r h.records) where
    pub is_record : IsRecord r
    is_record = of_each IsRecord r h.records node.records i

    ends_own : AreOfTheirOwn (ends_of r)
    ends_own = one_own r h.records i records_own

    pub own_at : (e : SeenEnd) → IsOneOf e (ends_of r) → end_at (ends_of r) e.id ≡ Some e
    own_at e j = end_own e (ends_of r) ends_own j

    -- so all records together have an end of its sockets
    pub among_all : (k : SocketId) (e : SeenEnd) → end_at (ends_of r) k ≡ Some e → is_among k (ids_of (ends_of_all h.records)) ≡ true
    among_all k e at = end_among (ends_of_all h.records) k e (one_at r h.records i records_own k e at)

    apart_ends : apart_from same_socket (ids_of (ends_of r)) (ids_left (all_left h.halves))
    apart_ends =
        all_map (λ k. AllByRecursion (λ y. same_socket k y ≡ false) (ids_left (all_left h.halves))) (λ (e : SeenEnd). e.id) (ends_of r)
        (each_by (λ (e : SeenEnd). AllByRecursion (λ y. same_socket e.id y ≡ false) (ids_left (all_left h.halves))) (ends_of r)
        (λ e j. subst (AllByRecursion (λ y. same_socket e.id y ≡ false)) (sym (ids_in h.halves)) (all_none e.id (ends_in h.halves) (no_half r i e.id e (end_own e (ends_of r) ends_own j)))))

    pub called : (l : LooseNow) → IsOneOf l (all_left h.halves) → IsCalled h.port.made h.records l
    called l j = of_each (IsCalled h.port.made h.records) l (all_left h.halves) (are_called node.supply node.entity h.port.made h.records h.halves node.sessions) j

    on_socket : (l : LooseNow) → IsOneOf l (all_left h.halves) → l.trail.socket ≡ l.end.id
    on_socket l j = of_each (λ (x : LooseNow). x.trail.socket ≡ x.end.id) l (all_left h.halves) node.own.on_socket j

    told : (l : LooseNow) → IsOneOf l (all_left h.halves) → is_among l.trail.socket (judged_sockets r.journal) ≡ true → l.trail.judged ≡ judged_on l.trail.socket (judgements_in r.journal)
    told l j asked =
        let c = called l j in
        let same : c.caller.socket ≡ l.trail.socket = c.socket ∙ sym (on_socket l j) in
        sym c.judged
        ∙ told_all c.caller r (of_each (IsTold c.caller) r h.records c.is.told i) (ap (λ k. is_among k (judged_sockets r.journal)) same ∙ asked)
        ∙ ap (λ k. judged_on k (judgements_in r.journal)) same

    pub stands : (here away : SocketId → Bool) → ((k : SocketId) → goes_to h.port.at k ≡ here k) → ((k : SocketId) → goes_to r.core.facts.peer k ≡ away k) →
        StandsAt here away (parts_of r) (all_left h.halves)
    stands here away port peer = record {
      side = (r.core.facts, r.plan, records_are_sides r is_record);
      kept = records_are_kept r is_record;
      tells = records_tell_all r is_record;
      opened = λ k o. sym (peer k) ∙ opened_leads r.core.facts (sources_in r.plan (parts_of r)) r.journal at_start (start r.core.facts) k (records_are_sides r is_record).lawful o;
      asked = λ k a. sym (port k) ∙ of_each (AskedTowards h.port.at) r h.records node.halves.here i k a;
      ends = λ k e. feed_kind k r.journal (sym (ends_feeds r is_record k) ∙ e);
      own = ends_own;
      whole = node.whole;
      comes = each_by (λ (l : LooseNow). here l.end.id ≡ true) (all_left h.halves) (λ l j. sym (port l.end.id) ∙ of_each (λ (x : LooseNow). goes_to h.port.at x.end.id ≡ true) l (all_left h.halves) node.own.here j);
      single = subst (IsDistinct same_socket) (sym (ids_in h.halves)) halves_own;
      others = apart_ends;
      halves = λ k a. of_each (HasItsHalves (all_left h.halves)) r h.records node.halves.each i k a;
      judged = each_by (λ (l : LooseNow). is_among l.trail.socket (judged_sockets r.journal) ≡ true → l.trail.judged ≡ judged_on l.trail.socket (judgements_in r.journal)) (all_left h.halves) told;
    }
