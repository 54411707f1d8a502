-- Whose the ends of a node are: a record's that opened the socket or has judged asks on it, a half's, or ends that wait.
use Rattle.std.proofs.Common.{◌≡◌, ℕ, Bool, true, false, if◌then◌else◌, List, [], ◌∷◌, Option, Some, None, refl, sym, ap, subst, ◌∙◌, ◌⊎◌, inl, inr}
use Rattle.std.specs.Prelude.{◌||◌, slice_get, IsSome}
use Rattle.m2_fabric.specs.m2_addr.declared.addr.Addr.{Addr}
use Rattle.m2_fabric.specs.declared.socket.SocketId.{SocketId}
use Rattle.m2_fabric.specs.End.{SeenEnd}
use Rattle.m2_fabric.specs.Sockets.{goes_to, is_among, same_socket}
use Rattle.m2_links_go_on.proofs.LeftTold.{one_peer}
use Rattle.m2_links_go_on.specs.m2_growth.Halves.{AskedTowards, HasItsHalves, IsOneOf, all_left, asked_on, sockets_left, sockets_taken}
use Rattle.m2_links_go_on.specs.m2_growth.Holding.{Holding, IsToCome, LeadsElsewhere, all_ends, ends_held, waiting_at}
use Rattle.m2_links_go_on.specs.m2_growth.Records.{ends_of_all}
use Rattle.m2_links_go_on.proofs.m2_growth.Among.{of_each, one_front, whose}
use Rattle.m2_links_go_on.proofs.m2_growth.Ends.{end_append, first_of}
use Rattle.m2_links_go_on.proofs.m2_history.Kept.{records_are_kept}
use Rattle.m2_links_go_on.specs.m2_history.Link.{IsKeptHalf, end_ids, parts_of}
use Rattle.m2_links_go_on.specs.m2_weave.m2_journal.declared.entry.Entry.{Entry}
use Rattle.m2_links_go_on.specs.m2_weave.m2_journal.declared.entry.Entry.TheVariants as entry
use Rattle.m2_links_go_on.specs.m2_weave.m2_journal.Items.{at_start}
use Rattle.m2_links_go_on.specs.m2_weave.m2_journal.State.{start}
use Rattle.m2_script.specs.m2_record.IsRecord.{IsRecord, feeds_in}
use Rattle.m2_script.specs.m2_record.RecordNow.{RecordNow, ends_of, ids_of}
use Rattle.m2_script.specs.m2_record.Sources.{end_at}
use Rattle.m2_script.specs.m2_record.TakenTrails.{taken_in}
use Rattle.m2_links_go_on.specs.m2_weave.m2_session.SessionLaws.{takes}
use Rattle.m2_fabric.specs.Meeting.{comes_from}
use Rattle.m2_script.specs.m2_center.m2_turn.Hearing.{ends_in}
use Rattle.m2_script.specs.m2_center.m2_turn.Sessions.{peer_of}
use Rattle.m2_lives.specs.m2_bytes_fit.m2_trail.Arrivals.{LooseNow}
use Rattle.m2_lives.specs.m2_bytes_fit.m2_trail.Trails.{TrailNow}
use Rattle.m2_links_go_on.specs.m2_weave.Strands.{has_opened, journal_of}
use Rattle.m2_links_go_on.specs.m2_history.WovenLink.{sources_in}
use Rattle.m2_links_go_on.proofs.m2_history.Journals.{opened_leads}
use Rattle.m2_links_go_on.proofs.m2_history.Whole.{records_are_sides}
use Rattle.m2_links_go_on.proofs.Nodes as node
use Rattle.m2_links_go_on.proofs.Nodes.{ends_of_left, end_among}
use Rattle.m2_links_go_on.proofs.LinkRecords.{HasOne, ends_feeds, feed_kind, has_one}
use Rattle.m2_links_go_on.proofs.Standing.{taken_asked}
use Rattle.m2_promise.specs.Running.{IsNodeAt, IsOfPort, IsRecordAt}
use Rattle.m2_promise.proofs.Lists.{flat_one, image_of, of_among}
use Rattle.m2_fabric.proofs.Sockets.{among_part, same_equal}
use Rattle.m2_fabric.proofs.m2_lemmas.Booleans.{false_isnt_true}

-- ---- ends

-- the end of a socket is on it, and one of the list
pub record IsFound (es : List SeenEnd) (k : SocketId) (e : SeenEnd) : Type 0 where
  pub there : IsOneOf e es
  pub socket : k ≡ e.id

pub end_found : (es : List SeenEnd) (k : SocketId) (e : SeenEnd) → end_at es k ≡ Some e → IsFound es k e
end_found [] k e h = absurd cc
end_found (x ∷ es) k e h = by (same_socket k x.id) refl h (end_found es k e)
  where
    by : (b : Bool) → same_socket k x.id ≡ b → (if b then Some x else end_at es k) ≡ Some e → (end_at es k ≡ Some e → IsFound es k e) → IsFound (x ∷ es) k e
    by true same h rest = let is : x ≡ e = cc in record { there = inl (sym is); socket = same_equal k x.id same ∙ ap (λ (y : SeenEnd). y.id) is }
    by false other h rest = let found = rest h in record { there = inr found.there; socket = found.socket }

-- a record that has the end of a socket
pub record IsHeldBy (rs : List RecordNow) (k : SocketId) (e : SeenEnd) : Type 0 where
  pub side : RecordNow
  pub there : IsOneOf side rs
  pub end : end_at (ends_of side) k ≡ Some e

pub held_by : (rs : List RecordNow) (k : SocketId) (e : SeenEnd) → end_at (ends_of_all rs) k ≡ Some e → IsHeldBy rs k e
held_by [] k e h = absurd cc
held_by (r ∷ rs) k e h = by (end_at (ends_of r) k) refl (sym (end_append (ends_of r) (ends_of_all rs) k) ∙ h) (held_by rs k e)
  where
    by : (o : Option SeenEnd) → end_at (ends_of r) k ≡ o → first_of o (end_at (ends_of_all rs) k) ≡ Some e → (end_at (ends_of_all rs) k ≡ Some e → IsHeldBy rs k e) → IsHeldBy (r ∷ rs) k e
    by (Some f) is h rest = record { side = r; there = inl refl; end = is ∙ h }
    by None is h rest = let found = rest h in record { side = found.side; there = inr found.there; end = found.end }

-- a socket that a journal opened became the feed
opened_feed : (es : List Entry) (k : SocketId) → has_opened (journal_of es) k ≡ true → is_among k (feeds_in es) ≡ true
opened_feed [] k h = absurd (false_isnt_true h)
opened_feed (entry.Opened x ∷ es) k h = at (same_socket k x) h (opened_feed es k)
  where
    at : (b : Bool) → b || has_opened (journal_of es) k ≡ true → (has_opened (journal_of es) k ≡ true → is_among k (feeds_in es) ≡ true) → b || is_among k (feeds_in es) ≡ true
    at true h rest = refl
    at false h rest = rest h
opened_feed (entry.Judged x ask number answer ∷ es) k h = at (takes answer) refl (opened_feed es k h)
  where
    within : (b : Bool) → is_among k (feeds_in es) ≡ true → b || is_among k (feeds_in es) ≡ true
    within true h = refl
    within false h = h

    at : (b : Bool) → takes answer ≡ b → is_among k (feeds_in es) ≡ true → is_among k (feeds_in (entry.Judged x ask number answer ∷ es)) ≡ true
    at true e h = rw e (within (same_socket k x) h)
    at false e h = rw e h
opened_feed (e ∷ es) k h = opened_feed es k h

-- ---- one node

-- whose the end of a socket is
pub record IsOfHalf (h : Holding) (e : SeenEnd) : Type 0 where
  pub half : LooseNow
  pub there : IsOneOf half (all_left h.halves)
  pub end : e ≡ half.end

pub record IsOpener (h : Holding) (k : SocketId) (e : SeenEnd) : Type 0 where
  pub side : RecordNow
  pub there : IsOneOf side h.records
  pub end : end_at (ends_of side) k ≡ Some e
  pub opened : has_opened (journal_of side.journal) k ≡ true

in_halves : (h : Holding) (k : SocketId) (e : SeenEnd) → end_at (ends_in h.halves) k ≡ Some e → IsOfHalf h e
in_halves h k e at =
    let found = image_of (λ (l : LooseNow). l.end) e (all_left h.halves) (subst (IsOneOf e) (sym (ends_of_left h.halves.pending h.halves.loose)) (end_found (ends_in h.halves) k e at).there) in
    record { half = found.item; there = found.there; end = found.is }

abbrev pub Whose : (h : Holding) (k : SocketId) (e : SeenEnd) → Type 0
Whose h k e = IsHeldBy h.records k e ⊎ (IsOfHalf h e ⊎ IsFound (waiting_at h.port) k e)

pub whose_end : (h : Holding) (k : SocketId) (e : SeenEnd) → end_at (all_ends h) k ≡ Some e → Whose h k e
whose_end h k e at =
    by (end_at (ends_of_all h.records) k) refl (end_at (ends_in h.halves) k) refl
    (sym (end_append (ends_held h) (waiting_at h.port) k ∙ ap (λ o. first_of o (end_at (waiting_at h.port) k)) (end_append (ends_of_all h.records) (ends_in h.halves) k)) ∙ at)
  where
    by : (o : Option SeenEnd) → end_at (ends_of_all h.records) k ≡ o → (p : Option SeenEnd) → end_at (ends_in h.halves) k ≡ p → first_of (first_of o p) (end_at (waiting_at h.port) k) ≡ Some e → Whose h k e
    by (Some f) is p so h_at = inl (held_by h.records k e (is ∙ h_at))
    by None is (Some f) so h_at = inr (inl (in_halves h k e (so ∙ h_at)))
    by None is None so h_at = inr (inr (end_found (waiting_at h.port) k e h_at))

-- there is one
pub record HasEnd (h : Holding) (k : SocketId) : Type 0 where
  pub end : SeenEnd
  pub at : end_at (all_ends h) k ≡ Some end

pub some_end : (h : Holding) (k : SocketId) → IsSome (end_at (all_ends h) k) → HasEnd h k
some_end h k some = by (end_at (all_ends h) k) refl some
  where
    by : (o : Option SeenEnd) → end_at (all_ends h) k ≡ o → IsSome o → HasEnd h k
    by None is s = absurd (false_isnt_true s)
    by (Some e) is s = record { end = e; at = is }

module _ (addrs : List Addr) (i : ℕ) (h : Holding) (at : IsNodeAt addrs i h) where
  pub is_at : (r : RecordNow) → IsOneOf r h.records → IsRecordAt addrs i r
  is_at r one = of_each (IsRecordAt addrs i) r h.records at.records one

  pub is_record : (r : RecordNow) → IsOneOf r h.records → IsRecord r
  is_record r one = of_each IsRecord r h.records at.node.records one

  -- ---- what a record has opened

  pub opened_goes : (r : RecordNow) → IsOneOf r h.records → (k : SocketId) → has_opened (journal_of r.journal) k ≡ true → goes_to (peer_of r) k ≡ true
  opened_goes r one k o = opened_leads r.core.facts (sources_in r.plan (parts_of r)) r.journal at_start (start r.core.facts) k (records_are_sides r (is_record r one)).lawful o

  pub opened_away : (r : RecordNow) → IsOneOf r h.records → (k : SocketId) → has_opened (journal_of r.journal) k ≡ true → goes_to h.port.at k ≡ false
  opened_away r one k o = of_each (LeadsElsewhere h.port) r h.records at.node.own.elsewhere one k (opened_goes r one k o)

  pub opened_end : (r : RecordNow) → IsOneOf r h.records → (k : SocketId) → has_opened (journal_of r.journal) k ≡ true → HasOne (ends_of r) k
  opened_end r one k o = has_one (ends_of r) k (ends_feeds r (is_record r one) k ∙ opened_feed r.journal k o)

  -- the port made it, so it comes from there
  pub opened_comes : (r : RecordNow) → IsOneOf r h.records → (k : SocketId) → has_opened (journal_of r.journal) k ≡ true → comes_from k (Some h.port.at) ≡ true
  opened_comes r one k o = by (comes_from k (Some h.port.at)) of_port
    where
      its : HasOne (ends_of r) k
      its = opened_end r one k o

      made : is_among k h.port.made ≡ true
      made =
          ap (λ j. is_among j h.port.made) (end_found (ends_of r) k its.end its.at).socket
          ∙ of_each (λ (e : SeenEnd). is_among e.id h.port.made ≡ true) its.end (ends_held h) at.node.own.made
          (one_front its.end (ends_of_all h.records) (ends_in h.halves) (flat_one ends_of r its.end h.records one its.there))

      of_port : (comes_from k (Some h.port.at) || false) ≡ true
      of_port = ap (λ b. comes_from k (Some h.port.at) || b) (sym (opened_away r one k o)) ∙ of_among (IsOfPort h.port.at) k h.port.made at.made made

      by : (b : Bool) → (b || false) ≡ true → b ≡ true
      by true h = refl
      by false h = h

  -- ---- what a record has judged asks on

  pub asked_goes : (r : RecordNow) → IsOneOf r h.records → (k : SocketId) → is_among k (asked_on r) ≡ true → goes_to h.port.at k ≡ true
  asked_goes r one k a = of_each (AskedTowards h.port.at) r h.records at.node.halves.here one k a

  -- its end is there
  pub asked_end : (r : RecordNow) → IsOneOf r h.records → (k : SocketId) → is_among k (asked_on r) ≡ true → HasEnd h k
  asked_end r one k a = by (among_part k (sockets_taken r) (sockets_left (all_left h.halves)) (of_each (HasItsHalves (all_left h.halves)) r h.records at.node.halves.each one k a))
    where
      by : (is_among k (sockets_taken r) ≡ true) ⊎ (is_among k (sockets_left (all_left h.halves)) ≡ true) → HasEnd h k
      by (inl taken) =
          let t = whose (λ (t : TrailNow). t.socket) k r.trails taken in
          let half = of_each (IsKeptHalf (end_ids (parts_of r)) r.journal) t.item r.trails (records_are_kept r (is_record r one)).halves t.there in
          let its = has_one (ends_of r) k (ap (λ j. is_among j (ids_of (ends_of r))) t.is ∙ half.end) in
          record { end = its.end; at = node.held_at h at.node r one k its.end its.at }
      by (inr left) =
          let l = whose (λ (l : LooseNow). l.trail.socket) k (all_left h.halves) left in
          let on = of_each (λ (x : LooseNow). x.trail.socket ≡ x.end.id) l.item (all_left h.halves) at.node.own.on_socket l.there in
          record { end = l.item.end; at = ap (end_at (all_ends h)) (l.is ∙ on) ∙ node.half_at h at.node l.item l.there }

  -- ---- whose an end is

  pub end_kind : (r : RecordNow) → IsOneOf r h.records → (k : SocketId) (e : SeenEnd) → end_at (ends_of r) k ≡ Some e → (has_opened (journal_of r.journal) k ≡ true) ⊎ (is_among k (asked_on r) ≡ true)
  end_kind r one k e here = by (feed_kind k r.journal (sym (ends_feeds r (is_record r one) k) ∙ end_among (ends_of r) k e here))
    where
      by : (has_opened (journal_of r.journal) k ≡ true) ⊎ (is_among k (taken_in r.journal) ≡ true) → (has_opened (journal_of r.journal) k ≡ true) ⊎ (is_among k (asked_on r) ≡ true)
      by (inl o) = inl o
      by (inr t) = inr (taken_asked k r.journal t)

  -- of a socket that goes to the node, a record's end is of an ask
  pub end_asked : (r : RecordNow) → IsOneOf r h.records → (k : SocketId) (e : SeenEnd) → end_at (ends_of r) k ≡ Some e → goes_to h.port.at k ≡ true → is_among k (asked_on r) ≡ true
  end_asked r one k e here goes = by (end_kind r one k e here)
    where
      by : (has_opened (journal_of r.journal) k ≡ true) ⊎ (is_among k (asked_on r) ≡ true) → is_among k (asked_on r) ≡ true
      by (inl o) = absurd (false_isnt_true (sym (opened_away r one k o) ∙ goes))
      by (inr a) = a

  -- and of another socket a record that opened it has the end
  pub opener_of : (k : SocketId) (e : SeenEnd) → end_at (all_ends h) k ≡ Some e → goes_to h.port.at k ≡ false → IsOpener h k e
  opener_of k e here away = by (whose_end h k e here)
    where
      by : Whose h k e → IsOpener h k e
      by (inl held) = of_kind (end_kind held.side held.there k e held.end)
        where
          of_kind : (has_opened (journal_of held.side.journal) k ≡ true) ⊎ (is_among k (asked_on held.side) ≡ true) → IsOpener h k e
          of_kind (inl o) = record { side = held.side; there = held.there; end = held.end; opened = o }
          of_kind (inr a) = absurd (false_isnt_true (sym away ∙ asked_goes held.side held.there k a))
      by (inr (inl half)) =
          let goes = of_each (λ (l : LooseNow). goes_to h.port.at l.end.id ≡ true) half.half (all_left h.halves) at.node.own.here half.there in
          let same : k ≡ e.id = (end_found (all_ends h) k e here).socket in
          absurd (false_isnt_true (sym away ∙ ap (goes_to h.port.at) (same ∙ ap (λ (x : SeenEnd). x.id) half.end) ∙ goes))
      by (inr (inr waits)) =
          let goes = (of_each (IsToCome h.port) e (waiting_at h.port) at.node.own.to_come waits.there).here in
          absurd (false_isnt_true (sym away ∙ ap (goes_to h.port.at) waits.socket ∙ goes))

  -- ---- by places

  pub one_by_place : (r s : RecordNow) → IsOneOf r h.records → IsOneOf s h.records → r.place ≡ s.place → r ≡ s
  one_by_place r s i_r i_s same =
      let p : Some (peer_of r) ≡ Some (peer_of s) = sym (is_at r i_r).peer ∙ ap (slice_get addrs) same ∙ (is_at s i_s).peer in
      let q : peer_of r ≡ peer_of s = cc in
      one_peer r s h.records i_r i_s at.node.halves.peers q
