-- What stands beside the records of a link in a run: a half that no record took was told what the record there has judged, and the
-- socket of each half comes from the other node.
use Rattle.std.proofs.Common.{◌≡◌, ℕ, ◌<◌, ◌^◌, ◌⊎◌, inl, inr, Bool, true, false, ◌&&◌, ◌||◌, not, if◌then◌else◌, List, [], Some, map, refl, sym, ap, subst, ◌∙◌}
use Rattle.std.specs.Prelude.{◌==◌}
use Rattle.std.specs.List.{AllByRecursion}
use Rattle.std.proofs.lemmas.Bool.{eqb-true, ltb-true, or_cases}
use Rattle.m2_fabric.specs.m2_addr.declared.addr.Addr.{Addr}
use Rattle.m2_links_go_on.specs.m2_weave.m2_control.Laws.{HasAddrRanges}
use Rattle.m2_fabric.specs.declared.socket.SocketId.{SocketId}
use Rattle.m2_fabric.specs.Sockets.{goes_to, is_among}
use Rattle.m2_lives.proofs.m2_bytes_fit.Judges.{not_judged_on}
use Rattle.m2_links_go_on.specs.m2_growth.Halves.{IsOneOf, all_left, asked_on}
use Rattle.m2_links_go_on.specs.m2_growth.Holding.{Holding}
use Rattle.m2_links_go_on.proofs.m2_growth.Among.{among_mapped, of_each}
use Rattle.m2_links_go_on.specs.m2_history.Link.{IsWholeHalf}
use Rattle.m2_links_go_on.specs.m2_history.Woven.{is_of_link, knows}
use Rattle.m2_links_go_on.specs.m2_weave.m2_journal.declared.entry.Entry.{Entry}
use Rattle.m2_links_go_on.specs.m2_weave.m2_journal.Lawful.{judged_on}
use Rattle.m2_links_go_on.proofs.Callers.{IsCalled, IsJudgedBy, judged_by_one, told_all}
use Rattle.m2_links_go_on.proofs.Nodes as held
use Rattle.m2_links_go_on.proofs.LinkRecords.{knows_kind}
use Rattle.m2_links_go_on.proofs.Standing.{judged_sockets, taken_asked}
use Rattle.m2_script.specs.m2_record.RecordNow.{RecordNow}
use Rattle.m2_script.specs.m2_record.TakenTrails.{judgements_in}
use Rattle.m2_promise.specs.Running.{HasAskedPeer, IsNodeAt, IsRunning, RunNow}
use Rattle.m2_promise.proofs.Openers as node
use Rattle.m2_promise.proofs.Towards as link
use Rattle.m2_promise.proofs.Towards.{AreTowards}
use Rattle.m2_fabric.specs.Meeting.{comes_from}
use Rattle.m2_script.specs.m2_center.m2_turn.Halves.{AllHalves, sessions_with}
use Rattle.m2_script.specs.m2_center.m2_turn.Sessions.{AreConsistent, Caller, IsCaller, IsTold, PendingNow, Supply, WasCaller, caller_in, caller_of, peer_of}
use Rattle.m2_lives.specs.m2_bytes_fit.m2_trail.Arrivals.{LooseNow, left_of}
use Rattle.m2_lives.specs.m2_bytes_fit.m2_trail.Trails.{TrailNow, opener_of}
use Rattle.m2_links_go_on.specs.m2_weave.Strands.{has_opened, journal_of}
use Rattle.m2_links_go_on.specs.m2_history.Actors.{is_near}
use Rattle.m2_links_go_on.specs.m2_history.WovenLink.{IsLooseBeside}
use Rattle.m2_links_go_on.proofs.m2_history.Whole.{records_are_sides}
use Rattle.m2_fabric.proofs.m2_lemmas.Booleans.{either_turned, not_true_is_false, both_of_and, false_isnt_true, or_true}
use Rattle.m2_fabric.proofs.m2_lemmas.Lists.{all_append, all_map, all_so}

-- ---- a half, as records see it

-- what it names is what its trail has
record IsOfKind (made : List SocketId) (records : List RecordNow) (l : LooseNow) : Type 0 where
  caller : Caller
  kind : caller.entity ≡ l.trail.entity
  is : IsCaller made records caller

are_of_kind : (supply : Supply) (entity : ℕ) (made : List SocketId) (records : List RecordNow) (h : AllHalves) → AreConsistent supply entity (sessions_with made records h) →
    AllByRecursion (IsOfKind made records) (all_left h)
are_of_kind supply entity made records h c =
    all_append (IsOfKind made records) (map (λ (p : PendingNow). left_of p.half) h.pending) h.loose
    (all_map (IsOfKind made records) (λ (p : PendingNow). left_of p.half) h.pending
    (all_so (λ (p : PendingNow). IsCaller made records (caller_in p)) (λ (p : PendingNow). IsOfKind made records (left_of p.half))
    (λ p is. record { caller = caller_in p; kind = refl; is = is }) h.pending c.halves))
    (all_so (WasCaller made records) (IsOfKind made records) (λ l was. record { caller = caller_of was.asker l; kind = refl; is = was.caller }) h.loose c.loose)

-- ---- who knows a socket

known_by : (a b : List Entry) (l : LooseNow) → l.trail.socket ≡ l.end.id → is_of_link a b l ≡ true → (knows a l.trail.socket ≡ true) ⊎ (knows b l.trail.socket ≡ true)
known_by a b l same its = or_cases (knows a l.trail.socket) (knows b l.trail.socket) (ap (λ k. knows a k || knows b k) same ∙ its)

-- a socket that comes from an address names it as its opener
seen_by : (k : SocketId) (at : Addr) → HasAddrRanges at → comes_from k (Some at) ≡ true → HasAddrRanges (opener_of k)
seen_by k at r comes =
    let same = both_of_and (k.from_ip == at.ip) (k.from_port == at.port) comes in (
      ltb-true 2 (2 ^ 32) refl,
      ltb-true 0 (2 ^ 32) refl,
      subst (λ n. n < 2 ^ 32) (sym (eqb-true k.from_ip at.ip same.0)) r.2,
      subst (λ n. n < 2 ^ 16) (sym (eqb-true k.from_port at.port same.1)) r.3,
    )

module _ (x : RunNow) (run : IsRunning x) (i j : ℕ) (h g : Holding) (a b : RecordNow) (t : AreTowards x i j h g a b) where
  here : IsNodeAt x.fabric.nodes i h
  here = run.nodes i h t.near

  there : IsNodeAt x.fabric.nodes j g
  there = run.nodes j g t.far

  -- ---- a socket that goes to the node

  -- its record hasn't opened it
  unopened : (k : SocketId) → goes_to h.port.at k ≡ true → has_opened (journal_of a.journal) k ≡ false
  unopened k goes = not_true_is_false (has_opened (journal_of a.journal) k) (λ o. false_isnt_true (sym (node.opened_away x.fabric.nodes i h here a t.mine k o) ∙ goes))

  -- and the other record has judged no ask there
  unasked : (k : SocketId) → goes_to h.port.at k ≡ true → is_among k (judged_sockets b.journal) ≡ false
  unasked k goes = not_true_is_false (is_among k (judged_sockets b.journal)) (λ asked. link.goes_apart x run i j h g a b t k goes (node.asked_goes x.fabric.nodes j g there b t.theirs k asked))

  -- so whichever of them knows it, the other has opened it, or its own has judged asks there
  abbrev IsOurs : SocketId → Type 0
  IsOurs k = (has_opened (journal_of b.journal) k ≡ true) ⊎ (is_among k (judged_sockets a.journal) ≡ true)

  abbrev IsKnownTo : SocketId → Type 0
  IsKnownTo k = (knows a.journal k ≡ true) ⊎ (knows b.journal k ≡ true)

  ours : (k : SocketId) → goes_to h.port.at k ≡ true → IsKnownTo k → IsOurs k
  ours k goes (inl known) = by (knows_kind k a.journal known)
    where
      by : (has_opened (journal_of a.journal) k ≡ true) ⊎ (is_among k (judged_sockets a.journal) ≡ true) → IsOurs k
      by (inl o) = absurd (false_isnt_true (sym (unopened k goes) ∙ o))
      by (inr asked) = inr asked
  ours k goes (inr known) = by (knows_kind k b.journal known)
    where
      by : (has_opened (journal_of b.journal) k ≡ true) ⊎ (is_among k (judged_sockets b.journal) ≡ true) → IsOurs k
      by (inl o) = inl o
      by (inr asked) = absurd (false_isnt_true (sym (unasked k goes) ∙ asked))

  near_is : (k : SocketId) → goes_to h.port.at k ≡ true → IsKnownTo k → is_near a.journal b.journal k ≡ true
  near_is k goes known = ap (λ o. not o && (has_opened (journal_of b.journal) k || knows a.journal k)) (unopened k goes) ∙ by known
    where
      of_far : (has_opened (journal_of b.journal) k ≡ true) ⊎ (is_among k (judged_sockets b.journal) ≡ true) → (has_opened (journal_of b.journal) k || knows a.journal k) ≡ true
      of_far (inl o) = ap (λ c. c || knows a.journal k) o
      of_far (inr asked) = absurd (false_isnt_true (sym (unasked k goes) ∙ asked))

      by : IsKnownTo k → (has_opened (journal_of b.journal) k || knows a.journal k) ≡ true
      by (inl mine) = ap (λ c. has_opened (journal_of b.journal) k || c) mine ∙ or_true (has_opened (journal_of b.journal) k)
      by (inr theirs) = of_far (knows_kind k b.journal theirs)

  far_is : (k : SocketId) → goes_to h.port.at k ≡ true → is_near b.journal a.journal k ≡ false
  far_is k goes = by (has_opened (journal_of b.journal) k) refl
    where
      unknown : has_opened (journal_of b.journal) k ≡ false → (has_opened (journal_of b.journal) k ≡ true) ⊎ (is_among k (judged_sockets b.journal) ≡ true) → ⊥
      unknown closed (inl o) = false_isnt_true (sym closed ∙ o)
      unknown closed (inr asked) = false_isnt_true (sym (unasked k goes) ∙ asked)

      by : (c : Bool) → has_opened (journal_of b.journal) k ≡ c → is_near b.journal a.journal k ≡ false
      by true o = ap (λ c. not c && (has_opened (journal_of a.journal) k || knows b.journal k)) o
      by false closed =
          ap (λ c. not c && (has_opened (journal_of a.journal) k || knows b.journal k)) closed ∙ ap (λ c. c || knows b.journal k) (unopened k goes)
          ∙ not_true_is_false (knows b.journal k) (λ known. unknown closed (knows_kind k b.journal known))

  -- it comes from the other node
  comes : (k : SocketId) → IsOurs k → comes_from k (Some (peer_of a)) ≡ true
  comes k (inl o) = ap (λ p. comes_from k (Some p)) (link.peer_is x run i j h g a b t) ∙ node.opened_comes x.fabric.nodes j g there b t.theirs k o
  comes k (inr asked) = of_each HasAskedPeer a h.records (run.asked i h t.near) t.mine k asked

  seen : (k : SocketId) → IsOurs k → HasAddrRanges (opener_of k)
  seen k our = seen_by k (peer_of a) (node.is_at x.fabric.nodes i h here a t.mine).ranges.peer (comes k our)

  -- ---- halves

  -- those that the record took
  pub taken_seen : (u : TrailNow) → IsOneOf u a.trails → HasAddrRanges (opener_of u.socket)
  taken_seen u one =
      seen u.socket
      (inr (taken_asked u.socket a.journal
      (sym (ap (is_among u.socket) (records_are_sides a (node.is_record x.fabric.nodes i h here a t.mine)).trails.sockets) ∙ among_mapped (λ (v : TrailNow). v.socket) u u.socket a.trails one refl)))

  module _ (l : LooseNow) (one : IsOneOf l (all_left h.halves)) where
    on_socket : l.trail.socket ≡ l.end.id
    on_socket = of_each (λ (y : LooseNow). y.trail.socket ≡ y.end.id) l (all_left h.halves) here.node.own.on_socket one

    goes : goes_to h.port.at l.trail.socket ≡ true
    goes = ap (goes_to h.port.at) on_socket ∙ of_each (λ (y : LooseNow). goes_to h.port.at y.end.id ≡ true) l (all_left h.halves) here.node.own.here one

    entity : l.trail.entity < 2 ^ 8
    entity =
        let its = of_each (IsOfKind h.port.made h.records) l (all_left h.halves) (are_of_kind here.node.supply here.node.entity h.port.made h.records h.halves here.node.sessions) one in
        subst (λ n. n < 2 ^ 8) (sym (of_each (IsTold its.caller) a h.records its.is.told t.mine).entity ∙ its.kind) (node.is_at x.fabric.nodes i h here a t.mine).ranges.entity

    called : IsCalled h.port.made h.records l
    called = held.called h here.node a t.mine l one

    same : called.caller.socket ≡ l.trail.socket
    same = called.socket ∙ sym on_socket

    -- where the record has judged no ask there none has
    none_judged : IsOurs l.trail.socket → is_among l.trail.socket (judged_sockets a.journal) ≡ false → (called.caller.judged ≡ []) ⊎ IsJudgedBy h.records called.caller.socket called.caller.judged → called.caller.judged ≡ []
    none_judged our none (inl empty) = empty
    none_judged our none (inr its) =
        let asked : is_among l.trail.socket (asked_on its.side) ≡ true = ap (λ k. is_among k (judged_sockets its.side.journal)) (sym same) ∙ its.asked in
        let is : its.side ≡ a = link.asker_is x run i j h g a b t l.trail.socket its.side its.there asked (node.opened_comes x.fabric.nodes j g there b t.theirs l.trail.socket (opened our)) in
        absurd (false_isnt_true (sym none ∙ ap (λ (r : RecordNow). is_among l.trail.socket (asked_on r)) (sym is) ∙ asked))
      where
        opened : IsOurs l.trail.socket → has_opened (journal_of b.journal) l.trail.socket ≡ true
        opened (inl o) = o
        opened (inr asked) = absurd (false_isnt_true (sym none ∙ asked))

    judged : IsOurs l.trail.socket → l.trail.judged ≡ judged_on l.trail.socket (judgements_in a.journal)
    judged our = by (is_among l.trail.socket (judged_sockets a.journal)) refl
      where
        by : (c : Bool) → is_among l.trail.socket (judged_sockets a.journal) ≡ c → l.trail.judged ≡ judged_on l.trail.socket (judgements_in a.journal)
        by true asked =
            sym called.judged
            ∙ told_all called.caller a (of_each (IsTold called.caller) a h.records called.is.told t.mine) (ap (λ k. is_among k (judged_sockets a.journal)) same ∙ asked)
            ∙ ap (λ k. judged_on k (judgements_in a.journal)) same
        by false none =
            sym called.judged ∙ none_judged our none (judged_by_one h.port.made h.records called.caller called.is) ∙ sym (not_judged_on l.trail.socket (judgements_in a.journal) none)

    whole : IsWholeHalf l
    whole = of_each IsWholeHalf l (all_left h.halves) here.node.whole one

    -- of the near node
    pub near_beside : is_of_link a.journal b.journal l ≡ true → IsLooseBeside a.journal b.journal l
    near_beside its =
        let known = known_by a.journal b.journal l on_socket its in
        record {
          whole = whole;
          entity = entity;
          judged = judged (ours l.trail.socket goes known) ∙ sym (ap (λ c. judged_on l.trail.socket (judgements_in (if c then a.journal else b.journal))) (near_is l.trail.socket goes known));
        }

    pub near_seen : is_of_link a.journal b.journal l ≡ true → HasAddrRanges (opener_of l.trail.socket)
    near_seen its = seen l.trail.socket (ours l.trail.socket goes (known_by a.journal b.journal l on_socket its))

    -- and of the far one, where this node is the other one's
    pub far_beside : is_of_link b.journal a.journal l ≡ true → IsLooseBeside b.journal a.journal l
    far_beside its =
        let known = either_turned (known_by b.journal a.journal l on_socket its) in
        record {
          whole = whole;
          entity = entity;
          judged = judged (ours l.trail.socket goes known) ∙ sym (ap (λ c. judged_on l.trail.socket (judgements_in (if c then b.journal else a.journal))) (far_is l.trail.socket goes));
        }

    pub far_seen : is_of_link b.journal a.journal l ≡ true → HasAddrRanges (opener_of l.trail.socket)
    far_seen its = seen l.trail.socket (ours l.trail.socket goes (either_turned (known_by b.journal a.journal l on_socket its)))
