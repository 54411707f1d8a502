-- What a center knows of the halves that it leaves, of the asks that its records have judged, and of the ends of both.
use Rattle.std.proofs.Common.{◌≡◌, ◌⊎◌, inl, inr, true, List, [], ◌++◌, map, Some, sym, ap, subst, ◌∙◌}
use Rattle.std.specs.List.{AllByRecursion}
use Rattle.m2_addr.specs.declared.addr.Addr.{Addr}
use Rattle.m2_dispatch.specs.declared.logged.Logged.{Logged}
use Rattle.m2_fabric.proofs.Sockets.{among_part}
use Rattle.m2_fabric.specs.End.{SeenEnd}
use Rattle.m2_fabric.specs.Sockets.{goes_to, is_among}
use Rattle.m2_fabric.specs.declared.socket.SocketId.{SocketId}
use Rattle.m2_journal.specs.Lawful.{judged_on}
use Rattle.m2_node.proofs.m2_links_go_on.Callers.{IsCalled, IsJudgedBy, are_called, judged_by_one, told_all}
use Rattle.m2_node.proofs.m2_links_go_on.LinkRecords.{has_one, one_at}
use Rattle.m2_node.proofs.m2_links_go_on.Nodes.{ends_of_left}
use Rattle.m2_node.proofs.m2_links_go_on.m2_growth.Among.{in_part, mapped_one, of_each, one_back, one_front, whose}
use Rattle.m2_node.proofs.m2_links_go_on.m2_growth.Asked.{end_own}
use Rattle.m2_node.proofs.m2_links_go_on.m2_growth.Ends.{end_append, first_of, own_first}
use Rattle.m2_node.proofs.m2_links_go_on.m2_history.Kept.{records_are_kept}
use Rattle.m2_node.specs.m2_links_go_on.Course.{holding_in}
use Rattle.m2_node.specs.m2_links_go_on.Left.{IsNamed}
use Rattle.m2_node.specs.m2_links_go_on.LeftLaws.{HaveCome}
use Rattle.m2_node.specs.m2_links_go_on.m2_growth.Halves.{AskedOnMade, HasItsHalves, IsOneOf, all_left, asked_on, sockets_left, sockets_taken}
use Rattle.m2_node.specs.m2_links_go_on.m2_growth.Holding.{AreOwn, HaveTheirHalves, Holding, all_ends, ends_held, waiting_at}
use Rattle.m2_node.specs.m2_links_go_on.m2_growth.Records.{ends_of_all}
use Rattle.m2_node.specs.m2_links_go_on.m2_history.Link.{IsKeptHalf, end_ids, parts_of}
use Rattle.m2_node.specs.m2_script.m2_record.IsRecord.{IsRecord}
use Rattle.m2_node.specs.m2_script.m2_record.RecordNow.{RecordNow, ends_of, ids_of}
use Rattle.m2_node.specs.m2_script.m2_record.Sources.{end_at}
use Rattle.m2_node.specs.m2_script.m2_record.TakenTrails.{judgements_in}
use Rattle.m2_node.specs.m2_script.m2_center.Center.{CenterNow, sessions_in, supply_in}
use Rattle.m2_node.specs.m2_script.m2_center.Finishing.{rest_of}
use Rattle.m2_node.specs.m2_script.m2_center.m2_turn.Hearing.{ends_in}
use Rattle.m2_node.specs.m2_script.m2_center.m2_turn.Sessions.{AreConsistent, IsTold, PendingNow}
use Rattle.m2_trail.specs.Arrivals.{LooseNow, left_of}
use Rattle.m2_trail.specs.Trails.{TrailNow}
use Rattle.m2_run.proofs.Times.{times}

-- A center that has ended, of a node at this address. However often a socket stands among those that its port made, so often it has an end.
pub record IsLeftCenter (at : Addr) (c : CenterNow (List Logged)) : Type 0 where
  pub listens : c.port.at ≡ at
  pub own : AreOwn (holding_in c)
  pub held : (k : SocketId) → times k c.port.made ≡ times k (ids_of (ends_of_all c.records ++ map (λ (l : LooseNow). l.end) (rest_of c).loose))
  pub halves : HaveTheirHalves (holding_in c)
  pub sessions : AreConsistent (supply_in c) c.entity (sessions_in c)
  pub records : AllByRecursion IsRecord c.records
  pub came : HaveCome (holding_in c)
  pub named : AllByRecursion (IsNamed at) c.records

module _ (at : Addr) (c : CenterNow (List Logged)) (its : IsLeftCenter at c) where
  abbrev h : Holding
  h = holding_in c

  abbrev turns : List LooseNow
  turns = map (λ (p : PendingNow). left_of p.half) c.halves.pending

  -- ---- halves

  -- those that it leaves are those that it has
  here : (l : LooseNow) → IsOneOf l (rest_of c).loose → IsOneOf l (all_left c.halves)
  here l i = by (in_part l c.halves.loose turns i)
    where
      by : IsOneOf l c.halves.loose ⊎ IsOneOf l turns → IsOneOf l (turns ++ c.halves.loose)
      by (inl over) = one_back l turns c.halves.loose over
      by (inr on) = one_front l turns c.halves.loose on

  there : (l : LooseNow) → IsOneOf l (all_left c.halves) → IsOneOf l (rest_of c).loose
  there l i = by (in_part l turns c.halves.loose i)
    where
      by : IsOneOf l turns ⊎ IsOneOf l c.halves.loose → IsOneOf l (c.halves.loose ++ turns)
      by (inl on) = one_back l c.halves.loose turns on
      by (inr over) = one_front l c.halves.loose turns over

  -- of any that it leaves: its trail's socket is that of its end, which goes to the node
  pub on_socket : (l : LooseNow) → IsOneOf l (rest_of c).loose → l.trail.socket ≡ l.end.id
  on_socket l i = of_each (λ (y : LooseNow). y.trail.socket ≡ y.end.id) l (all_left c.halves) its.own.on_socket (here l i)

  pub comes_here : (l : LooseNow) → IsOneOf l (rest_of c).loose → goes_to at l.end.id ≡ true
  comes_here l i = subst (λ a. goes_to a l.end.id ≡ true) its.listens (of_each (λ (y : LooseNow). goes_to c.port.at y.end.id ≡ true) l (all_left c.halves) its.own.here (here l i))

  called : (l : LooseNow) → IsOneOf l (rest_of c).loose → IsCalled c.port.made c.records l
  called l i = of_each (IsCalled c.port.made c.records) l (all_left c.halves) (are_called (supply_in c) c.entity c.port.made c.records c.halves its.sessions) (here l i)

  -- the port made it
  pub was_made : (l : LooseNow) → IsOneOf l (rest_of c).loose → is_among l.end.id c.port.made ≡ true
  was_made l i = let call = called l i in ap (λ k. is_among k c.port.made) (sym call.socket) ∙ call.is.made

  -- a record that has judged asks there has judged just those that it was told of
  pub was_told : (l : LooseNow) → IsOneOf l (rest_of c).loose → (r : RecordNow) → IsOneOf r c.records → is_among l.end.id (asked_on r) ≡ true →
      l.trail.judged ≡ judged_on l.end.id (judgements_in r.journal)
  was_told l i r j asked =
      let call = called l i in
      sym call.judged ∙ told_all call.caller r (of_each (IsTold call.caller) r c.records call.is.told j) (ap (λ k. is_among k (asked_on r)) call.socket ∙ asked)
      ∙ ap (λ k. judged_on k (judgements_in r.journal)) call.socket

  -- which record has judged asks on a socket
  pub record IsAskedOf (k : SocketId) : Type 0 where
    pub side : RecordNow
    pub one : IsOneOf side c.records
    pub asked : is_among k (asked_on side) ≡ true

  pub was_judged : (l : LooseNow) → IsOneOf l (rest_of c).loose → (l.trail.judged ≡ []) ⊎ IsAskedOf l.end.id
  was_judged l i = by (judged_by_one c.port.made c.records call.caller call.is)
    where
      call : IsCalled c.port.made c.records l
      call = called l i

      by : (call.caller.judged ≡ []) ⊎ IsJudgedBy c.records call.caller.socket call.caller.judged → (l.trail.judged ≡ []) ⊎ IsAskedOf l.end.id
      by (inl none) = inl (sym call.judged ∙ none)
      by (inr one) = inr (record { side = one.side; one = one.there; asked = ap (λ k. is_among k (asked_on one.side)) (sym call.socket) ∙ one.asked })

  -- ---- asks that were judged

  pub asked_made : (r : RecordNow) → IsOneOf r c.records → (k : SocketId) → is_among k (asked_on r) ≡ true → is_among k c.port.made ≡ true
  asked_made r i = of_each (AskedOnMade c.port.made) r c.records its.halves.made i

  -- the half of one that no record took
  pub record IsLeftOn (k : SocketId) : Type 0 where
    pub half : LooseNow
    pub one : IsOneOf half (rest_of c).loose
    pub is : k ≡ half.end.id

  -- its half is one that the record took, or one that is left
  pub its_half : (r : RecordNow) → IsOneOf r c.records → (k : SocketId) → is_among k (asked_on r) ≡ true → (is_among k (sockets_taken r) ≡ true) ⊎ IsLeftOn k
  its_half r i k asked = by (among_part k (sockets_taken r) (sockets_left (all_left c.halves)) (of_each (HasItsHalves (all_left c.halves)) r c.records its.halves.each i k asked))
    where
      by : (is_among k (sockets_taken r) ≡ true) ⊎ (is_among k (sockets_left (all_left c.halves)) ≡ true) → (is_among k (sockets_taken r) ≡ true) ⊎ IsLeftOn k
      by (inl taken) = inl taken
      by (inr left) =
          let found = whose (λ (l : LooseNow). l.trail.socket) k (all_left c.halves) left in
          let one = there found.item found.there in
          inr (record { half = found.item; one = one; is = found.is ∙ on_socket found.item one })

  -- ---- their ends

  held_first : (k : SocketId) (e : SeenEnd) → end_at (ends_held h) k ≡ Some e → end_at (all_ends h) k ≡ Some e
  held_first k e is = end_append (ends_held h) (waiting_at c.port) k ∙ ap (λ o. first_of o (end_at (waiting_at c.port) k)) is

  -- of a half that the record took the record has the end
  pub record IsItsEnd (r : RecordNow) (k : SocketId) : Type 0 where
    pub end : SeenEnd
    pub found : end_at (ends_of r) k ≡ Some end
    pub held : end_at (all_ends h) k ≡ Some end

  pub end_taken : (r : RecordNow) → IsOneOf r c.records → (k : SocketId) → is_among k (sockets_taken r) ≡ true → IsItsEnd r k
  end_taken r i k taken =
      let t = whose (λ (t : TrailNow). t.socket) k r.trails taken in
      let half = of_each (IsKeptHalf (end_ids (parts_of r)) r.journal) t.item r.trails (records_are_kept r (of_each IsRecord r c.records its.records i)).halves t.there in
      let one = has_one (ends_of r) k (ap (λ j. is_among j (ids_of (ends_of r))) t.is ∙ half.end) in
      record {
        end = one.end;
        found = one.at;
        held = held_first k one.end (end_append (ends_of_all c.records) (ends_in c.halves) k
            ∙ ap (λ o. first_of o (end_at (ends_in c.halves) k)) (one_at r c.records i (own_first (ends_of_all c.records) (ends_in c.halves) its.own.held) k one.end one.at));
      }

  pub end_left : (l : LooseNow) → IsOneOf l (rest_of c).loose → end_at (all_ends h) l.end.id ≡ Some l.end
  end_left l i =
      held_first l.end.id l.end (end_own l.end (ends_held h) its.own.held (one_back l.end (ends_of_all c.records) (ends_in c.halves)
      (subst (IsOneOf l.end) (ends_of_left c.halves.pending c.halves.loose) (mapped_one (λ (x : LooseNow). x.end) l (all_left c.halves) (here l i)))))
