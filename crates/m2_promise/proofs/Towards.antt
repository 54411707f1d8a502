-- Two records of two nodes that are towards each other: on a socket between the nodes none but these two act.
use Rattle.std.proofs.Common.{◌≡◌, ℕ, true, Some, sym, ap, ◌∙◌}
use Rattle.std.specs.Prelude.{slice_get}
use Rattle.std.proofs.lemmas.Bool.{eq-eqb}
use Rattle.m2_fabric.specs.declared.socket.SocketId.{SocketId}
use Rattle.m2_fabric.specs.Sockets.{goes_to, is_among}
use Rattle.m2_links_go_on.specs.m2_growth.Halves.{IsOneOf, asked_on}
use Rattle.m2_links_go_on.specs.m2_growth.Holding.{Holding}
use Rattle.m2_links_go_on.specs.m2_growth.Records.{ends_of_all}
use Rattle.m2_links_go_on.proofs.m2_growth.Among.{of_each}
use Rattle.m2_links_go_on.specs.Linked.{IsPeerAt}
use Rattle.m2_links_go_on.proofs.LinkRecords.{has_one}
use Rattle.m2_script.specs.m2_record.RecordNow.{RecordNow, ends_of, ids_of}
use Rattle.m2_fabric.specs.Meeting.{comes_from}
use Rattle.m2_script.specs.m2_center.m2_turn.Sessions.{peer_of}
use Rattle.m2_links_go_on.specs.m2_weave.Strands.{has_opened, journal_of}
use Rattle.m2_promise.specs.Running.{HasAskedPeer, IsNodeAt, IsRecordAt, IsRunning, RunNow}
use Rattle.m2_promise.proofs.BothEnds.{address}
use Rattle.m2_promise.proofs.Openers as node
use Rattle.m2_promise.proofs.Openers.{held_by}
use Rattle.m2_promise.proofs.Places.{comes_one, goes_one}
use Rattle.m2_fabric.proofs.m2_lemmas.Booleans.{false_isnt_true}
use Rattle.m2_links_go_on.proofs.Nodes.{end_among}

pub record AreTowards (x : RunNow) (i j : ℕ) (h g : Holding) (a b : RecordNow) : Type 0 where
  pub near : slice_get x.holdings i ≡ Some h
  pub far : slice_get x.holdings j ≡ Some g
  pub mine : IsOneOf a h.records
  pub theirs : IsOneOf b g.records
  pub a_towards : a.place ≡ j
  pub b_towards : b.place ≡ i

pub turned : (x : RunNow) (i j : ℕ) (h g : Holding) (a b : RecordNow) → AreTowards x i j h g a b → AreTowards x j i g h b a
turned x i j h g a b t = record { near = t.far; far = t.near; mine = t.theirs; theirs = t.mine; a_towards = t.b_towards; b_towards = t.a_towards }

module _ (x : RunNow) (run : IsRunning x) (i j : ℕ) (h g : Holding) (a b : RecordNow) (t : AreTowards x i j h g a b) where
  pub here : IsNodeAt x.fabric.nodes i h
  here = run.nodes i h t.near

  pub there : IsNodeAt x.fabric.nodes j g
  there = run.nodes j g t.far

  is_at : (r : RecordNow) → IsOneOf r h.records → IsRecordAt x.fabric.nodes i r
  is_at r one = node.is_at x.fabric.nodes i h here r one

  -- the record's peer is the other node
  pub peer_is : peer_of a ≡ g.port.at
  peer_is = address x run j g (peer_of a) t.far (ap (slice_get x.fabric.nodes) (sym t.a_towards) ∙ (is_at a t.mine).peer)

  pub peer_at : IsPeerAt g.port.at a
  peer_at k = ap (λ p. goes_to p k) peer_is

  -- it is the only one that opened a socket to the other node
  pub opener_is : (k : SocketId) (r : RecordNow) → IsOneOf r h.records → has_opened (journal_of r.journal) k ≡ true → goes_to g.port.at k ≡ true → r ≡ a
  opener_is k r one o goes =
      let same : r.place ≡ j = goes_one x.fabric.nodes r.place j (peer_of r) g.port.at k run.apart (is_at r one).peer there.at (node.opened_goes x.fabric.nodes i h here r one k o) goes in
      node.one_by_place x.fabric.nodes i h here r a one t.mine (same ∙ sym t.a_towards)

  -- or that has judged asks on one from there
  pub asked_comes : (k : SocketId) → is_among k (asked_on a) ≡ true → comes_from k (Some g.port.at) ≡ true
  asked_comes k asked = ap (λ p. comes_from k (Some p)) (sym peer_is) ∙ of_each HasAskedPeer a h.records (run.asked i h t.near) t.mine k asked

  pub asker_is : (k : SocketId) (r : RecordNow) → IsOneOf r h.records → is_among k (asked_on r) ≡ true → comes_from k (Some g.port.at) ≡ true → r ≡ a
  asker_is k r one asked comes =
      let same : r.place ≡ j = comes_one x.fabric.nodes r.place j (peer_of r) g.port.at k run.apart (is_at r one).peer there.at (of_each HasAskedPeer r h.records (run.asked i h t.near) one k asked) comes in
      node.one_by_place x.fabric.nodes i h here r a one t.mine (same ∙ sym t.a_towards)

  -- no socket goes to both
  pub goes_apart : (k : SocketId) → goes_to h.port.at k ≡ true → goes_to g.port.at k ≡ true → ⊥
  goes_apart k p q =
      let same : i ≡ j = goes_one x.fabric.nodes i j h.port.at g.port.at k run.apart here.at there.at p q in
      false_isnt_true (sym (is_at a t.mine).other ∙ eq-eqb a.place i (t.a_towards ∙ sym same))

  -- of a socket that the other record has opened none but this one has an end
  pub alone : (k : SocketId) → has_opened (journal_of b.journal) k ≡ true → is_among k (ids_of (ends_of_all h.records)) ≡ true → is_among k (ids_of (ends_of a)) ≡ true
  alone k o among =
      let its = has_one (ends_of_all h.records) k among in
      let held = held_by h.records k its.end its.at in
      let back : peer_of b ≡ h.port.at = address x run i h (peer_of b) t.near (ap (slice_get x.fabric.nodes) (sym t.b_towards) ∙ (node.is_at x.fabric.nodes j g there b t.theirs).peer) in
      let goes : goes_to h.port.at k ≡ true = ap (λ p. goes_to p k) (sym back) ∙ node.opened_goes x.fabric.nodes j g there b t.theirs k o in
      let same : held.side ≡ a =
      asker_is k held.side held.there (node.end_asked x.fabric.nodes i h here held.side held.there k its.end held.end goes) (node.opened_comes x.fabric.nodes j g there b t.theirs k o) in
      ap (λ (r : RecordNow). is_among k (ids_of (ends_of r))) (sym same) ∙ end_among (ends_of held.side) k its.end held.end
