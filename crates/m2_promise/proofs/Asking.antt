-- Where a node acts, each ask that its records judge came on a socket from the record's peer.
use Rattle.std.proofs.Common.{◌≡◌, ℕ, true, false, List, [], ◌∷◌, ◌++◌, length, drop, map, Option, Some, None, refl, sym, ap, subst, ◌∙◌, ◌⊎◌, inl, inr}
use Rattle.std.specs.Prelude.{IfSome, IsSome}
use Rattle.std.specs.List.{AllByRecursion}
use Rattle.std.proofs.Math.Seq.{drop-append_seam}
use Rattle.std.proofs.lemmas.List.{map-append}
use Rattle.std.proofs.lemmas.List.Elements.{filter_map-append}
use Rattle.m2_fabric.specs.m2_addr.declared.addr.Addr.{Addr}
use Rattle.m2_links_go_on.specs.m2_growth.AskLaws.{ArePut, ArrivalsAreTheOpeners}
use Rattle.m2_fabric.specs.declared.socket.SocketId.{SocketId}
use Rattle.m2_fabric.specs.End.{SeenEnd}
use Rattle.m2_fabric.specs.Sockets.{goes_to, is_among}
use Rattle.m2_links_go_on.specs.m2_growth.Ends.{come_to}
use Rattle.m2_links_go_on.specs.m2_growth.Halves.{AreAskedByPeers, IsAskedByPeer, IsOneOf, asked_on, judged_since}
use Rattle.m2_links_go_on.specs.m2_growth.Holding.{Holding, all_ends}
use Rattle.m2_links_go_on.specs.m2_growth.Records.{RecordGrows, RecordsGrow}
use Rattle.m2_links_go_on.proofs.m2_growth.Among.{of_each, whose}
use Rattle.m2_links_go_on.specs.m2_weave.m2_handshake.declared.ask.Ask.{Ask}
use Rattle.m2_links_go_on.specs.m2_weave.m2_journal.declared.entry.Entry.{Entry}
use Rattle.m2_links_go_on.specs.m2_weave.m2_journal.State.{Judgement}
use Rattle.m2_links_go_on.specs.m2_weave.m2_journal.SideFacts.{SideFacts}
use Rattle.m2_script.specs.m2_record.RecordNow.{RecordNow}
use Rattle.m2_script.specs.m2_record.Sources.{end_at, put_of}
use Rattle.m2_script.specs.m2_record.TakenTrails.{judgement_of, judgements_in}
use Rattle.m2_fabric.specs.Kept.{is_kept}
use Rattle.m2_fabric.specs.Meeting.{comes_from}
use Rattle.m2_script.specs.m2_center.m2_turn.Sessions.{peer_of}
use Rattle.m2_lives.specs.m2_bytes_fit.m2_trail.Asks.{IsMain}
use Rattle.m2_links_go_on.specs.m2_weave.Later.{GoesOn}
use Rattle.m2_promise.specs.Running.{HasAskedPeer, IsNodeAt, IsRunning, NodeActs, RunNow}
use Rattle.m2_promise.proofs.BothEnds.{IsCome, address, came_first, come, holds, in_memory}
use Rattle.m2_promise.proofs.Openers.{HasEnd, asked_end, asked_goes, is_at, is_record}
use Rattle.m2_fabric.proofs.Sockets.{among_part}
use Rattle.m2_fabric.proofs.m2_lemmas.Booleans.{false_isnt_true}

-- ---- records one after the other

abbrev sockets : List Judgement → List SocketId
sockets js = map (λ (j : Judgement). j.socket) js

asked_parts : (r s : RecordNow) → RecordGrows r s → asked_on s ≡ asked_on r ++ sockets (judged_since r s)
asked_parts r s g =
    let more : List Entry = g.journal.0 in
    let since : drop (length r.journal) s.journal ≡ more = ap (drop (length r.journal)) g.journal.1 ∙ drop-append_seam r.journal more in
    ap (λ l. sockets (judgements_in l)) g.journal.1 ∙ ap sockets (filter_map-append judgement_of r.journal more)
    ∙ map-append (λ (j : Judgement). j.socket) (judgements_in r.journal) (judgements_in more) ∙ ap (λ l. asked_on r ++ sockets (judgements_in l)) (sym since)

-- what each further judgement tells
abbrev IsOfPeer : (ends now : List SeenEnd) → RecordNow → Type 0
IsOfPeer ends now s = (j : Judgement) → is_among j.socket (asked_on s) ≡ true → IsAskedByPeer ends now s j → comes_from j.socket (Some (peer_of s)) ≡ true

one_asked : (ends now : List SeenEnd) (r s : RecordNow) → RecordGrows r s → HasAskedPeer r → AllByRecursion (IsAskedByPeer ends now s) (judged_since r s) → IsOfPeer ends now s → HasAskedPeer s
one_asked ends now r s g was all of_peer k a = by (among_part k (asked_on r) (sockets (judged_since r s)) (ap (is_among k) (sym (asked_parts r s g)) ∙ a))
  where
    by : (is_among k (asked_on r) ≡ true) ⊎ (is_among k (sockets (judged_since r s)) ≡ true) → comes_from k (Some (peer_of s)) ≡ true
    by (inl before) = ap (λ (f : SideFacts). comes_from k (Some f.peer)) g.facts ∙ was k before
    by (inr since) =
        let j = whose (λ (j : Judgement). j.socket) k (judged_since r s) since in
        ap (λ l. comes_from l (Some (peer_of s))) j.is ∙ of_peer j.item (ap (λ l. is_among l (asked_on s)) (sym j.is) ∙ a) (of_each (IsAskedByPeer ends now s) j.item (judged_since r s) all j.there)

pub all_asked : (ends now : List SeenEnd) (rs ss : List RecordNow) → RecordsGrow rs ss → AllByRecursion HasAskedPeer rs → AreAskedByPeers ends now rs ss → ((s : RecordNow) → IsOneOf s ss → IsOfPeer ends now s) →
    AllByRecursion HasAskedPeer ss
all_asked ends now [] [] g was all of_peer = tt
all_asked ends now [] (s ∷ ss) g was all of_peer = absurd g
all_asked ends now (r ∷ rs) [] g was all of_peer = tt
all_asked ends now (r ∷ rs) (s ∷ ss) g was all of_peer =
    (one_asked ends now r s g.0 was.0 all.0 (of_peer s (inl refl)), all_asked ends now rs ss g.1 was.1 all.1 (λ t i. of_peer t (inr i)))

-- ---- the node that acts

same_main : (o : Option Ask) (ask : Ask) (a b : Addr) → o ≡ Some ask → IfSome o (λ x. IsMain x a) → IfSome o (λ x. IsMain x b) → a ≡ b
same_main None ask a b h p q = absurd cc
same_main (Some x) ask a b h p q = cc

module _ (i : ℕ) (old new : RunNow) (openers : ArrivalsAreTheOpeners) (run : IsRunning old) (acts : NodeActs i old new) where
  abbrev before : Holding
  before = acts.before

  abbrev behind : Holding
  behind = acts.behind

  -- of a socket that goes there, what is there was there before
  pub was_there : (k : SocketId) → goes_to behind.port.at k ≡ true → HasEnd behind k → HasEnd before k
  was_there k goes now = by (end_at (all_ends before) k) refl
    where
      by : (o : Option SeenEnd) → end_at (all_ends before) k ≡ o → HasEnd before k
      by (Some e) is = record { end = e; at = is }
      by None is =
          let away : goes_to before.port.at k ≡ false = acts.there k is (subst (λ o. IsSome o) (sym now.at) refl) in
          absurd (false_isnt_true (sym away ∙ ap (λ a. goes_to a k) (sym acts.grows.grows.at) ∙ goes))

  pub came_of_peer : (s : RecordNow) → IsOneOf s behind.records → IsOfPeer (all_ends before) (all_ends behind) s
  came_of_peer s one j a asked = subst (λ x. comes_from k (Some x) ≡ true) (sym peer_is ∙ mains) c.comes
    where
      k : SocketId
      k = j.socket

      goes : goes_to behind.port.at j.socket ≡ true
      goes = asked_goes new.fabric.nodes i behind acts.node s one j.socket a

      its : HasEnd before j.socket
      its = was_there j.socket goes (asked_end new.fabric.nodes i behind acts.node s one j.socket a)

      goes_there : goes_to before.port.at j.socket ≡ true
      goes_there = ap (λ x. goes_to x j.socket) (sym acts.grows.grows.at) ∙ goes

      kept : is_kept j.socket old.fabric.pairs ≡ true
      kept = run.between.arrived i before acts.was j.socket goes_there (subst (λ o. IsSome o) (sym its.at) refl)

      c : IsCome old j.socket its.end
      c = come old run i before acts.was j.socket kept its.end its.at goes_there

      near_node : IsNodeAt old.fabric.nodes c.from c.near
      near_node = run.nodes c.from c.near c.there

      b : RecordNow
      b = c.opener.side

      memory : IsSome (come_to its.end)
      memory = in_memory (old.holder.ends i j.socket) (new.holder.ends i j.socket) its.end (acts.ends.ends i j.socket) (acts.ends.memory i j.socket) (holds old run i before j.socket its.end acts.was its.at)

      come_same : come_to asked.arrival.end ≡ come_to its.end
      come_same = subst (λ o. IfSome o (λ e. come_to asked.arrival.end ≡ come_to e)) its.at asked.come

      put : GoesOn asked.arrival.end.log.got c.end.log.put
      put = came_first asked.arrival.end its.end c.end.log.put come_same memory c.came

      are_put : ArePut c.opener.side j.socket asked.arrival.end.log.got
      are_put = subst (λ o. GoesOn asked.arrival.end.log.got (put_of o)) (sym c.opener.end) put

      mains : c.opener.side.core.facts.mine ≡ peer_of s
      mains =
          same_main asked.arrival.ask asked.arrived.ask c.opener.side.core.facts.mine (peer_of s) asked.arrived.in_hand
          (openers c.opener.side j.socket asked.arrival (is_record old.fabric.nodes c.from c.near near_node c.opener.side c.opener.there)
          (is_at old.fabric.nodes c.from c.near near_node c.opener.side c.opener.there).ranges c.opener.opened asked.arrived are_put) asked.main

      peer_is : c.opener.side.core.facts.mine ≡ c.near.port.at
      peer_is = address old run c.from c.near c.opener.side.core.facts.mine c.there (is_at old.fabric.nodes c.from c.near near_node c.opener.side c.opener.there).mine

  pub still_asked : AllByRecursion HasAskedPeer behind.records
  still_asked = all_asked (all_ends before) (all_ends behind) before.records behind.records acts.grows.grows.records (run.asked i before acts.was) acts.grows.grows.asked came_of_peer
