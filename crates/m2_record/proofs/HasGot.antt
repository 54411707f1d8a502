-- A feed's end is read once, and an answer that is completed so is taken.
use Rattle.std.specs.Prelude.{◌⊎◌}
use Rattle.std.specs.Option.{is_some, option_to_list}
use Rattle.std.proofs.Common.{◌≡◌, ℕ, ◌+◌, ◌<◌, ◌≤◌, ◌==◌, not, if◌then◌else◌, Bool, true, false, List, [], ◌∷◌, ◌++◌, map, option_map, take, drop, length, Option, Some, None, inl, inr, refl, sym, ap, subst, ◌∙◌, arith}
use Rattle.std.proofs.Math.Seq.{drop-append_seam, take-length}
use Rattle.std.proofs.lemmas.Bool.Decides.{nat_tests}
use Rattle.std.proofs.lemmas.List.{append-nil}
use Rattle.std.specs.List.{AllByRecursion}
use Rattle.m2_core.specs.LiveNow as live
use Rattle.m2_core.specs.LiveNow.{LiveNow, OnFeedNow}
use Rattle.m2_core.specs.Effects.{closed_if, tells}
use Rattle.m2_core.specs.OnFeed.{PassesFeed, ReadsFeed}
use Rattle.m2_core.specs.LiveCalls.{live_with, tells_if}
use Rattle.m2_core.specs.LiveHearing.{TakesAnswer, resumed_by_answer}
use Rattle.m2_core.specs.Waits.{IsWithin}
use Rattle.m2_core.specs.declared.waits.Waits.{Waits}
use Rattle.m2_core.specs.Agrees.{Agrees, FeedsAgree, LeadsOn, MayCome, Stays}
use Rattle.m2_core.specs.CoreNow.{CoreNow}
use Rattle.m2_core.specs.Hearing.{HasRead, Heeds, IsFaultHeard, IsRead, IsReadEntry, ReadNow, effects_heard, heard_after}
use Rattle.m2_dispatch.specs.Parcel.{IsOwned}
use Rattle.m2_fabric.specs.m2_edge.Faults.{HasRisen}
use Rattle.m2_fabric.specs.declared.end.EndRead.{EndRead}
use Rattle.m2_fabric.specs.declared.end.EndRead.TheVariants as read
use Rattle.m2_fabric.specs.declared.log.Run.TheVariants as run
use Rattle.m2_fabric.specs.declared.socket.SocketId.{SocketId}
use Rattle.m2_fabric.specs.End.{SeenEnd, with_read}
use Rattle.m2_fabric.specs.Sockets.{IsNewTo, is_among, same_socket}
use Rattle.m2_feed.specs.Calls.{ReadsOn}
use Rattle.m2_feed.specs.FeedNow.{FeedNow}
use Rattle.m2_handshake.specs.Course as hand
use Rattle.m2_handshake.specs.Course.{Course, course_of}
use Rattle.m2_handshake.specs.Moves.{is_authed}
use Rattle.m2_handshake.specs.Standing.{Standing, fed}
use Rattle.m2_handshake.specs.m2_control.declared.control.Control.TheVariants as control
use Rattle.m2_feed.specs.declared.wire_fault.WireFault.{WireFault}
use Rattle.m2_feed.specs.declared.answer_fault.AnswerFault.TheVariants as refusal
use Rattle.m2_feed.specs.declared.heard.Heard.{Heard}
use Rattle.m2_feed.specs.declared.heard.Heard.TheVariants as heard
use Rattle.m2_feed.specs.Heard.{event_of}
use Rattle.m2_journal.specs.declared.entry.Entry.{Entry}
use Rattle.m2_journal.specs.declared.entry.Entry.TheVariants as entry
use Rattle.m2_journal.specs.declared.facts.NodeFacts.{NodeFacts}
use Rattle.m2_journal.specs.Feeds.{answer_said, goes_on, greets, hears, hears_at, signs, split_into}
use Rattle.m2_journal.specs.Items as item
use Rattle.m2_journal.specs.Items.{item_of, reach_of}
use Rattle.m2_journal.specs.Lawful.{Lawful}
use Rattle.m2_journal.specs.Plan.{Planned, planned}
use Rattle.m2_journal.specs.Replay.{IsReplay}
use Rattle.m2_journal.specs.Said.{Said, says, split}
use Rattle.m2_journal.specs.SideFacts.{SideFacts}
use Rattle.m2_journal.specs.State.{Feed, State}
use Rattle.m2_journal.specs.Steps as journal
use Rattle.m2_journal.specs.Steps.{after, answer_event, event_heard, is_agreed}
use Rattle.m2_journal.proofs.Growing.{one_more}
use Rattle.m2_session.specs.declared.event.Event.{Event}
use Rattle.m2_trail.specs.Trails.{TrailNow}
use Rattle.m2_session.specs.declared.event.Event.TheVariants as event
use Rattle.m2_session.specs.declared.session.Phase.{Phase}
use Rattle.m2_session.specs.declared.session.Phase.TheVariants.{IdentSent, ReconnectSent}
use Rattle.m2_session.specs.declared.session.Session.{Session}
use Rattle.m2_record.specs.Calls.{BytesAreBroken, FitsClosing, HasRoomFor, HasRoomToClose, IsBrokenFor, KeepsEnds, Owns, closed_entries}
use Rattle.m2_record.specs.Entered.{AreSettled, HaveRead}
use Rattle.m2_record.specs.IsRecord.{FeedHasRoom, FeedIsOpen, FeedIsWhole, FitFrames, IsOpenAmong, IsRecord, IsReplayedTo, IsWellKept, closed_in, feeds_in}
use Rattle.m2_record.specs.Reading.{FitsAnswer, IsReadCounted, ReadsFeedOnce, entries_read, fault_by, fault_heard, held_read, read_entries, waits_read, moment_read}
use Rattle.m2_record.specs.RecordNow.{RecordNow, Rooms, feed_end, ids_of}
use Rattle.m2_record.specs.Sources.{broken_of, end_at, is_broken_end, log_at, put_of, read_before, runs_before, sources_of, trail_at, written_before}
use Rattle.m2_record.specs.TakenTrails.{HaveTrails}
use Rattle.m2_record.proofs.Entering.{reach-more, read-continues, read-covers}
use Rattle.m2_record.proofs.FeedLeft.{KeepsRoom, SpentIs, closed-left, closes-entries, ends-left, open-left, room-left}
use Rattle.m2_record.proofs.Going.{keeps-room}
use Rattle.m2_record.proofs.HasPut.{same-ids, src, stayed, unclosed-one}
use Rattle.m2_record.proofs.Keeping.{as-planned, ground, replay-stays, settled}
use Rattle.m2_record.proofs.Kept.{feeds-more, ids-left, stepped-within, tells-fits, whole-left}
use Rattle.m2_record.proofs.Opens.{closed-more}
use Rattle.m2_record.proofs.Owning.{tells-owned}
use Rattle.m2_record.proofs.Standing.{SameEnd, same-feed_end, same-held, same-open, same-room, same-whole}
use Rattle.m2_record.proofs.Telling.{Beside, beside, feed_left}
use Rattle.m2_record.proofs.Trailing as trailing
use Rattle.m2_record.proofs.Trailing.{LogGoesOn, closed-behind, ends-go-on, first-goes-on, first-here, prefix-same, runs-more, trail-there, trails-go-on, trails-more, unread-stays}
use Rattle.m2_shared.specs.Gates.{AreHeld, Places}
use Rattle.m2_bytes.proofs.m2_lemmas.Booleans.{or_right, false_isnt_true}
use Rattle.m2_fabric.proofs.Sockets.{same_refl}

-- ---- what it leaves of a state

-- what an answer tells the session
abbrev IsAnswer : Option Event → Type 0
IsAnswer None = Unit {0}
IsAnswer (Some (event.GotServerIdent cookie global)) = Unit {0}
IsAnswer (Some event.GotReconnectOk) = Unit {0}
IsAnswer (Some (event.GotRetry number)) = Unit {0}
IsAnswer (Some (event.GotRetryGlobal number)) = Unit {0}
IsAnswer (Some event.GotWait) = Unit {0}
IsAnswer (Some _) = ⊥

answer-if : (b : Bool) (cookie global : ℕ) → IsAnswer (if b then Some (event.GotServerIdent cookie global) else None)
answer-if true cookie global = tt
answer-if false cookie global = tt

is-answer : (f : SideFacts) (p : Phase) (x : Option Said) → IsAnswer (answer_event f p x)
is-answer f IdentSent (Some (says (control.ServerIdent i))) = answer-if (is_agreed f i) i.cookie i.global
is-answer f IdentSent (Some (says (control.Wait p))) = tt
is-answer f ReconnectSent (Some (says (control.SessionReconnectOk p))) = tt
is-answer f ReconnectSent (Some (says (control.SessionRetry p))) = tt
is-answer f ReconnectSent (Some (says (control.SessionRetryGlobal p))) = tt
is-answer f ReconnectSent (Some (says (control.Wait p))) = tt
is-answer f _ _ = tt

-- there is a feed still; or it is left, and its socket is spent. All else beside a core stays.
abbrev Leaves : SocketId → State → State → Type 0
Leaves k s t = ((d : Feed) × (t.feed ≡ Some d) × (beside t ≡ beside s)) ⊎ ((t.feed ≡ None) × (beside t ≡ record (beside s) { spent = s.spent ++ k ∷ [] }))

heeding : (e : Option Event) (d : Feed) (s : State) → IsAnswer e → Leaves d.socket s (journal.heeds e d s)
heeding None d s h = inl (_, refl, refl)
heeding (Some (event.GotServerIdent cookie global)) d s h = inl (_, refl, refl)
heeding (Some event.GotReconnectOk) d s h = inl (_, refl, refl)
heeding (Some (event.GotRetry number)) d s h = inl (_, refl, refl)
heeding (Some (event.GotRetryGlobal number)) d s h = inl (_, refl, refl)
heeding (Some event.GotWait) d s h = inr (refl, refl)
heeding (Some _) d s h = absurd h

signs-socket : (s : Standing) (d : Feed) → (signs s d).socket ≡ d.socket
signs-socket s d = at (is_authed s.stage)
  where
    at : (b : Bool) → (if b then split_into (split s.rest) (record d { hand = None }) else record d { hand = Some s }).socket ≡ d.socket
    at true = refl
    at false = refl

goes-socket : (c : Course) (d : Feed) → (goes_on c d).socket ≡ d.socket
goes-socket c d = signs-socket c.standing (record d { texts = greets (hand.text_of c.events) d.texts })

heard-socket : (o : Option Standing) (bytes : List ℕ) (d : Feed) → (hears_at o bytes d).socket ≡ d.socket
heard-socket (Some s) bytes d = goes-socket (course_of (fed s bytes) []) d
heard-socket None bytes d = refl

reading : (f : SideFacts) (k : SocketId) (bytes : List ℕ) (d : Feed) (s : State) → s.feed ≡ Some d → Leaves d.socket s (after f (item.read k bytes) s)
reading f k bytes d s e = subst (λ (o : Option Feed). Leaves d.socket s (journal.on_feed_at o (λ x. journal.reads f (hears bytes x)) s)) (sym e)
    (subst (λ (n : SocketId). Leaves n s (journal.reads f (hears bytes d) s)) (heard-socket d.hand bytes d)
    (heeding (event_heard f s.session.phase (hears bytes d)) (hears bytes d) s (is-answer f s.session.phase (answer_said (hears bytes d)))))

-- ---- what is heard leaves of a core

-- whether the step that is told of it closes the feed
abbrev pub closes_heard : Option Heard → Session → Bool
closes_heard o s = (effects_heard o s).close

answered : (mid : FeedNow) (x y : Option FeedNow) → PassesFeed (Some mid) x → y ≡ x → SameEnd (Some mid) y
answered mid (Some p) y w e = subst (SameEnd (Some mid)) (sym e) (ap (λ (z : FeedNow). z.end) w.1)
answered mid None y w e = absurd w

-- the feed is left, or has its end still
heard-feed : (o : Option Heard) (l new : LiveNow) (mid : FeedNow) → Heeds o (live_with (Some mid) l) new → SameEnd (feed_left (closes_heard o l.session) (Some mid)) new.feed
heard-feed None l new mid w = subst (λ (z : LiveNow). SameEnd (Some mid) z.feed) (sym w) refl
heard-feed (Some (heard.Reset full)) l new mid w = subst (λ (z : LiveNow). SameEnd (Some mid) z.feed) (sym w) refl
heard-feed (Some (heard.Refused e)) l new mid w = subst (λ (z : LiveNow). SameEnd (Some mid) z.feed) (sym w) refl
heard-feed (Some (heard.ServerIdent cookie global)) l new mid w = answered mid w.passed new.feed w.passes (ap (λ (z : LiveNow). z.feed) w.live)
heard-feed (Some (heard.ReconnectOk seen)) l new mid w = answered mid w.passed new.feed w.passes (ap (λ (z : LiveNow). z.feed) w.live)
heard-feed (Some (heard.Retry number)) l new mid w = answered mid w.passed new.feed w.passes (ap (λ (z : LiveNow). z.feed) w.live)
heard-feed (Some (heard.RetryGlobal number)) l new mid w = answered mid w.passed new.feed w.passes (ap (λ (z : LiveNow). z.feed) w.live)
heard-feed (Some heard.Wait) l new mid w = subst (SameEnd None) (sym (ap (λ (z : LiveNow). z.feed) w.live)) tt

-- what each step of the session keeps, whatever the feed is, is kept where something is heard
module _ (P : LiveNow → Type 0) (told : (e : Event) (l : LiveNow) → P l → P (tells e l)) (moved : (x : Option FeedNow) (n : ℕ) (l : LiveNow) → P l → P (record l { feed = x; resumed = n })) where
  told-if : (e : Option Event) (l : LiveNow) → P l → P (tells_if e l)
  told-if (Some e) l h = told e l h
  told-if None l h = h

  taken : (h : Heard) (l new : LiveNow) → TakesAnswer h l new → P l → P new
  taken h l new w p = subst P (sym w.live) (told-if (event_of h) (record l { feed = w.passed; resumed = resumed_by_answer h l.resumed }) (moved w.passed (resumed_by_answer h l.resumed) l p))

  heeded : (o : Option Heard) (l new : LiveNow) → Heeds o l new → P l → P new
  heeded None l new w p = subst P (sym w) p
  heeded (Some (heard.Reset full)) l new w p = subst P (sym w) p
  heeded (Some (heard.Refused e)) l new w p = subst P (sym w) p
  heeded (Some (heard.ServerIdent cookie global)) l new w p = taken _ l new w p
  heeded (Some (heard.ReconnectOk seen)) l new w p = taken _ l new w p
  heeded (Some (heard.Retry number)) l new w p = taken _ l new w p
  heeded (Some (heard.RetryGlobal number)) l new w p = taken _ l new w p
  heeded (Some heard.Wait) l new w p = taken _ l new w p

heard-fits : (o : Option Heard) (l new : LiveNow) → Heeds o l new → FitFrames l.out.queue → FitFrames new.out.queue
heard-fits o l new w h = heeded (λ (z : LiveNow). FitFrames z.out.queue) tells-fits (λ x n z p. p) o l new w h

heard-owned : (place : Places) (o : Option Heard) (l new : LiveNow) → Heeds o l new → AreHeld place l.granted → AreHeld place new.granted
heard-owned place o l new w h = heeded (λ (z : LiveNow). AreHeld place z.granted) (λ e z p. tells-owned e place z p) (λ x n z p. p) o l new w h

-- ---- what it leaves of the ends

-- an end that has read these bytes at once
pub record HasReadBytes (bytes : List ℕ) (e f : SeenEnd) : Type 0 where
  pub id : f.id ≡ e.id
  pub got : f.log.got ≡ e.log.got ++ bytes
  pub put : f.log.put ≡ e.log.put
  pub runs : f.log.runs ≡ e.log.runs ++ run.Read (length bytes) ∷ []
  pub closed : f.log.closed ≡ e.log.closed
  pub blocked : f.log.blocked ≡ e.log.blocked

-- the log goes on
pub read-goes-on : (bytes : List ℕ) (e f : SeenEnd) → HasReadBytes bytes e f → LogGoesOn e.log f.log
read-goes-on bytes e f x = record { got = (bytes, x.got); put = prefix-same e.log.put f.log.put x.put; runs = (run.Read (length bytes) ∷ [], x.runs) }

module _ (plan : List Planned) (e f : SeenEnd) (spent : List SeenEnd) (trails : List TrailNow) (all : (k : SocketId) → trailing.Beside (trail_at trails k) (log_at (e ∷ spent) k)) (bytes : List ℕ) (x : HasReadBytes bytes e f) where
  first-beside : trailing.Beside (trail_at trails e.id) e.log
  first-beside = first-here e spent (trail_at trails e.id) (all e.id)

  put-at : (k : SocketId) (b : Bool) → same_socket k e.id ≡ b → put_of (end_at (f ∷ spent) k) ≡ put_of (end_at (e ∷ spent) k)
  put-at k true g = rw (x.id, g) x.put
  put-at k false g = rw (x.id, g) refl

  got-more : HaveRead e.id bytes (src plan e spent trails) (src plan f spent trails)
  got-more = record {
    plan = as-planned plan;
    got = rw (x.id, same_refl e.id) (ap (drop (read_before (trail_at trails e.id))) x.got ∙ trailing.got-more (trail_at trails e.id) e.log bytes first-beside);
    runs = rw (x.id, same_refl e.id) (ap (drop (runs_before (trail_at trails e.id))) x.runs ∙ runs-more (trail_at trails e.id) e.log (run.Read (length bytes) ∷ []) first-beside);
    other_got = λ k g. rw (x.id, g) refl;
    put = λ k. ap (drop (written_before (trail_at trails k))) (put-at k (same_socket k e.id) refl);
    other_runs = λ k g. rw (x.id, g) refl;
  }

  module _ (journal : List Entry) (unclosed : IsNewTo (closed_in journal) e.id) where
    broken-at : (k : SocketId) → is_among k (closed_in journal) ≡ true → (b : Bool) → same_socket k e.id ≡ b → broken_of (end_at (f ∷ spent) k) ≡ broken_of (end_at (e ∷ spent) k)
    broken-at k c true g = unclosed-one journal k e.id _ unclosed c g
    broken-at k c false g = rw (x.id, g) refl

    all-settled : AreSettled (src plan e spent trails) (src plan f spent trails) journal
    all-settled = settled (src plan e spent trails) (src plan f spent trails) journal (λ k c. broken-at k c (same_socket k e.id) refl)
        (λ k. unread-stays (trail_at trails k) (log_at (e ∷ spent) k) (log_at (f ∷ spent) k) (all k) (first-goes-on e f spent x.id (read-goes-on bytes e f x) k)) (λ k. refl)

    module _ (facts : SideFacts) (s : State) (r : IsReplay facts (src plan e spent trails) journal s) where
      item-is : item_of (src plan f spent trails) (reach_of journal) (entry.Read e.id (length bytes)) ≡ item.read e.id bytes
      item-is = ap (item.read e.id)
          (ap (λ m. take (length bytes) (drop m ((src plan f spent trails).got e.id))) (r.covering.read e.id)
          ∙ ap (λ l. take (length bytes) (drop (length ((src plan e spent trails).got e.id)) l)) got-more.got
          ∙ ap (take (length bytes)) (drop-append_seam ((src plan e spent trails).got e.id) bytes)
          ∙ take-length bytes)

      pub got-on : Lawful facts (item.read e.id bytes) s → IsReplay facts (src plan f spent trails) (journal ++ entry.Read e.id (length bytes) ∷ []) (after facts (item.read e.id bytes) s)
      got-on law = subst (λ i. IsReplay facts (src plan f spent trails) (journal ++ entry.Read e.id (length bytes) ∷ []) (after facts i s)) item-is
          (one_more facts (src plan e spent trails) (src plan f spent trails) journal (entry.Read e.id (length bytes)) s r
          (read-continues (src plan e spent trails) (src plan f spent trails) journal e.id bytes r.covering got-more all-settled)
          (read-covers (src plan e spent trails) (src plan f spent trails) journal e.id bytes r.covering got-more)
          (subst (λ i. Lawful facts i s) (sym item-is) law))

-- ---- bytes came

no-none : (d : Feed) → None ≡ Some d → ⊥
no-none d e = cc

-- whether the replay's feed is left is what the core's tells
same-left : (f : SideFacts) (mid : FeedNow) (k : SocketId) (s t : State) (b : Bool) (x : Option FeedNow) (y : Option Feed) → t.feed ≡ y → SameEnd (feed_left b (Some mid)) x → FeedsAgree f t x y → Leaves k s t →
    beside t ≡ (if b then record (beside s) { spent = s.spent ++ k ∷ [] } else beside s)
same-left f mid k s t true None None e left a (inr two) = two.1
same-left f mid k s t true None None e left a (inl one) = absurd (no-none one.0 (sym e ∙ one.1))
same-left f mid k s t true None (Some z) e left a w = absurd a
same-left f mid k s t true (Some v) y e left a w = absurd left
same-left f mid k s t false (Some v) (Some z) e left a (inl one) = one.2
same-left f mid k s t false (Some v) (Some z) e left a (inr two) = absurd (no-none z (sym two.0 ∙ e))
same-left f mid k s t false (Some v) None e left a w = absurd a
same-left f mid k s t false None y e left a w = absurd left

-- what is spent behind it
abbrev spent_by : Bool → SocketId → List SocketId → List SocketId
spent_by b k l = if b then l ++ k ∷ [] else l

spent-more : (b : Bool) (k : SocketId) (s t : State) → beside t ≡ (if b then record (beside s) { spent = s.spent ++ k ∷ [] } else beside s) → beside t ≡ record (beside s) { spent = spent_by b k s.spent }
spent-more true k s t e = e
spent-more false k s t e = e

module _ (r : RecordNow) (s : State) (h : IsReplayedTo s r) (c : CoreNow) (facts : c.facts ≡ r.core.facts) (v mid : FeedNow) (was : r.core.live.feed ≡ Some v) (bytes : List ℕ) (x : HasReadBytes bytes v.end mid.end) (b : Bool)
    (left : SameEnd (feed_left b (Some mid)) c.live.feed) (trails : HaveTrails r.core.facts.node.entity (v.end ∷ r.spent) r.journal r.trails) (may : MayCome (item.read v.end.id bytes) r.core) (leads : LeadsOn (item.read v.end.id bytes) r.core c) where
  abbrev behind : State
  behind = after r.core.facts (item.read v.end.id bytes) s

  abbrev journal1 : List Entry
  journal1 = r.journal ++ entry.Read v.end.id (length bytes) ∷ []

  abbrev spent1 : List SeenEnd
  spent1 = r.spent ++ option_to_list (closed_if b (Some mid))

  there : Agrees c behind
  there = leads s h.core

  before : IsReplay r.core.facts (src (map planned r.plan) v.end r.spent r.trails) r.journal s
  before = subst (λ (o : Option FeedNow). IsReplay r.core.facts (sources_of (ground (map planned r.plan) (feed_end o ++ r.spent) r.trails)) r.journal s) was h.replay

  open-before : IsOpenAmong r.spent r.journal v.end.id
  open-before = subst (FeedIsOpen r.spent r.journal) was h.feed

  open-behind : IsOpenAmong r.spent journal1 mid.end.id
  open-behind = record {
    unspent = subst (IsNewTo (ids_of r.spent)) (sym x.id) open-before.unspent;
    unclosed = subst (λ (l : List SocketId). IsNewTo l mid.end.id) (sym (closed-more r.journal (entry.Read v.end.id (length bytes)) refl)) (subst (IsNewTo (closed_in r.journal)) (sym x.id) open-before.unclosed);
  }

  told-at : (y : Option Feed) → s.feed ≡ y → FeedsAgree r.core.facts s (Some v) y → beside behind ≡ record (beside s) { spent = spent_by b v.end.id s.spent }
  told-at (Some d) e a = spent-more b v.end.id s behind (same-left c.facts mid v.end.id s behind b c.live.feed behind.feed refl left there.feed
      (subst (λ (k : SocketId). Leaves k s behind) (sym a.socket) (reading r.core.facts v.end.id bytes d s e)))
  told-at None e a = absurd a

  told : beside behind ≡ record (beside s) { spent = spent_by b v.end.id s.spent }
  told = told-at s.feed refl (subst (λ (o : Option FeedNow). FeedsAgree r.core.facts s o s.feed) was h.core.feed)

  -- the ends as they are behind it
  moved : (t : State) → IsReplay r.core.facts (sources_of (ground (map planned r.plan) (feed_end (feed_left b (Some mid)) ++ spent1) r.trails)) journal1 t →
      IsReplay c.facts (sources_of (ground (map planned r.plan) (feed_end c.live.feed ++ spent1) r.trails)) journal1 t
  moved t p = subst (λ (f : SideFacts). IsReplay f (sources_of (ground (map planned r.plan) (feed_end c.live.feed ++ spent1) r.trails)) journal1 t) (sym facts)
      (subst (λ (l : List SeenEnd). IsReplay r.core.facts (sources_of (ground (map planned r.plan) (l ++ spent1) r.trails)) journal1 t) (sym (same-feed_end (feed_left b (Some mid)) c.live.feed left)) p)

  -- the trails beside them
  trails-moved : HaveTrails c.facts.node.entity (feed_end c.live.feed ++ spent1) journal1 r.trails
  trails-moved = subst (λ (f : SideFacts). HaveTrails f.node.entity (feed_end c.live.feed ++ spent1) journal1 r.trails) (sym facts)
      (subst (λ (l : List SeenEnd). HaveTrails r.core.facts.node.entity (l ++ spent1) journal1 r.trails) (sym (same-feed_end (feed_left b (Some mid)) c.live.feed left))
      (trails-go-on r.core.facts.node.entity (mid.end ∷ r.spent) (feed_end (feed_left b (Some mid)) ++ spent1) journal1 r.trails
      (ends-go-on journal1 (mid.end ∷ r.spent) (feed_end (feed_left b (Some mid)) ++ spent1) (ends-left b (Some mid) r.spent journal1 open-behind))
      (trails-more r.core.facts.node.entity (v.end ∷ r.spent) (mid.end ∷ r.spent) r.journal (entry.Read v.end.id (length bytes)) r.trails (first-goes-on v.end mid.end r.spent x.id (read-goes-on bytes v.end mid.end x)) refl trails)))

  module _ (waits : Waits) (held : Bool) (last : ℕ) (room : Rooms) where
    abbrev between : RecordNow
    between = record r { core = c; journal = journal1; spent = spent1; waits = waits; held = held; last = last; room = room }

    has-got : KeepsRoom b r.room.ends room.ends → IsReplayedTo behind between
    has-got keeps = record {
      replay = moved behind (replay-stays journal1 (map planned r.plan) (map planned r.plan) (mid.end ∷ r.spent) (feed_end (feed_left b (Some mid)) ++ spent1) r.trails (as-planned (map planned r.plan))
          (ends-left b (Some mid) r.spent journal1 open-behind) r.core.facts behind
          (got-on (map planned r.plan) v.end mid.end r.spent r.trails (λ k. trail-there r.core.facts.node.entity (v.end ∷ r.spent) r.journal r.trails k trails) bytes x r.journal open-before.unclosed r.core.facts s before (may s h.core)));
      core = there;
      steps = h.steps ∙ sym (ap (λ (z : Beside). z.steps) told);
      reach = ap (λ p. p.steps) (reach-more r.journal (entry.Read v.end.id (length bytes))) ∙ h.reach ∙ sym (ap (λ (z : Beside). z.steps) told);
      parcels = (h.parcels.0, h.parcels.1, ap (λ (z : Beside). z.deliveries) told ∙ h.parcels.2);
      spent = closed-left b (Some mid) r.spent h.spent;
      feed = same-open spent1 journal1 (feed_left b (Some mid)) c.live.feed left (open-left b (Some mid) r.spent journal1 open-behind);
      room = same-room room.ends (feed_left b (Some mid)) c.live.feed left (room-left b (Some mid) r.room.ends room.ends keeps (subst (FeedHasRoom r.room.ends) was h.room));
      few = h.few;
    }

    held-at : (a : Bool) → a ≡ b → IsWellKept r → held ≡ held_read (read.Got (length bytes)) a r.held → held ≡ true → OnFeedNow (feed_left a (Some mid)) (λ z. z.end.log.blocked ≡ true)
    held-at true e k q g = absurd (false_isnt_true (sym q ∙ g))
    held-at false e k q g = x.blocked ∙ subst (λ (o : Option FeedNow). OnFeedNow o (λ z. z.end.log.blocked ≡ true)) was (k.held (sym q ∙ g))

    kept-got : IsWellKept r → FitFrames c.live.out.queue → IsWithin r.core.facts.node waits → held ≡ held_read (read.Got (length bytes)) b r.held → IsWellKept between
    kept-got k queue within q = record {
      ends = ap (λ (l : List SeenEnd). ids_of (spent1 ++ l)) (same-feed_end (feed_left b (Some mid)) c.live.feed left) ∙ ids-left b (Some mid) r.spent ∙ same-ids r.spent v mid x.id
          ∙ subst (λ (o : Option FeedNow). ids_of (r.spent ++ feed_end o) ≡ feeds_in r.journal) was k.ends ∙ sym (feeds-more r.journal (entry.Read v.end.id (length bytes)) refl);
      whole = same-whole (feed_left b (Some mid)) c.live.feed left (whole-left b (Some mid) (x.closed ∙ subst FeedIsWhole was k.whole));
      parcels = k.parcels;
      plan = k.plan;
      queue = queue;
      waits = subst (λ (f : SideFacts). IsWithin f.node waits) (sym facts) within;
      held = λ g. same-held (feed_left b (Some mid)) c.live.feed left (held-at b refl k q g);
    }

  spent-at : (a : Bool) (y : Option FeedNow) → SameEnd (feed_left a (Some mid)) y → SpentIs (closed_if a (Some mid)) y (spent_by a v.end.id [])
  spent-at true None e = (ap (λ (k : SocketId). k ∷ []) (sym x.id), refl)
  spent-at true (Some w) e = absurd e
  spent-at false y e = refl

  spent-behind : s.spent ≡ [] → SpentIs (closed_if b (Some mid)) c.live.feed behind.spent
  spent-behind none = subst (λ (l : List SocketId). SpentIs (closed_if b (Some mid)) c.live.feed l) (sym (ap (λ (z : Beside). z.spent) told ∙ ap (spent_by b v.end.id) none)) (spent-at b c.live.feed left)

  pub got-record : closed_in r.journal ≡ ids_of r.spent → IsWellKept r → s.spent ≡ [] → FitFrames c.live.out.queue → (waits : Waits) (held : Bool) (last : ℕ) (room : Rooms) → IsWithin r.core.facts.node waits →
      held ≡ held_read (read.Got (length bytes)) b r.held → KeepsRoom b r.room.ends room.ends →
      IsRecord (record r { core = c; journal = journal1 ++ closed_entries (closed_if b (Some mid)); spent = spent1; waits = waits; held = held; last = last; room = room })
  got-record closed k none queue waits held last room within q keeps =
      closes-entries (between waits held last room) behind (closed_if b (Some mid)) (has-got waits held last room keeps) (kept-got waits held last room k queue within q) (spent-behind none)
      (closed-behind journal1 r.spent (closed_if b (Some mid)) (closed-more r.journal (entry.Read v.end.id (length bytes)) refl ∙ closed)) trails-moved

-- ---- by the answer of the end

pub none-heard : (o : Option Heard) (l new : LiveNow) → o ≡ None → Heeds o l new → new ≡ l
none-heard o l new e w = subst (λ z. Heeds z l new) e w

pub none-closed : (o : Option Heard) (s : Session) (closed : Option SeenEnd) (p : Option FeedNow) → o ≡ None → closed ≡ closed_if (closes_heard o s) p → closed ≡ None
none-closed o s closed p e cl = cl ∙ ap (λ (z : Option Heard). closed_if (closes_heard z s) p) e

closed-some : (b : Bool) (mid : FeedNow) → is_some (closed_if b (Some mid)) ≡ b
closed-some true mid = refl
closed-some false mid = refl

-- what the code has made of a record
pub record HasMade (x : ReadNow) (now : ℕ) (r : RecordNow) (v : FeedNow) (new : RecordNow) : Type 0 where
  pub journal_is : new.journal ≡ (r.journal ++ read_entries x.answer (Some v)) ++ closed_entries x.closed
  pub spent_is : new.spent ≡ r.spent ++ option_to_list x.closed
  pub waits_are : new.waits ≡ waits_read x.answer r.core.facts.node now r.core.live.session.phase new.core.live.session.phase r.waits
  pub held_is : new.held ≡ held_read x.answer (is_some x.closed) r.held
  pub last_is : new.last ≡ moment_read x.answer now r.last
  pub ends : KeepsEnds x.closed r.room.ends new.room.ends

-- the record that was read, with this core and these parts
abbrev read_as : EndRead → Option SeenEnd → (now : ℕ) → CoreNow → RecordNow → FeedNow → Rooms → RecordNow
read_as answer closed now c r v room = record r {
  core = c;
  journal = (r.journal ++ read_entries answer (Some v)) ++ closed_entries closed;
  spent = r.spent ++ option_to_list closed;
  waits = waits_read answer r.core.facts.node now r.core.live.session.phase c.live.session.phase r.waits;
  held = held_read answer (is_some closed) r.held;
  last = moment_read answer now r.last;
  room = room;
}

module _ (r : RecordNow) (h : IsRecord r) (c : CoreNow) (facts : c.facts ≡ r.core.facts) (v : FeedNow) (was : r.core.live.feed ≡ Some v) (now : ℕ) (room : Rooms) where
  bytes-of : (n : ℕ) (mid : FeedNow) → ReadsOn (read.Got n) v mid → (e : IsReadEntry n v mid r.core c) → HasReadBytes e.bytes v.end mid.end
  bytes-of n mid w e = record {
    id = ap (λ (z : SeenEnd). z.id) w.hears.reads.2;
    got = e.log;
    put = ap (λ (z : SeenEnd). z.log.put) w.hears.reads.2;
    runs = ap (λ (z : SeenEnd). z.log.runs) w.hears.reads.2 ∙ ap (λ m. v.end.log.runs ++ run.Read m ∷ []) (sym e.count);
    closed = ap (λ (z : SeenEnd). z.log.closed) w.hears.reads.2;
    blocked = ap (λ (z : SeenEnd). z.log.blocked) w.hears.reads.2;
  }

  came : (n : ℕ) (mid : FeedNow) (o : Option Heard) → ReadsOn (read.Got n) v mid → IsReadEntry n v mid r.core c → Heeds o (live_with (Some mid) r.core.live) c.live →
      KeepsRoom (closes_heard o r.core.live.session) r.room.ends room.ends → IsRecord (read_as (read.Got n) (closed_if (closes_heard o r.core.live.session) (Some mid)) now c r v room)
  came n mid o w e heeds keeps =
      let b = closes_heard o r.core.live.session in
      subst (λ m. IsRecord (record r {
        core = c;
        journal = (r.journal ++ entry.Read v.end.id m ∷ []) ++ closed_entries (closed_if b (Some mid));
        spent = r.spent ++ option_to_list (closed_if b (Some mid));
        waits = waits_read (read.Got n) r.core.facts.node now r.core.live.session.phase c.live.session.phase r.waits;
        held = held_read (read.Got n) (is_some (closed_if b (Some mid))) r.held;
        last = now;
        room = room;
      })) e.count
      (got-record r h.state h.at_state c facts v mid was e.bytes (bytes-of n mid w e) b (heard-feed o r.core.live c.live mid heeds)
      (subst (λ (f : Option FeedNow). HaveTrails r.core.facts.node.entity (feed_end f ++ r.spent) r.journal r.trails) was h.trails) e.may e.leads h.closed h.kept h.settled
      (heard-fits o (live_with (Some mid) r.core.live) c.live heeds h.kept.queue) _ _ now room
      (stepped-within r.core.facts.node now r.core.live.session.phase c.live.session.phase r.waits h.kept.waits) (ap (λ a. held_read (read.Got n) a r.held) (closed-some b mid)) keeps)

  -- no byte came: a flag has changed, or nothing
  flagged : (mid : FeedNow) (held : Bool) → c.live ≡ live_with (Some mid) r.core.live → (held ≡ true → mid.end.log.blocked ≡ true) → Stays r.core c → room.ends ≡ r.room.ends →
      mid.end.id ≡ v.end.id → mid.end.log.got ≡ v.end.log.got → mid.end.log.put ≡ v.end.log.put → mid.end.log.runs ≡ v.end.log.runs → mid.end.log.closed ≡ v.end.log.closed →
      IsRecord (record r { core = c; journal = (r.journal ++ []) ++ []; spent = r.spent ++ []; held = held; room = room })
  flagged mid held live blocked stays ends id got put runs closed =
      subst (λ (l : List Entry). IsRecord (record r { core = c; journal = l; spent = r.spent ++ []; held = held; room = room })) (sym (append-nil (r.journal ++ [])))
      (subst (λ (l : List SeenEnd). IsRecord (record r { core = c; journal = r.journal ++ []; spent = l; held = held; room = room })) (sym (append-nil r.spent))
      (stayed r h c facts (ap (λ (z : LiveNow). z.out) live) now room ends v mid held was is kept stays id got put runs))
    where
      is : c.live.feed ≡ Some mid
      is = ap (λ (z : LiveNow). z.feed) live

      kept : IsWellKept (record r { core = c; journal = r.journal ++ []; held = held; room = room })
      kept = record {
        ends = ap (λ (f : Option FeedNow). ids_of (r.spent ++ feed_end f)) is ∙ same-ids r.spent v mid id ∙ subst (λ (o : Option FeedNow). ids_of (r.spent ++ feed_end o) ≡ feeds_in r.journal) was h.kept.ends ∙ sym (ap feeds_in (append-nil r.journal));
        whole = subst FeedIsWhole (sym is) (closed ∙ subst FeedIsWhole was h.kept.whole);
        parcels = h.kept.parcels;
        plan = h.kept.plan;
        queue = subst (λ (y : LiveNow). FitFrames y.out.queue) (sym live) h.kept.queue;
        waits = subst (λ (f : SideFacts). IsWithin f.node r.waits) (sym facts) h.kept.waits;
        held = λ e. subst (λ (f : Option FeedNow). OnFeedNow f (λ z. z.end.log.blocked ≡ true)) (sym is) (blocked e);
      }

  held-before : r.held ≡ true → v.end.log.blocked ≡ true
  held-before e = subst (λ (f : Option FeedNow). OnFeedNow f (λ z. z.end.log.blocked ≡ true)) was (h.kept.held e)

  answered-so : (answer : EndRead) (o : Option Heard) (closed : Option SeenEnd) (p : Option FeedNow) → ReadsFeed answer (Some v) p → IsRead answer (Some v) p r.core c → o ≡ heard_after answer r.core.facts (live_with p r.core.live) →
      Heeds o (live_with p r.core.live) c.live → closed ≡ closed_if (closes_heard o r.core.live.session) p → KeepsEnds closed r.room.ends room.ends → IsRecord (read_as answer closed now c r v room)
  answered-so (read.Got n) o closed (Some mid) w e is heeds cl ends = subst (λ (z : Option SeenEnd). IsRecord (read_as (read.Got n) z now c r v room)) (sym cl)
      (came n mid o w e heeds (keeps-room (closes_heard o r.core.live.session) (Some mid) closed r.room.ends room.ends cl ends))
  answered-so read.NotYet o closed (Some mid) w e is heeds cl ends =
      let none = none-closed o r.core.live.session closed (Some mid) is cl in
      subst (λ (z : Option SeenEnd). IsRecord (read_as read.NotYet z now c r v room)) (sym none)
      (flagged mid false (none-heard o (live_with (Some mid) r.core.live) c.live is heeds) (λ q. absurd (false_isnt_true q)) e (subst (λ (z : Option SeenEnd). KeepsEnds z r.room.ends room.ends) none ends)
      (ap (λ (z : SeenEnd). z.id) w.hears.reads.1) (ap (λ (z : SeenEnd). z.log.got) w.hears.reads.1) (ap (λ (z : SeenEnd). z.log.put) w.hears.reads.1) (ap (λ (z : SeenEnd). z.log.runs) w.hears.reads.1) (ap (λ (z : SeenEnd). z.log.closed) w.hears.reads.1))
  answered-so read.Ended o closed (Some mid) w e is heeds cl ends =
      let none = none-closed o r.core.live.session closed (Some mid) is cl in
      subst (λ (z : Option SeenEnd). IsRecord (read_as read.Ended z now c r v room)) (sym none)
      (flagged mid r.held (none-heard o (live_with (Some mid) r.core.live) c.live is heeds) (λ q. ap (λ (z : SeenEnd). z.log.blocked) w.hears.reads.1 ∙ held-before q) e (subst (λ (z : Option SeenEnd). KeepsEnds z r.room.ends room.ends) none ends)
      (ap (λ (z : SeenEnd). z.id) w.hears.reads.1) (ap (λ (z : SeenEnd). z.log.got) w.hears.reads.1) (ap (λ (z : SeenEnd). z.log.put) w.hears.reads.1) (ap (λ (z : SeenEnd). z.log.runs) w.hears.reads.1) (ap (λ (z : SeenEnd). z.log.closed) w.hears.reads.1))
  answered-so read.Failed o closed (Some mid) w e is heeds cl ends =
      let none = none-closed o r.core.live.session closed (Some mid) is cl in
      subst (λ (z : Option SeenEnd). IsRecord (read_as read.Failed z now c r v room)) (sym none)
      (flagged mid r.held (none-heard o (live_with (Some mid) r.core.live) c.live is heeds) (λ q. ap (λ (z : SeenEnd). z.log.blocked) w.hears.reads.1 ∙ held-before q) e (subst (λ (z : Option SeenEnd). KeepsEnds z r.room.ends room.ends) none ends)
      (ap (λ (z : SeenEnd). z.id) w.hears.reads.1) (ap (λ (z : SeenEnd). z.log.got) w.hears.reads.1) (ap (λ (z : SeenEnd). z.log.put) w.hears.reads.1) (ap (λ (z : SeenEnd). z.log.runs) w.hears.reads.1) (ap (λ (z : SeenEnd). z.log.closed) w.hears.reads.1))
  answered-so read.NoMemory o closed (Some mid) w e is heeds cl ends =
      let none = none-closed o r.core.live.session closed (Some mid) is cl in
      subst (λ (z : Option SeenEnd). IsRecord (read_as read.NoMemory z now c r v room)) (sym none)
      (flagged mid r.held (none-heard o (live_with (Some mid) r.core.live) c.live is heeds) (λ q. ap (λ (z : FeedNow). z.end.log.blocked) w ∙ held-before q) e (subst (λ (z : Option SeenEnd). KeepsEnds z r.room.ends room.ends) none ends)
      (ap (λ (z : FeedNow). z.end.id) w) (ap (λ (z : FeedNow). z.end.log.got) w) (ap (λ (z : FeedNow). z.end.log.put) w) (ap (λ (z : FeedNow). z.end.log.runs) w) (ap (λ (z : FeedNow). z.end.log.closed) w))
  answered-so answer o closed None w e is heeds cl ends = absurd w

  pub was-read : (x : ReadNow) → HasRead x r.core c → KeepsEnds x.closed r.room.ends room.ends → IsRecord (read_as x.answer x.closed now c r v room)
  was-read x w ends = answered-so x.answer x.heard x.closed w.feed (subst (λ (o : Option FeedNow). ReadsFeed x.answer o w.feed) was w.reads) (subst (λ (o : Option FeedNow). IsRead x.answer o w.feed r.core c) was w.entry)
      w.hears w.heeds w.closes ends

-- ---- as the code comes to it

pub read-after : (x : ReadNow) (now : ℕ) (r : RecordNow) (v : FeedNow) (c : CoreNow) (journal : List Entry) (spent : List SeenEnd) (waits : Waits) (held : Bool) (last : ℕ) (room : Rooms) → IsRecord r → HasRead x r.core c → r.core.live.feed ≡ Some v →
    HasMade x now r v (record r { core = c; journal = journal; spent = spent; waits = waits; held = held; last = last; room = room }) →
    IsRecord (record r { core = c; journal = journal; spent = spent; waits = waits; held = held; last = last; room = room })
read-after x now r v c journal spent waits held last room h w was m = rw (m.journal_is, m.spent_is, m.waits_are, m.held_is, m.last_is)
    (was-read r h c (ap (λ (z : CoreNow). z.facts) w.only) v was now room x w m.ends)

-- the same is what the code did
pub read-made : (x : ReadNow) (now : ℕ) (r : RecordNow) (v : FeedNow) (c : CoreNow) (journal : List Entry) (spent : List SeenEnd) (waits : Waits) (held : Bool) (last : ℕ) (room : Rooms) → HasRead x r.core c → r.core.live.feed ≡ Some v →
    HasMade x now r v (record r { core = c; journal = journal; spent = spent; waits = waits; held = held; last = last; room = room }) →
    ReadsFeedOnce (record { answer = x.answer; heard = x.heard }) now r (record r { core = c; journal = journal; spent = spent; waits = waits; held = held; last = last; room = room })
read-made x now r v c journal spent waits held last room w was m = record { closed = x.closed; core = w; only = made }
  where
    made : record r { core = c; journal = journal; spent = spent; waits = waits; held = held; last = last; room = room } ≡ record r {
      core = c;
      journal = (r.journal ++ read_entries x.answer r.core.live.feed) ++ closed_entries x.closed;
      spent = r.spent ++ option_to_list x.closed;
      waits = waits_read x.answer r.core.facts.node now r.core.live.session.phase c.live.session.phase r.waits;
      held = held_read x.answer (is_some x.closed) r.held;
      last = moment_read x.answer now r.last;
      room = room;
    }
    made = rw (m.journal_is, m.spent_is, m.waits_are, m.held_is, m.last_is, was) refl

same-entries : (answer : EndRead) (k : SocketId) (v : FeedNow) → k ≡ v.end.id → entries_read answer k ≡ read_entries answer (Some v)
same-entries (read.Got n) k v e = rw e refl
same-entries read.NotYet k v e = refl
same-entries read.Ended k v e = refl
same-entries read.Failed k v e = refl
same-entries read.NoMemory k v e = refl

pub entered : (answer : EndRead) (k : SocketId) (v : FeedNow) (closed : Option SeenEnd) (old noted new : List Entry) → k ≡ v.end.id → noted ≡ old ++ entries_read answer k → new ≡ noted ++ closed_entries closed → new ≡ (old ++ read_entries answer (Some v)) ++ closed_entries closed
entered answer k v closed old noted new e n m = m ∙ ap (λ (l : List Entry). l ++ closed_entries closed) (n ∙ ap (λ (l : List Entry). old ++ l) (same-entries answer k v e))

-- what the code reads of the core is what it says
pub waited : (answer : EndRead) (f g : NodeFacts) (now : ℕ) (s t p q : Session) (w v : Waits) → v ≡ waits_read answer g now p.phase q.phase w → g ≡ f → p ≡ s → q ≡ t → v ≡ waits_read answer f now s.phase t.phase w
waited answer f g now s t p q w v e a b c = e ∙ rw (a, b, c) refl

pub seen-some : {E : Type 0} (seen : E → SeenEnd) (o : Option E) → is_some (option_map seen o) ≡ is_some o
seen-some seen (Some e) = refl
seen-some seen None = refl

pub kept-held : (answer : EndRead) (some closed held b : Bool) → b ≡ held_read answer some held → some ≡ closed → b ≡ held_read answer closed held
kept-held answer some closed held b e s = e ∙ ap (λ z. held_read answer z held) s

-- an entry can count what a read gives
counted-at : (answer : EndRead) (o p : Option FeedNow) → ReadsFeed answer o p → IsReadCounted answer
counted-at (read.Got n) (Some v) (Some w) x = (let most = x.hears.reads.0.most in omega (arith, most))
counted-at (read.Got n) (Some v) None x = absurd x
counted-at (read.Got n) None p x = absurd x
counted-at read.NotYet o p x = tt
counted-at read.Ended o p x = tt
counted-at read.Failed o p x = tt
counted-at read.NoMemory o p x = tt

pub counted : (x : ReadNow) (b c : CoreNow) → HasRead x b c → IsReadCounted x.answer
counted x b c w = counted-at x.answer b.live.feed w.feed w.reads

-- ---- what a read finds

none-fault : (f : WireFault) → None ≡ Some f → ⊥
none-fault f e = cc

by-faults : (n : ℕ) → 0 < n → not (n == 0) ≡ true
by-faults n h = grind (arith, nat_tests)

ended : (piece : List ℕ) (e f : SeenEnd) → f ≡ with_read read.Ended piece e → is_broken_end f ≡ true
ended piece e f h = subst (λ (z : SeenEnd). is_broken_end z ≡ true) (sym h) refl

failed : (e f : SeenEnd) → HasRisen e.faults f.faults → is_broken_end f ≡ true
failed e f h = or_right f.log.ended (not (f.faults == 0)) (by-faults f.faults (omega (arith, h)))

abbrev IsBrokenOn : RecordNow → Option FeedNow → Type 0
IsBrokenOn r o = OnFeedNow o (λ v. (is_broken_end v.end ≡ true) ⊎ BytesAreBroken r)

-- the feed is that which was read
read-feed : (new : RecordNow) (l : LiveNow) (mid : FeedNow) → new.core.live ≡ live_with (Some mid) l → (is_broken_end mid.end ≡ true) ⊎ BytesAreBroken new → IsBrokenOn new new.core.live.feed
read-feed new l mid e h = subst (λ (z : LiveNow). IsBrokenOn new z.feed) (sym e) h

heard-broken : (o : Option Heard) (mid : FeedNow) (l : LiveNow) (new : RecordNow) → Heeds o (live_with (Some mid) l) new.core.live → IsFaultHeard o new.core → IsBrokenFor (fault_heard o) new
heard-broken None mid l new w fault = tt
heard-broken (Some (heard.Refused (refusal.MissingFeatures bits))) mid l new w fault = read-feed new l mid w (inr (λ s k. fault s k.core))
heard-broken (Some (heard.Refused (refusal.Unexpected tag))) mid l new w fault = tt
heard-broken (Some (heard.Refused (refusal.Control e))) mid l new w fault = tt
heard-broken (Some (heard.Refused (refusal.Half e))) mid l new w fault = tt
heard-broken (Some (heard.Reset full)) mid l new w fault = tt
heard-broken (Some (heard.ServerIdent cookie global)) mid l new w fault = tt
heard-broken (Some (heard.ReconnectOk seen)) mid l new w fault = tt
heard-broken (Some (heard.Retry number)) mid l new w fault = tt
heard-broken (Some (heard.RetryGlobal number)) mid l new w fault = tt
heard-broken (Some heard.Wait) mid l new w fault = tt

broken-by : (answer : EndRead) (o : Option Heard) (y p : Option FeedNow) (f : SideFacts) (l : LiveNow) (new : RecordNow) → ReadsFeed answer y p → o ≡ heard_after answer f (live_with p l) → Heeds o (live_with p l) new.core.live → IsFaultHeard o new.core →
    IsBrokenFor (fault_by answer o) new
broken-by (read.Got n) o (Some v) (Some mid) f l new w is heeds fault = heard-broken o mid l new heeds fault
broken-by read.NotYet o (Some v) (Some mid) f l new w is heeds fault = tt
broken-by read.Ended o (Some v) (Some mid) f l new w is heeds fault =
    read-feed new l mid (none-heard o (live_with (Some mid) l) new.core.live is heeds) (inl (ended w.hears.piece v.end mid.end w.hears.reads.1))
broken-by read.Failed o (Some v) (Some mid) f l new w is heeds fault =
    read-feed new l mid (none-heard o (live_with (Some mid) l) new.core.live is heeds) (inl (failed v.end mid.end w.hears.reads.0.risen))
broken-by read.NoMemory o (Some v) (Some mid) f l new w is heeds fault = tt
broken-by answer o None p f l new w is heeds fault = absurd w
broken-by answer o (Some v) None f l new w is heeds fault = absurd w

pub read-broken : (x : ReadNow) (b : CoreNow) (new : RecordNow) → HasRead x b new.core → IsFaultHeard x.heard new.core → IsBrokenFor (fault_by x.answer x.heard) new
read-broken x b new w fault = broken-by x.answer x.heard b.live.feed w.feed b.facts b.live new w.reads w.hears w.heeds fault

-- where a fault is found no answer has closed the feed
none-left : (o : Option Heard) (s : Session) (f : WireFault) → fault_heard o ≡ Some f → closes_heard o s ≡ false
none-left None s f e = refl
none-left (Some (heard.Refused e)) s f is = refl
none-left (Some (heard.Reset full)) s f e = refl
none-left (Some (heard.ServerIdent cookie global)) s f e = refl
none-left (Some (heard.ReconnectOk seen)) s f e = refl
none-left (Some (heard.Retry number)) s f e = refl
none-left (Some (heard.RetryGlobal number)) s f e = refl
none-left (Some heard.Wait) s f e = absurd (none-fault f e)

left-at : (answer : EndRead) (o : Option Heard) (p : Option FeedNow) (f : SideFacts) (l : LiveNow) (e : WireFault) → o ≡ heard_after answer f (live_with p l) → fault_by answer o ≡ Some e → closes_heard o l.session ≡ false
left-at (read.Got n) o p f l e is h = none-left o l.session e h
left-at read.NotYet o p f l e is h = absurd (none-fault e h)
left-at read.Ended o p f l e is h = ap (λ (z : Option Heard). closes_heard z l.session) is
left-at read.Failed o p f l e is h = ap (λ (z : Option Heard). closes_heard z l.session) is
left-at read.NoMemory o p f l e is h = absurd (none-fault e h)

-- an entry less fits at most
one-less : (closed : Option SeenEnd) (entries noted left : ℕ) → closed ≡ None → 2 ≤ entries → entries ≤ noted + 1 → KeepsEnds closed noted left → 0 < left
one-less closed entries noted left e some more keeps = let same : left ≡ noted = subst (λ (o : Option SeenEnd). KeepsEnds o noted left) e keeps in omega (arith, same, some, more)

fits-at : (o : Option WireFault) (room : Rooms) → ((f : WireFault) → o ≡ Some f → HasRoomToClose room) → FitsClosing o room
fits-at (Some f) room h = h f refl
fits-at None room h = tt

pub read-fits : (x : ReadNow) (b c : CoreNow) (noted : ℕ) (old new : Rooms) → HasRead x b c → HasRoomFor 2 old → old.entries ≤ noted + 1 → KeepsEnds x.closed noted new.entries → new.parcels ≡ old.parcels →
    FitsClosing (fault_by x.answer x.heard) new
read-fits x b c noted old new w room more keeps parcels = fits-at (fault_by x.answer x.heard) new (λ f e. record {
  entries = one-less x.closed old.entries noted new.entries
      (w.closes ∙ ap (λ z. closed_if z w.feed) (left-at x.answer x.heard w.feed b.facts b.live f w.hears e)) room.entries more keeps;
  parcels = subst (λ n. 2 ≤ n) (sym parcels) room.parcels;
})

-- an answer that resumes the session closes nothing, so an entry more fits
pub read-counts : (x : ReadNow) (b c : CoreNow) (noted : ℕ) (old new : Rooms) → HasRead x b c → HasRoomFor 2 old → old.entries ≤ noted + 1 → KeepsEnds x.closed noted new.entries →
    FitsAnswer x.heard new.entries
read-counts x b c noted old new w room more keeps = at x.heard w.closes
  where
    at : (o : Option Heard) → x.closed ≡ closed_if (closes_heard o b.live.session) w.feed → FitsAnswer o new.entries
    at (Some (heard.ReconnectOk seen)) e = one-less x.closed old.entries noted new.entries e room.entries more keeps
    at (Some (heard.ServerIdent cookie global)) e = tt
    at (Some (heard.Retry number)) e = tt
    at (Some (heard.RetryGlobal number)) e = tt
    at (Some (heard.Reset full)) e = tt
    at (Some (heard.Refused f)) e = tt
    at (Some heard.Wait) e = tt
    at None e = tt

-- ---- what is held

pub owned-read : (place : Places) (x : ReadNow) (r new : RecordNow) → HasRead x r.core new.core → new.parcels ≡ r.parcels → Owns place r → Owns place new
owned-read place x r new w p h = record {
  feed = heard-owned place x.heard (live_with w.feed r.core.live) new.core.live w.heeds h.feed;
  parcels = subst (AllByRecursion (IsOwned place)) (sym p) h.parcels;
}

-- where a fault is found the same is held for the feed
heard-holds : (o : Option Heard) (l new : LiveNow) (f : WireFault) → Heeds o l new → fault_heard o ≡ Some f → new.granted ≡ l.granted
heard-holds (Some (heard.Refused e)) l new f w is = ap (λ (z : LiveNow). z.granted) w
heard-holds None l new f w is = absurd (none-fault f is)
heard-holds (Some (heard.Reset full)) l new f w is = ap (λ (z : LiveNow). z.granted) w
heard-holds (Some (heard.ServerIdent cookie global)) l new f w is = absurd (none-fault f is)
heard-holds (Some (heard.ReconnectOk seen)) l new f w is = absurd (none-fault f is)
heard-holds (Some (heard.Retry number)) l new f w is = absurd (none-fault f is)
heard-holds (Some (heard.RetryGlobal number)) l new f w is = absurd (none-fault f is)
heard-holds (Some heard.Wait) l new f w is = absurd (none-fault f is)

holds-at : (answer : EndRead) (o : Option Heard) (p : Option FeedNow) (s : SideFacts) (l new : LiveNow) (f : WireFault) → o ≡ heard_after answer s (live_with p l) → Heeds o (live_with p l) new → fault_by answer o ≡ Some f → new.granted ≡ l.granted
holds-at (read.Got n) o p s l new f is w e = heard-holds o (live_with p l) new f w e
holds-at read.NotYet o p s l new f is w e = absurd (none-fault f e)
holds-at read.Ended o p s l new f is w e = ap (λ (z : LiveNow). z.granted) (none-heard o (live_with p l) new is w)
holds-at read.Failed o p s l new f is w e = ap (λ (z : LiveNow). z.granted) (none-heard o (live_with p l) new is w)
holds-at read.NoMemory o p s l new f is w e = absurd (none-fault f e)

pub same-held-for : (x : ReadNow) (b c : CoreNow) (f : WireFault) → HasRead x b c → fault_by x.answer x.heard ≡ Some f → c.live.granted ≡ b.live.granted
same-held-for x b c f w e = holds-at x.answer x.heard w.feed b.facts b.live c.live f w.hears w.heeds e
