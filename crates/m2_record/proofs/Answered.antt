-- A record answers an ask of its peer, and doesn't take the socket.
use Rattle.std.proofs.Common.{◌≡◌, ℕ, ◌&&◌, if◌then◌else◌, Bool, true, false, List, [], ◌∷◌, ◌++◌, map, Option, Some, None, refl, sym, ap, subst, ◌∙◌}
use Rattle.std.specs.List.{AllByRecursion}
use Rattle.std.specs.Option.{is_none, option_to_list}
use Rattle.std.proofs.lemmas.List.{append-nil}
use Rattle.m2_session.specs.declared.ask.AskFacts.{AskFacts}
use Rattle.m2_core.specs.LiveNow.{LiveNow, OnFeedNow}
use Rattle.m2_core.specs.Effects.{IsAftermath, closed_if, effects_of}
use Rattle.m2_core.specs.LiveCalls as live
use Rattle.m2_core.specs.Waits.{stepped}
use Rattle.m2_core.specs.declared.waits.Waits.{Waits}
use Rattle.m2_core.specs.CoreNow.{CoreNow}
use Rattle.m2_core.specs.Judging.{MayBeJudged, judgement_of, told_of}
use Rattle.m2_core.specs.TakingOver.{MakesJudgement, after_answering}
use Rattle.m2_core.specs.declared.verdict.Verdict.{Verdict}
use Rattle.m2_dispatch.specs.declared.parcel.Parcel.{Parcel}
use Rattle.m2_fabric.specs.declared.socket.SocketId.{SocketId}
use Rattle.m2_fabric.specs.End.{SeenEnd}
use Rattle.m2_feed.specs.FeedNow.{FeedNow}
use Rattle.m2_journal.specs.declared.entry.Entry.{Entry}
use Rattle.m2_journal.specs.Items.{item_of, reach_of, where_taken}
use Rattle.m2_journal.specs.Lawful.{IsOfTrail, Lawful, judged_on, may_ask_again}
use Rattle.m2_journal.specs.Plan.{planned}
use Rattle.m2_journal.specs.Replay.{IsReplay}
use Rattle.m2_journal.specs.OutFrames.{replies_of}
use Rattle.m2_journal.specs.SideFacts.{SideFacts}
use Rattle.m2_journal.specs.State.{Delivery, State}
use Rattle.m2_journal.specs.Steps as journal
use Rattle.m2_journal.specs.Steps.{after}
use Rattle.m2_journal.proofs.Sockets.{judgement}
use Rattle.m2_session.specs.declared.answer.Answer.{Answer}
use Rattle.m2_session.specs.declared.event.Effects.{Effects}
use Rattle.m2_session.specs.declared.event.Event.{Event}
use Rattle.m2_session.specs.declared.session.Session.{Session}
use Rattle.m2_session.specs.SessionLaws.{takes}
use Rattle.m2_record.specs.Calls.{KeepsEnds, closed_entries, told_parcels}
use Rattle.m2_record.specs.IsRecord.{FeedHasRoom, FeedIsOpen, FeedIsWhole, FitFrames, IsRecord, IsReplayedTo, IsWellKept, became_feed, feeds_in}
use Rattle.m2_record.specs.Judging.{CanAskOn, after_answer, effects_at, judged_entry}
use Rattle.m2_record.specs.RecordNow.{RecordNow, Rooms, ends_of, feed_end, grounds_of, ids_of, speaks_of}
use Rattle.m2_record.specs.Sources.{sources_of}
use Rattle.m2_record.specs.TakenTrails.{HaveTrails}
use Rattle.m2_record.proofs.Entering.{reach-more}
use Rattle.m2_record.proofs.FeedLeft.{KeepsRoom, SpentIs, closed-left, closes-entries, ends-left, open-left, parcels-left, room-left, spent-is}
use Rattle.m2_record.proofs.Going.{keeps-room}
use Rattle.m2_record.proofs.Judgements.{judged-there, trails-answered, unopened, untaken}
use Rattle.m2_record.proofs.Keeping.{as-planned, ground, one-more, replay-stays}
use Rattle.m2_record.proofs.Kept.{feeds-more, ids-left, stepped-within, tells-fits, told-from, whole-left}
use Rattle.m2_record.proofs.Opens.{closed-more, still-open}
use Rattle.m2_record.proofs.Telling.{Beside, beside, feed_left, spent_if, tells-beside, tells-feed, told_by}
use Rattle.m2_record.proofs.Trailing.{closed-behind, ends-go-on, trails-go-on}
use Rattle.m2_bytes.proofs.m2_lemmas.Booleans.{false_isnt_true}

-- ---- what is told, where anything is

pub tells_if-beside : (o : Option Event) (s : State) →
    beside (journal.tells_if o s) ≡ record (beside s) { spent = spent_if (effects_of o s.session).close s.feed s.spent; deliveries = s.deliveries ++ told_by (effects_of o s.session) }
tells_if-beside (Some e) s = tells-beside e s
tells_if-beside None s = ap (λ (l : List Delivery). record (beside s) { deliveries = l }) (sym (append-nil s.deliveries))

pub tells_if-feed : (o : Option Event) (l : LiveNow) → (live.tells_if o l).feed ≡ feed_left (effects_of o l.session).close l.feed
tells_if-feed (Some e) l = tells-feed e l
tells_if-feed None l = refl

pub tells_if-fits : (o : Option Event) (l : LiveNow) → FitFrames l.out.queue → FitFrames (live.tells_if o l).out.queue
tells_if-fits (Some e) l h = tells-fits e l h
tells_if-fits None l h = h

-- ---- the entry

-- whether the socket is taken or not, of all that a core doesn't have it leaves what the session's step does
answering-beside : (b : Bool) (f : SideFacts) (k : SocketId) (a : AskFacts) (number : ℕ) (answer : Answer) (unread : List ℕ) (s : State) →
    beside (if b then journal.takes_socket f k a number unread s else journal.sends k (replies_of answer) s) ≡ beside s
answering-beside true f k a number answer unread s = refl
answering-beside false f k a number answer unread s = refl

pub judges-beside : (f : SideFacts) (v : Verdict) (k : SocketId) (unread : List ℕ) (s : State) →
    beside (journal.judges f k v.ask v.number v.answer unread s) ≡ record (beside s) {
      spent = spent_if (effects_of (told_of f v) s.session).close s.feed s.spent;
      deliveries = s.deliveries ++ told_by (effects_of (told_of f v) s.session);
      judgements = s.judgements ++ judgement k (judgement_of v) ∷ [];
    }
judges-beside f v k unread s =
    answering-beside (takes v.answer) f k v.ask v.number v.answer unread _
    ∙ tells_if-beside (told_of f v) (journal.notes k v.ask v.number v.answer s)

-- ---- a feed that is held

pub still-held : (held close : Bool) (feed : Option FeedNow) (P : FeedNow → Type 0) → (held ≡ true → OnFeedNow feed P) → (held && is_none (closed_if close feed)) ≡ true → OnFeedNow (feed_left close feed) P
still-held true true (Some v) P h e = absurd (false_isnt_true e)
still-held true true None P h e = h refl
still-held true false feed P h e = h refl
still-held false close feed P h e = absurd (false_isnt_true e)

module _ (r : RecordNow) (s : State) (h : IsReplayedTo s r) (v : Verdict) (k : SocketId) (refuses : takes v.answer ≡ false) where
  abbrev left : Effects
  left = effects_at v r

  abbrev e : Entry
  e = judged_entry v k

  abbrev t : State
  t = after r.core.facts (item_of (speaks_of r) (reach_of r.journal) e) s

  abbrev c : CoreNow
  c = after_answering v r.core

  told : beside t ≡ record (beside s) { spent = spent_if left.close s.feed s.spent; deliveries = s.deliveries ++ told_by left; judgements = s.judgements ++ judgement k (judgement_of v) ∷ [] }
  told = subst (λ (x : Session). beside t ≡ record (beside s) {
    spent = spent_if (effects_of (told_of r.core.facts v) x).close s.feed s.spent;
    deliveries = s.deliveries ++ told_by (effects_of (told_of r.core.facts v) x);
    judgements = s.judgements ++ judgement k (judgement_of v) ∷ [];
  }) (sym h.core.session) (judges-beside r.core.facts v k (where_taken v.answer ((speaks_of r).unread k)) s)

  feed-gone : c.live.feed ≡ feed_left left.close r.core.live.feed
  feed-gone = tells_if-feed (told_of r.core.facts v) r.core.live

  no-feed : became_feed e ≡ None
  no-feed = rw refuses refl

  lawful : MayBeJudged v r.core → IsWellKept r → CanAskOn k r → Lawful r.core.facts (item_of (speaks_of r) (reach_of r.journal) e) s
  lawful may kept can = may k (where_taken v.answer ((speaks_of r).unread k)) (where_taken v.answer ((speaks_of r).trail k)) s h.core (record {
    not_opened = unopened r k kept can.new s h;
    asks_again = subst (AllByRecursion (λ i. may_ask_again i.answer ≡ true)) (sym (judged-there r s k h)) can.again;
    of_trail = subst (λ (b : Bool). IsOfTrail b (judged_on k s.judgements) (judgement_of v) (where_taken v.answer ((speaks_of r).trail k))) (sym refuses) tt;
  })

  replay-on : MayBeJudged v r.core → IsWellKept r → CanAskOn k r → IsReplay r.core.facts (speaks_of r) (r.journal ++ e ∷ []) t
  replay-on may kept can = one-more r.core.facts (grounds_of r) r.journal e s h.replay tt tt (lawful may kept can)

  abbrev ends : List SeenEnd
  ends = r.spent ++ option_to_list (closed_if left.close r.core.live.feed)

  replay-there : MayBeJudged v r.core → IsWellKept r → CanAskOn k r →
      IsReplay r.core.facts (sources_of (ground (map planned r.plan) (feed_end c.live.feed ++ ends) r.trails)) (r.journal ++ e ∷ []) t
  replay-there may kept can =
      subst (λ (x : Option FeedNow). IsReplay r.core.facts (sources_of (ground (map planned r.plan) (feed_end x ++ ends) r.trails)) (r.journal ++ e ∷ []) t) (sym feed-gone)
      (replay-stays (r.journal ++ e ∷ []) (map planned r.plan) (map planned r.plan) (ends_of r) (feed_end (feed_left left.close r.core.live.feed) ++ ends) r.trails (as-planned (map planned r.plan))
      (ends-left left.close r.core.live.feed r.spent (r.journal ++ e ∷ []) (still-open r.spent r.journal e r.core.live.feed refl h.feed))
      r.core.facts t (replay-on may kept can))

  abbrev between : ℕ → Rooms → RecordNow
  between now room = record r {
    core = c;
    journal = r.journal ++ e ∷ [];
    spent = ends;
    parcels = r.parcels ++ told_parcels r.place left.discard left.remote_reset;
    waits = stepped r.core.facts.node now r.core.live.session.phase c.live.session.phase r.waits;
    held = r.held && is_none (closed_if left.close r.core.live.feed);
    room = room;
  }

  kept-between : (now : ℕ) (room : Rooms) → IsWellKept r → IsWellKept (between now room)
  kept-between now room kept = record {
    ends = subst (λ (x : Option FeedNow). ids_of (ends ++ feed_end x) ≡ feeds_in (r.journal ++ e ∷ [])) (sym feed-gone)
        (ids-left left.close r.core.live.feed r.spent ∙ kept.ends ∙ sym (feeds-more r.journal e no-feed));
    whole = subst FeedIsWhole (sym feed-gone) (whole-left left.close r.core.live.feed kept.whole);
    parcels = told-from r.place r.parcels left.discard left.remote_reset kept.parcels;
    plan = kept.plan;
    queue = tells_if-fits (told_of r.core.facts v) r.core.live kept.queue;
    waits = stepped-within r.core.facts.node now r.core.live.session.phase c.live.session.phase r.waits kept.waits;
    held = λ g. subst (λ (x : Option FeedNow). OnFeedNow x (λ w. w.end.log.blocked ≡ true)) (sym feed-gone)
        (still-held r.held left.close r.core.live.feed (λ w. w.end.log.blocked ≡ true) kept.held g);
  }

  between-is : (now : ℕ) (room : Rooms) → MayBeJudged v r.core → IsWellKept r → CanAskOn k r → ((unread : List ℕ) → MakesJudgement v k unread r.core c) → KeepsRoom left.close r.room.ends room.ends →
      IsReplayedTo t (between now room)
  between-is now room may kept can makes keeps = record {
    replay = replay-there may kept can;
    core = makes (where_taken v.answer ((speaks_of r).unread k)) (where_taken v.answer ((speaks_of r).trail k)) s h.core;
    steps = h.steps ∙ sym (ap (λ (b : Beside). b.steps) told);
    reach = ap (λ q. q.steps) (reach-more r.journal e) ∙ h.reach ∙ sym (ap (λ (b : Beside). b.steps) told);
    parcels = parcels-left r.handed r.parcels s.deliveries t.deliveries r.place left h.parcels (ap (λ (b : Beside). b.deliveries) told);
    spent = closed-left left.close r.core.live.feed r.spent h.spent;
    feed = subst (FeedIsOpen ends (r.journal ++ e ∷ [])) (sym feed-gone)
        (open-left left.close r.core.live.feed r.spent (r.journal ++ e ∷ []) (still-open r.spent r.journal e r.core.live.feed refl h.feed));
    room = subst (FeedHasRoom room.ends) (sym feed-gone) (room-left left.close r.core.live.feed r.room.ends room.ends keeps h.room);
    few = h.few;
  }

  answered-spent : s.spent ≡ [] → SpentIs (closed_if left.close r.core.live.feed) c.live.feed t.spent
  answered-spent none = subst (λ (x : Option FeedNow). SpentIs (closed_if left.close r.core.live.feed) x t.spent) (sym feed-gone)
      (subst (SpentIs (closed_if left.close r.core.live.feed) (feed_left left.close r.core.live.feed)) (sym (ap (λ (b : Beside). b.spent) told))
      (spent-is left.close r.core.facts s r.core.live.feed s.feed s.spent none h.core.feed))

  trails-between : IsWellKept r → CanAskOn k r → HaveTrails r.core.facts.node.entity (ends_of r) r.journal r.trails → HaveTrails r.core.facts.node.entity (feed_end c.live.feed ++ ends) (r.journal ++ e ∷ []) r.trails
  trails-between kept can have =
      subst (λ (x : Option FeedNow). HaveTrails r.core.facts.node.entity (feed_end x ++ ends) (r.journal ++ e ∷ []) r.trails) (sym feed-gone)
      (trails-go-on r.core.facts.node.entity (ends_of r) (feed_end (feed_left left.close r.core.live.feed) ++ ends) (r.journal ++ e ∷ []) r.trails
      (ends-go-on r.journal (ends_of r) (feed_end (feed_left left.close r.core.live.feed) ++ ends) (ends-left left.close r.core.live.feed r.spent r.journal h.feed))
      (trails-answered r.core.facts.node.entity (ends_of r) r.journal v k r.trails refuses (untaken r k kept can.new) have))

abbrev answered_with : Verdict → SocketId → (now : ℕ) → (room : Rooms) → RecordNow → CoreNow → RecordNow
answered_with v k now room r c = record (after_answer v k now r) { core = c; waits = stepped r.core.facts.node now r.core.live.session.phase c.live.session.phase r.waits; room = room }

went-answered : (r : RecordNow) (v : Verdict) (k : SocketId) (now : ℕ) (c : CoreNow) (room : Rooms) → IsRecord r → takes v.answer ≡ false → MayBeJudged v r.core → CanAskOn k r →
    KeepsRoom (effects_at v r).close r.room.ends room.ends → c ≡ after_answering v r.core → ((unread : List ℕ) → MakesJudgement v k unread r.core c) → IsRecord (answered_with v k now room r c)
went-answered r v k now c room h refuses may can keeps e makes =
    subst (λ (d : CoreNow). ((unread : List ℕ) → MakesJudgement v k unread r.core d) → IsRecord (answered_with v k now room r d)) (sym e)
    (λ more. closes-entries (between r h.state h.at_state v k refuses now room) (t r h.state h.at_state v k refuses) (closed_if (effects_at v r).close r.core.live.feed)
    (between-is r h.state h.at_state v k refuses now room may h.kept can more keeps) (kept-between r h.state h.at_state v k refuses now room h.kept)
    (answered-spent r h.state h.at_state v k refuses h.settled)
    (closed-behind (r.journal ++ judged_entry v k ∷ []) r.spent (closed_if (effects_at v r).close r.core.live.feed) (closed-more r.journal (judged_entry v k) refl ∙ h.closed))
    (trails-between r h.state h.at_state v k refuses h.kept can h.trails)) makes

-- ---- as the code comes to it

-- what the code has made of a record
pub record HasAnsweredSo (v : Verdict) (k : SocketId) (now : ℕ) (r : RecordNow) (c : CoreNow) (journal : List Entry) (spent : List SeenEnd) (parcels : List Parcel) (waits : Waits) (held : Bool) (closed : Option SeenEnd) (discarded reset : Bool) : Type 0 where
  pub core : c ≡ after_answering v r.core
  pub makes : (unread : List ℕ) → MakesJudgement v k unread r.core c
  pub aftermath : IsAftermath (effects_at v r) r.core.live.feed closed discarded reset
  pub journal_is : journal ≡ (r.journal ++ judged_entry v k ∷ []) ++ closed_entries closed
  pub spent_is : spent ≡ r.spent ++ option_to_list closed
  pub parcels_are : parcels ≡ r.parcels ++ told_parcels r.place discarded reset
  pub waits_are : waits ≡ stepped r.core.facts.node now r.core.live.session.phase c.live.session.phase r.waits
  pub held_is : held ≡ (r.held && is_none closed)

pub answered-after : (v : Verdict) (k : SocketId) (now : ℕ) (r : RecordNow) (c : CoreNow) (journal : List Entry) (spent : List SeenEnd) (parcels : List Parcel) (waits : Waits) (held : Bool) (room : Rooms) (closed : Option SeenEnd) (discarded reset : Bool) →
    IsRecord r → takes v.answer ≡ false → MayBeJudged v r.core → CanAskOn k r → KeepsEnds closed r.room.ends room.ends → HasAnsweredSo v k now r c journal spent parcels waits held closed discarded reset →
    IsRecord (record r { core = c; journal = journal; spent = spent; parcels = parcels; waits = waits; held = held; room = room })
answered-after v k now r c journal spent parcels waits held room closed discarded reset h refuses may can ends x =
    rw (x.journal_is, x.spent_is, x.parcels_are, x.waits_are, x.held_is, x.aftermath.end, x.aftermath.thrown_away, x.aftermath.reset)
    (went-answered r v k now c room h refuses may can (keeps-room (effects_at v r).close r.core.live.feed closed r.room.ends room.ends x.aftermath.end ends) x.core x.makes)
