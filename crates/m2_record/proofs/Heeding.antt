-- What stands at the front of the feed is done: each entry of it, and none.
use Rattle.std.proofs.Common.{◌≡◌, ℕ, ◌+◌, ◌-◌, ◌≤◌, ◌||◌, not, if◌then◌else◌, Bool, true, false, List, [], ◌∷◌, ◌++◌, length, Option, Some, None, inl, inr, refl, sym, ap, subst, ◌∙◌, arith}
use Rattle.std.specs.Prelude.{◌⊎◌, nat_lt}
use Rattle.std.specs.List.{AllByRecursion}
use Rattle.std.specs.Option.{is_some, option_to_list}
use Rattle.std.proofs.lemmas.Bool.{ltb-true}
use Rattle.std.proofs.lemmas.List.{append-nil}
use Rattle.m2_bytes.specs.Items.{Holding}
use Rattle.m2_core.specs.LiveNow as live
use Rattle.m2_core.specs.LiveNow.{LiveNow, OnFeedNow, is_ready}
use Rattle.m2_core.specs.Effects.{IsAftermath, closed_if}
use Rattle.m2_core.specs.OnFeed.{PassesFeed}
use Rattle.m2_core.specs.LiveCalls.{live_with}
use Rattle.m2_core.specs.LiveAccepting.{MovesMessage}
use Rattle.m2_core.specs.Waits.{stepped}
use Rattle.m2_core.specs.declared.waits.Waits.{Waits}
use Rattle.m2_core.specs.Accepting.{Accepts}
use Rattle.m2_core.specs.CoreNow.{CoreNow}
use Rattle.m2_core.specs.Agrees.{FeedsAgree, IsTold}
use Rattle.m2_core.specs.Front.{hearer_of, resumption_at, resumption_of}
use Rattle.m2_core.specs.Granting.{Throttled}
use Rattle.m2_core.specs.Hearing.{HasObeyed}
use Rattle.m2_core.specs.Next.{Closes, Counts, IsResetHeard, WordsNext, effects_next}
use Rattle.m2_core.specs.declared.accepting.CoreAccepted.{CoreAccepted}
use Rattle.m2_core.specs.declared.next.CoreNext.{CoreNext}
use Rattle.m2_core.specs.declared.next.CoreNext.TheVariants as next
use Rattle.m2_dispatch.specs.declared.parcel.Parcel.{Parcel}
use Rattle.m2_dispatch.specs.Parcel.{IsOwned}
use Rattle.m2_fabric.specs.End.{SeenEnd}
use Rattle.m2_feed.specs.FeedNow.{FeedNow, is_framing}
use Rattle.m2_handshake.specs.m2_frame.Reading.{whole}
use Rattle.m2_handshake.specs.declared.answer.HalfStep.{HalfStep}
use Rattle.m2_feed.specs.declared.wire_fault.WireFault.{WireFault}
use Rattle.m2_feed.specs.declared.frame_heard.FrameHeard.{FrameHeard}
use Rattle.m2_feed.specs.declared.hearer.Hearer.{Hearer}
use Rattle.m2_journal.specs.declared.entry.Entry.{Entry}
use Rattle.m2_journal.specs.declared.entry.Entry.TheVariants as entry
use Rattle.m2_journal.specs.declared.facts.NodeFacts.{NodeFacts}
use Rattle.m2_journal.specs.Feeds.{next_said}
use Rattle.m2_journal.specs.Items as item
use Rattle.m2_journal.specs.Lawful.{OnFeedAt}
use Rattle.m2_journal.specs.Said.{Said, aborts, brings, garbles, says}
use Rattle.m2_journal.specs.SideFacts.{SideFacts}
use Rattle.m2_journal.specs.State.{Delivery, Feed, State}
use Rattle.m2_journal.specs.Steps as journal
use Rattle.m2_dispatch.specs.m2_message.Message.{Content}
use Rattle.m2_policy.specs.declared.path.Key.{Key}
use Rattle.m2_session.specs.declared.event.Event.TheVariants as event
use Rattle.m2_session.specs.declared.session.Session.{Session}
use Rattle.m2_session.specs.Table.{first_that_holds}
use Rattle.m2_session.specs.Steps.{step_of}
use Rattle.m2_shared.specs.Gates.{AreHeld, Gate, Places}
use Rattle.m2_record.specs.Calls.{Breaks, BytesAreBroken, ChangesCore, FitsClosed, GetsEntries, HasRoomFor, IsSameButRoom, Owns, Shakes, closed_entries, told_parcels}
use Rattle.m2_record.specs.declared.due.Due.{Due}
use Rattle.m2_record.specs.declared.due.Due.TheVariants as due
use Rattle.m2_record.specs.declared.framing.Framed.{Framed}
use Rattle.m2_record.specs.declared.framing.Framed.TheVariants as framed
use Rattle.m2_record.specs.Due.{due_step, feed_rows, has_frame, has_parcel, has_plan, may_compose, may_connect, may_read, may_write, on_feed, rests}
use Rattle.m2_record.specs.Framing.{AnswersFront, Frames, Heeds, IsDone, IsResetIf, Obeys, entries_next, framed_next, is_faulted, is_signed, letter_of, moment_next, parcels_next, reset_in, WordsFramed}
use Rattle.m2_record.specs.IsRecord.{FeedHasRoom, FitFrames, IsRecord}
use Rattle.m2_record.specs.RecordNow.{RecordNow, Rooms}
use Rattle.m2_record.proofs.Broken.{Cause, HasBroken, broken-on, waits-as}
use Rattle.m2_record.proofs.Fronts.{MakesNone, accepted-so, acked-so, again-so, end-passed, end-stays, fault-so, full-so, granted-so, is-done, memory-so, passed-so, reset-so, rests-so, same}
use Rattle.m2_record.proofs.Kept.{acked-fits, tells-fits, told-from}
use Rattle.m2_record.proofs.Owning.{tells-owned, told-all}
use Rattle.m2_record.proofs.Standing.{HandsMore, SameEnd, enters-record, hands-record, stands-record}
use Rattle.m2_record.proofs.Telling.{beside, feed_left, tells-beside, tells-feed}
use Rattle.m2_bytes.proofs.m2_lemmas.Options.{none_isnt_some, some_same}
use Rattle.m2_bytes.proofs.m2_lemmas.Lists.{all_append}
use Rattle.m2_bytes.proofs.m2_lemmas.Booleans.{false_isnt_true}

-- ---- no entry

pub none-made : (r : RecordNow) (c : CoreNow) (room : Rooms) → IsRecord r → room.ends ≡ r.room.ends → MakesNone r.core c → IsRecord (record r { core = c; room = room })
none-made r c room h ends m = stands-record r c room h m.facts m.end ends (subst (λ o. FitFrames o.queue) (sym m.queue) h.kept.queue) (λ s a. m.stays s a.core)

-- ---- an acknowledgement

pub counts : (r : RecordNow) (c : CoreNow) (room : Rooms) (number : ℕ) (journal : List Entry) → IsRecord r → room.ends ≡ r.room.ends → Counts number r.core c → journal ≡ r.journal ++ entry.Acked number ∷ [] →
    IsRecord (record r { core = c; journal = journal; room = room })
counts r c room number journal h ends x j = rw j
    (enters-record r c room (entry.Acked number) (item.acked number) h (ap (λ (z : CoreNow). z.facts) x.only)
    (subst (λ (z : CoreNow). SameEnd r.core.live.feed z.live.feed) (sym x.only) (end-stays r.core.live.feed)) ends
    (subst (λ (z : CoreNow). FitFrames z.live.out.queue) (sym x.only) (acked-fits r.core.live.out.queue number h.kept.queue))
    tt tt refl refl refl refl x.may x.leads (λ s. refl))

-- ---- a message

-- only what is handed out is more
accepts-beside : (number : ℕ) (key : Key) (x : Option Said) (d : Feed) (s : State) →
    beside (journal.accepts number key x d s) ≡ record (beside s) { deliveries = (journal.accepts number key x d s).deliveries }
accepts-beside number key (Some (brings m)) d s = refl
accepts-beside number key (Some (says p)) d s = refl
accepts-beside number key (Some aborts) d s = refl
accepts-beside number key (Some garbles) d s = refl
accepts-beside number key None d s = refl

accepted-beside : (f : SideFacts) (number : ℕ) (key : Key) (s : State) (o : Option Feed) →
    beside (journal.on_feed_at o (λ d. journal.accepts number key (next_said s.last d) d) s)
    ≡ record (beside s) { deliveries = (journal.on_feed_at o (λ d. journal.accepts number key (next_said s.last d) d) s).deliveries }
accepted-beside f number key s (Some d) = accepts-beside number key (next_said s.last d) d s
accepted-beside f number key s None = refl

end-moved : (h : Hearer) (number : ℕ) (m : Content) (x y : Option FeedNow) → MovesMessage h number m x y → SameEnd x y
end-moved h number m x y k = end-passed (whole k.frame) x y k.passes

pub accepts : (r : RecordNow) (c : CoreNow) (room : Rooms) (a : CoreAccepted) (now : ℕ) (journal : List Entry) (parcels : List Parcel) → IsRecord r → room.ends ≡ r.room.ends → Accepts a r.core c →
    journal ≡ r.journal ++ entry.Accepted a.number a.key ∷ [] → parcels ≡ r.parcels ++ letter_of r.place a ∷ [] →
    IsRecord (record r { core = c; journal = journal; parcels = parcels; last = now; room = room })
accepts r c room a now journal parcels h ends x j p = rw (j, p)
    (hands-record r c room (entry.Accepted a.number a.key) (item.accepted a.number a.key) (letter_of r.place a ∷ []) now h (ap (λ (z : CoreNow). z.facts) x.only)
    (end-moved _ a.number _ r.core.live.feed c.live.feed x.moves) ends
    (subst (λ (z : CoreNow). FitFrames z.live.out.queue) (sym x.only) h.kept.queue)
    tt tt refl refl refl refl refl x.may x.leads
    (λ s k. accepted-beside r.core.facts a.number a.key s s.feed ∙ ap (λ (l : List Delivery). record (beside s) { deliveries = l }) (x.hands_out s k))
    ((refl, x.whole, x.size), tt))

-- ---- a reset

reset-keeps : (full : Bool) (s : Session) → (step_of s (event.GotReset full)).effects.close ≡ false
reset-keeps true s = refl
reset-keeps false s = refl

obeyed-on : (full : Bool) (place : ℕ) (d : Feed) (s : State) →
    HandsMore (told_parcels place full full) s (journal.tells (event.GotReset full) (journal.with_feed (journal.takes_answer d) s))
obeyed-on true place d s = tells-beside (event.GotReset true) (journal.with_feed (journal.takes_answer d) s)
obeyed-on false place d s = tells-beside (event.GotReset false) (journal.with_feed (journal.takes_answer d) s)

obeyed-fed : (P : Feed → Type 0) (full : Bool) (place : ℕ) (s : State) (o : Option Feed) → OnFeedAt o P →
    HandsMore (told_parcels place full full) s (journal.on_feed_at o (λ d t. journal.tells (event.GotReset full) (journal.with_feed (journal.takes_answer d) t)) s)
obeyed-fed P full place s (Some d) may = obeyed-on full place d s
obeyed-fed P full place s None may = absurd may

end-frame : (x y : Option FeedNow) → PassesFeed x y → SameEnd x y
end-frame (Some v) (Some w) p = ap (λ (z : FeedNow). z.end) p.1
end-frame (Some v) None p = absurd p
end-frame None y p = absurd p

module _ (full : Bool) (r : RecordNow) (c : CoreNow) (x : HasObeyed full r.core c) where
  obeyed-end : SameEnd r.core.live.feed c.live.feed
  obeyed-end = subst (SameEnd r.core.live.feed) (sym feed) (end-frame r.core.live.feed x.obeys.passed x.obeys.passes)
    where
      feed : c.live.feed ≡ x.obeys.passed
      feed = ap (λ (l : LiveNow). l.feed) x.obeys.live ∙ tells-feed (event.GotReset full) (live_with x.obeys.passed r.core.live)
          ∙ ap (λ b. feed_left b x.obeys.passed) (reset-keeps full r.core.live.session)

  obeyed-owned : (place : Places) → AreHeld place r.core.live.granted → AreHeld place c.live.granted
  obeyed-owned place h = subst (λ (l : LiveNow). AreHeld place l.granted) (sym x.obeys.live) (tells-owned (event.GotReset full) place (live_with x.obeys.passed r.core.live) h)

  obeys-told : (room : Rooms) → IsRecord r → room.ends ≡ r.room.ends →
      IsRecord (record r { core = c; journal = r.journal ++ entry.Obeyed full ∷ []; parcels = r.parcels ++ told_parcels r.place full full; room = room })
  obeys-told room h ends = hands-record r c room (entry.Obeyed full) (item.obeyed full) (told_parcels r.place full full) r.last h (ap (λ (z : CoreNow). z.facts) x.only)
      obeyed-end ends
      (subst (λ (l : LiveNow). FitFrames l.out.queue) (sym x.obeys.live) (tells-fits (event.GotReset full) (live_with x.obeys.passed r.core.live) h.kept.queue))
      tt tt refl refl refl refl refl x.may x.leads
      (λ s k. obeyed-fed _ full r.place s s.feed (x.may s k))
      (told-from r.place [] full full tt)

-- what its aftermath tells
reset-told : (full : Bool) (s : Session) (feed : Option FeedNow) (closed : Option SeenEnd) (discarded reset : Bool) (place : ℕ) → IsAftermath (step_of s (event.GotReset full)).effects feed closed discarded reset →
    told_parcels place discarded reset ≡ told_parcels place full full
reset-told true s feed closed discarded reset place a = rw (a.thrown_away, a.reset) refl
reset-told false s feed closed discarded reset place a = rw (a.thrown_away, a.reset) refl

module _ {r : RecordNow} (h : IsRecord r) (c : CoreNow) where
  pub obeys : (room : Rooms) (full : Bool) (journal : Holding Entry) (parcels : List Parcel) (closed : Option SeenEnd) (discarded reset : Bool) → room.ends ≡ r.room.ends → HasObeyed full r.core c →
      IsAftermath (step_of r.core.live.session (event.GotReset full)).effects r.core.live.feed closed discarded reset →
      journal ≡ record { items = r.journal ++ entry.Obeyed full ∷ []; room = r.room.entries - 1 } → parcels ≡ r.parcels ++ told_parcels r.place discarded reset →
      IsRecord (record r { core = c; journal = journal.items; parcels = parcels; room = room })
  obeys room full journal parcels closed discarded reset ends x a j p =
      rw (ap (λ (l : Holding Entry). l.items) j, p, reset-told full r.core.live.session r.core.live.feed closed discarded reset r.place a) (obeys-told full r c x room h ends)

  pub obeyed-leaves : (room : Rooms) (full : Bool) (journal : Holding Entry) (parcels : List Parcel) (closed : Option SeenEnd) (discarded reset : Bool) → HasObeyed full r.core c →
      IsAftermath (step_of r.core.live.session (event.GotReset full)).effects r.core.live.feed closed discarded reset →
      journal ≡ record { items = r.journal ++ entry.Obeyed full ∷ []; room = r.room.entries - 1 } → parcels ≡ r.parcels ++ told_parcels r.place discarded reset →
      (old : RecordNow) → r ≡ old → Obeys full old (record r { core = c; journal = journal.items; parcels = parcels; room = room })
  obeyed-leaves room full journal parcels closed discarded reset x a j p old e =
      subst (λ (o : RecordNow). Obeys full o (record r { core = c; journal = journal.items; parcels = parcels; room = room })) e
      (x, rw (ap (λ (l : Holding Entry). l.items) j, p, reset-told full r.core.live.session r.core.live.feed closed discarded reset r.place a) refl)

  pub obeyed-owns : (full : Bool) → HasObeyed full r.core c → (discarded reset : Bool) (place : Places) (old new : RecordNow) → r ≡ old → Owns place old → new.core.live.granted ≡ c.live.granted →
      new.parcels ≡ r.parcels ++ told_parcels r.place discarded reset → Owns place new
  obeyed-owns full x discarded reset place old new e o g p = record {
    feed = subst (AreHeld place) (sym g) (obeyed-owned full r c x place (subst (Owns place) (sym e) o).feed);
    parcels = subst (AllByRecursion (IsOwned place)) (sym p) (all_append (IsOwned place) r.parcels (told_parcels r.place discarded reset) (subst (Owns place) (sym e) o).parcels (told-all place r.place discarded reset));
  }

-- ---- a fault

on-cause : (P : FeedNow → Type 0) (r : RecordNow) (o : Option FeedNow) → OnFeedNow o P → BytesAreBroken r → OnFeedNow o (Cause r)
on-cause P r (Some v) h b = inr b
on-cause P r None h b = absurd h

pub closes-for : (now : ℕ) (r : RecordNow) (c : CoreNow) (journal : List Entry) (spent : List SeenEnd) (parcels : List Parcel) (waits : Waits) (room : Rooms) (closed : Option SeenEnd) (discarded reset : Bool) →
    IsRecord r → Closes r.core c → HasBroken now r c journal spent parcels waits closed discarded reset →
    IsRecord (record r { core = c; journal = journal; spent = spent; parcels = parcels; waits = waits; held = false; room = room })
closes-for now r c journal spent parcels waits room closed discarded reset h x made =
    broken-on now r r.core.live.feed c journal spent parcels waits room closed discarded reset refl h (on-cause _ r r.core.live.feed x.leads (λ s k. x.broken s k.core)) x.leads made

-- ---- all answers, as the code comes to them

plain : (r : RecordNow) (c : CoreNow) (room : Rooms) → IsRecord (record r { core = c; room = room }) →
    IsRecord (record r { core = c; journal = r.journal ++ []; parcels = r.parcels ++ []; room = room })
plain r c room h = subst (λ (l : List Entry). IsRecord (record r { core = c; journal = l; parcels = r.parcels ++ []; room = room })) (sym (append-nil r.journal))
    (subst (λ (l : List Parcel). IsRecord (record r { core = c; parcels = l; room = room })) (sym (append-nil r.parcels)) h)

-- what the code has noted of an answer
pub record HasNoted (x : CoreNext) (now : ℕ) (r : RecordNow) (journal : List Entry) (parcels : List Parcel) (last : ℕ) : Type 0 where
  pub journal_is : journal ≡ r.journal ++ entries_next x
  pub parcels_are : parcels ≡ r.parcels ++ parcels_next r.place x
  pub last_is : last ≡ moment_next x now r.last

module _ (t : Throttled) (r : RecordNow) (c : CoreNow) (now : ℕ) (room : Rooms) where
  noted-plain : (x : CoreNext) → AnswersFront t x r.core c → is_faulted (framed_next x) ≡ false → room.ends ≡ r.room.ends → IsRecord r →
      IsRecord (record r { core = c; journal = r.journal ++ entries_next x; parcels = r.parcels ++ parcels_next r.place x; last = moment_next x now r.last; room = room })
  noted-plain next.Rests h f ends k = plain r c room (none-made r c room k ends (same r.core c (rests-so t r.core c h)))
  noted-plain next.Passed h f ends k = plain r c room (none-made r c room k ends (passed-so t r.core c h))
  noted-plain next.Granted h f ends k = plain r c room (none-made r c room k ends (granted-so t r.core c h))
  noted-plain (next.Acked number) h f ends k = subst (λ (l : List Parcel). IsRecord (record r { core = c; journal = r.journal ++ entry.Acked number ∷ []; parcels = l; room = room })) (sym (append-nil r.parcels))
      (counts r c room number (r.journal ++ entry.Acked number ∷ []) k ends (acked-so t r.core c number h) refl)
  noted-plain (next.Accepted a) h f ends k = accepts r c room a now (r.journal ++ entry.Accepted a.number a.key ∷ []) (r.parcels ++ letter_of r.place a ∷ []) k ends (accepted-so t r.core c a h) refl refl
  noted-plain (next.Resets full) h f ends k = plain r c room (none-made r c room k ends (same r.core c (reset-so t r.core c full h).0))
  noted-plain (next.Full stage out) h f ends k = plain r c room (none-made r c room k ends (full-so t r.core c stage out h))
  noted-plain (next.Again stage seen at) h f ends k = plain r c room (none-made r c room k ends (again-so t r.core c stage seen at h))
  noted-plain (next.Fault cause) h f ends k = absurd (false_isnt_true (sym f))
  noted-plain next.NoMemory h f ends k = plain r c room (none-made r c room k ends (same r.core c (memory-so t r.core c h)))

  pub noted : (x : CoreNext) (journal : List Entry) (parcels : List Parcel) (last : ℕ) → AnswersFront t x r.core c → is_faulted (framed_next x) ≡ false → room.ends ≡ r.room.ends → IsRecord r →
      HasNoted x now r journal parcels last → IsRecord (record r { core = c; journal = journal; parcels = parcels; last = last; room = room })
  noted x journal parcels last h f ends k m = rw (m.journal_is, m.parcels_are, m.last_is) (noted-plain x h f ends k)

  -- an answer that changes nothing but room, or the core alone
  left-core : ChangesCore r (record r { core = c; journal = r.journal ++ []; parcels = r.parcels ++ []; room = room })
  left-core = rw (append-nil r.journal, append-nil r.parcels) refl

  left-all : c ≡ r.core → IsSameButRoom r (record r { core = c; journal = r.journal ++ []; parcels = r.parcels ++ []; room = room })
  left-all e = rw (append-nil r.journal, append-nil r.parcels, e) refl

  heeds-plain : (x : CoreNext) → IsDone x → AnswersFront t x r.core c → is_faulted (framed_next x) ≡ false →
      Heeds t (framed_next x) now r (record r { core = c; journal = r.journal ++ entries_next x; parcels = r.parcels ++ parcels_next r.place x; last = moment_next x now r.last; room = room })
  heeds-plain next.Rests d h f = absurd d
  heeds-plain next.Passed d h f = (h, left-core)
  heeds-plain next.Granted d h f = (h, left-core)
  heeds-plain (next.Acked number) d h f = (h, subst (λ (l : List Parcel). GetsEntries (entry.Acked number ∷ []) r (record r { core = c; journal = r.journal ++ entry.Acked number ∷ []; parcels = l; room = room })) (sym (append-nil r.parcels)) refl)
  heeds-plain (next.Accepted a) d h f = (a, refl, h, refl)
  heeds-plain (next.Resets full) d h f = (h, left-all (reset-so t r.core c full h).0)
  heeds-plain (next.Full stage out) d h f = (h, left-core)
  heeds-plain (next.Again stage seen at) d h f = (h, left-core)
  heeds-plain (next.Fault cause) d h f = absurd (false_isnt_true (sym f))
  heeds-plain next.NoMemory d h f = (h, left-all (memory-so t r.core c h))

  pub heeds : (x : CoreNext) (journal : List Entry) (parcels : List Parcel) (last : ℕ) → IsDone x → AnswersFront t x r.core c → is_faulted (framed_next x) ≡ false →
      HasNoted x now r journal parcels last → Heeds t (framed_next x) now r (record r { core = c; journal = journal; parcels = parcels; last = last; room = room })
  heeds x journal parcels last d h f m = rw (m.journal_is, m.parcels_are, m.last_is) (heeds-plain x d h f)

module _ (t : Throttled) (r : RecordNow) (c : CoreNow) where
  -- what it leaves is owned
  owned-plain : (place : Places) (x : CoreNext) → Owns place r → AreHeld place c.live.granted → AnswersFront t x r.core c → AllByRecursion (IsOwned place) (r.parcels ++ parcels_next r.place x)
  owned-plain place (next.Accepted a) o g h = all_append (IsOwned place) r.parcels (letter_of r.place a ∷ []) o.parcels (subst (AreHeld place) (accepted-so t r.core c a h).grants o.feed, tt)
  owned-plain place next.Rests o g h = all_append (IsOwned place) r.parcels [] o.parcels tt
  owned-plain place next.Passed o g h = all_append (IsOwned place) r.parcels [] o.parcels tt
  owned-plain place next.Granted o g h = all_append (IsOwned place) r.parcels [] o.parcels tt
  owned-plain place (next.Acked number) o g h = all_append (IsOwned place) r.parcels [] o.parcels tt
  owned-plain place (next.Resets full) o g h = all_append (IsOwned place) r.parcels [] o.parcels tt
  owned-plain place (next.Full stage out) o g h = all_append (IsOwned place) r.parcels [] o.parcels tt
  owned-plain place (next.Again stage seen at) o g h = all_append (IsOwned place) r.parcels [] o.parcels tt
  owned-plain place (next.Fault cause) o g h = all_append (IsOwned place) r.parcels [] o.parcels tt
  owned-plain place next.NoMemory o g h = all_append (IsOwned place) r.parcels [] o.parcels tt

  pub owned-noted : (place : Places) (x : CoreNext) (new : RecordNow) → Owns place r → AreHeld place c.live.granted → AnswersFront t x r.core c → new.core.live.granted ≡ c.live.granted →
      new.parcels ≡ r.parcels ++ parcels_next r.place x → Owns place new
  owned-noted place x new o g h e p = record { feed = subst (AreHeld place) (sym e) g; parcels = subst (AllByRecursion (IsOwned place)) (sym p) (owned-plain place x o g h) }

  -- a reset is heard still
  pub reset-if : (x : CoreNext) (new : RecordNow) → AnswersFront t x r.core c → new.core ≡ c → HasRoomFor 2 r.room → r.room.entries ≤ new.room.entries + length (entries_next x) → r.room.parcels ≤ new.room.parcels + length (parcels_next r.place x) →
      IsResetIf (framed_next x) new
  reset-if (next.Resets full) new h e two entries parcels = (
    subst (IsResetHeard full) (sym (e ∙ (reset-so t r.core c full h).0)) (reset-so t r.core c full h).1,
    record {
      entries = (let a = two.entries in omega (arith, a, entries));
      parcels = (let a = two.parcels in omega (arith, a, parcels));
    },
  )
  reset-if next.Rests new h e two entries parcels = tt
  reset-if next.Passed new h e two entries parcels = tt
  reset-if next.Granted new h e two entries parcels = tt
  reset-if (next.Acked number) new h e two entries parcels = tt
  reset-if (next.Accepted a) new h e two entries parcels = tt
  reset-if (next.Full stage out) new h e two entries parcels = tt
  reset-if (next.Again stage seen at) new h e two entries parcels = tt
  reset-if (next.Fault cause) new h e two entries parcels = tt
  reset-if next.NoMemory new h e two entries parcels = tt

pub words-same : (x : CoreNext) (t : Throttled) (before behind : Gate → ℕ) → IsDone x → WordsNext x t before behind → WordsFramed (framed_next x) t before behind
words-same next.Rests t before behind d h = absurd d
words-same next.Passed t before behind d h = h
words-same next.Granted t before behind d h = h
words-same (next.Acked number) t before behind d h = h
words-same (next.Accepted a) t before behind d h = h
words-same (next.Resets full) t before behind d h = h
words-same (next.Full stage out) t before behind d h = h
words-same (next.Again stage seen at) t before behind d h = h
words-same (next.Fault cause) t before behind d h = h
words-same next.NoMemory t before behind d h = h

-- ---- where the feed is closed

-- nothing was noted but that
pub faulted-notes : (x : CoreNext) (place : ℕ) → is_faulted (framed_next x) ≡ true → (entries_next x ≡ []) × (parcels_next place x ≡ [])
faulted-notes (next.Fault cause) place f = (refl, refl)
faulted-notes next.Rests place f = absurd (false_isnt_true f)
faulted-notes next.Passed place f = absurd (false_isnt_true f)
faulted-notes next.Granted place f = absurd (false_isnt_true f)
faulted-notes (next.Acked number) place f = absurd (false_isnt_true f)
faulted-notes (next.Accepted a) place f = absurd (false_isnt_true f)
faulted-notes (next.Resets full) place f = absurd (false_isnt_true f)
faulted-notes (next.Full stage out) place f = absurd (false_isnt_true f)
faulted-notes (next.Again stage seen at) place f = absurd (false_isnt_true f)
faulted-notes next.NoMemory place f = absurd (false_isnt_true f)

-- there is a cause
closed-so : {P : Type 0} (x : CoreNext) → is_faulted (framed_next x) ≡ true → ((cause : WireFault) → x ≡ next.Fault cause → P) → P
closed-so (next.Fault cause) f k = k cause refl
closed-so next.Rests f k = absurd (false_isnt_true f)
closed-so next.Passed f k = absurd (false_isnt_true f)
closed-so next.Granted f k = absurd (false_isnt_true f)
closed-so (next.Acked number) f k = absurd (false_isnt_true f)
closed-so (next.Accepted a) f k = absurd (false_isnt_true f)
closed-so (next.Resets full) f k = absurd (false_isnt_true f)
closed-so (next.Full stage out) f k = absurd (false_isnt_true f)
closed-so (next.Again stage seen at) f k = absurd (false_isnt_true f)
closed-so next.NoMemory f k = absurd (false_isnt_true f)

-- what the code has made of a record then, behind what it noted
pub record HasClosed (x : CoreNext) (now : ℕ) (r : RecordNow) (c : CoreNow) (journal : List Entry) (spent : List SeenEnd) (parcels : List Parcel) (waits : Waits) (last : ℕ) (closed : Option SeenEnd) (discarded reset : Bool) : Type 0 where
  pub aftermath : IsAftermath (effects_next x r.core.live) r.core.live.feed closed discarded reset
  pub journal_is : journal ≡ (r.journal ++ entries_next x) ++ closed_entries closed
  pub spent_is : spent ≡ r.spent ++ option_to_list closed
  pub parcels_are : parcels ≡ (r.parcels ++ parcels_next r.place x) ++ told_parcels r.place discarded reset
  pub waits_are : waits ≡ stepped r.core.facts.node now r.core.live.session.phase c.live.session.phase r.waits
  pub last_is : last ≡ moment_next x now r.last

module _ (t : Throttled) (r : RecordNow) (c : CoreNow) (now : ℕ) (journal : List Entry) (spent : List SeenEnd) (parcels : List Parcel) (waits : Waits) (last : ℕ) (room : Rooms) (closed : Option SeenEnd) (discarded reset : Bool) where
  broken-of : (cause : WireFault) → AnswersFront t (next.Fault cause) r.core c → HasClosed (next.Fault cause) now r c journal spent parcels waits last closed discarded reset → HasBroken now r c journal spent parcels waits closed discarded reset
  broken-of cause h x = record {
    core = (fault-so t r.core c cause h).only;
    aftermath = x.aftermath;
    journal_is = x.journal_is ∙ ap (λ (l : List Entry). l ++ closed_entries closed) (append-nil r.journal);
    spent_is = x.spent_is;
    parcels_are = x.parcels_are ∙ ap (λ (l : List Parcel). l ++ told_parcels r.place discarded reset) (append-nil r.parcels);
    waits_are = x.waits_are;
  }

  abbrev left : RecordNow
  left = record r { core = c; journal = journal; spent = spent; parcels = parcels; waits = waits; held = false; last = last; room = room }

  closes-fault : (cause : WireFault) → IsRecord r → AnswersFront t (next.Fault cause) r.core c → HasClosed (next.Fault cause) now r c journal spent parcels waits last closed discarded reset → IsRecord left
  closes-fault cause k h x = rw x.last_is (closes-for now r c journal spent parcels waits room closed discarded reset k (fault-so t r.core c cause h) (broken-of cause h x))

  heeds-fault : (cause : WireFault) → AnswersFront t (next.Fault cause) r.core c → HasClosed (next.Fault cause) now r c journal spent parcels waits last closed discarded reset → Heeds t (framed.Faulted cause) now r left
  heeds-fault cause h x =
      let b = broken-of cause h x in
      (h, rw (x.last_is, b.journal_is, b.spent_is, b.parcels_are, b.waits_are, b.aftermath.end, b.aftermath.thrown_away, b.aftermath.reset, b.core) refl)

  pub closes : (x : CoreNext) → is_faulted (framed_next x) ≡ true → IsRecord r → AnswersFront t x r.core c → HasClosed x now r c journal spent parcels waits last closed discarded reset → IsRecord left
  closes x f k h m = closed-so x f (λ cause e. subst (λ (y : CoreNext). AnswersFront t y r.core c → HasClosed y now r c journal spent parcels waits last closed discarded reset → IsRecord left) (sym e) (closes-fault cause k) h m)

  pub heeds-closed : (x : CoreNext) → is_faulted (framed_next x) ≡ true → AnswersFront t x r.core c → HasClosed x now r c journal spent parcels waits last closed discarded reset → Heeds t (framed_next x) now r left
  heeds-closed x f h m = closed-so x f (λ cause e. subst (λ (y : CoreNext). AnswersFront t y r.core c → HasClosed y now r c journal spent parcels waits last closed discarded reset → Heeds t (framed_next y) now r left) (sym e) (heeds-fault cause) h m)

-- ---- a reset behind it

pub unreset : (t : Throttled) (f : Framed) (now : ℕ) (old new : RecordNow) → reset_in f ≡ None → Heeds t f now old new → Frames t f now old new
unreset t (framed.Half answer) now old new e h = absurd h
unreset t framed.Passed now old new e h = h
unreset t framed.Granted now old new e h = h
unreset t (framed.Acked number) now old new e h = h
unreset t (framed.Accepted number) now old new e h = h
unreset t (framed.Obeyed full) now old new e h = absurd (none_isnt_some full (sym e))
unreset t (framed.Faulted cause) now old new e h = h
unreset t (framed.Full stage out) now old new e h = h
unreset t (framed.Again stage seen at) now old new e h = h
unreset t framed.NoMemory now old new e h = h

reset-is : (f : Framed) (full : Bool) → reset_in f ≡ Some full → f ≡ framed.Obeyed full
reset-is (framed.Obeyed m) full e = ap (λ b. framed.Obeyed b) (some_same m full e)
reset-is (framed.Half answer) full e = absurd (none_isnt_some full e)
reset-is framed.Passed full e = absurd (none_isnt_some full e)
reset-is framed.Granted full e = absurd (none_isnt_some full e)
reset-is (framed.Acked number) full e = absurd (none_isnt_some full e)
reset-is (framed.Accepted number) full e = absurd (none_isnt_some full e)
reset-is (framed.Faulted cause) full e = absurd (none_isnt_some full e)
reset-is (framed.Full stage out) full e = absurd (none_isnt_some full e)
reset-is (framed.Again stage seen at) full e = absurd (none_isnt_some full e)
reset-is framed.NoMemory full e = absurd (none_isnt_some full e)

pub reset-obeyed : (t : Throttled) (f : Framed) (full : Bool) (now : ℕ) (old mid new : RecordNow) → reset_in f ≡ Some full → Heeds t f now old mid → Obeys full mid new → Frames t f now old new
reset-obeyed t f full now old mid new e h o =
    subst (λ (g : Framed). Heeds t g now old mid → Frames t g now old new) (sym (reset-is f full e)) (λ k. (mid, k, o)) h

pub may-obey : (f : Framed) (full : Bool) (r : RecordNow) → reset_in f ≡ Some full → IsResetIf f r → IsResetHeard full r.core × HasRoomFor 2 r.room
may-obey f full r e h = subst (λ (g : Framed). IsResetIf g r) (reset-is f full e) h

pub words-obeyed : (f : Framed) (full : Bool) (t : Throttled) (before x y : Gate → ℕ) → reset_in f ≡ Some full → WordsFramed f t before x → WordsFramed f t before y
words-obeyed f full t before x y e = subst (λ (g : Framed). WordsFramed g t before x → WordsFramed g t before y) (sym (reset-is f full e)) (λ h. h)

-- ---- an answer of the half

pub shaken-owned : (place : Places) (answer : HalfStep) (old mid : RecordNow) → Shakes answer old mid → Owns place old → Owns place mid
shaken-owned place answer old mid h o = record {
  feed = subst (AreHeld place) (sym (ap (λ (z : CoreNow). z.live.granted) h.0.only)) o.feed;
  parcels = subst (AllByRecursion (IsOwned place)) (sym (ap (λ (z : RecordNow). z.parcels) h.1)) o.parcels;
}

pub shaken-top : (answer : HalfStep) (old mid : RecordNow) → Shakes answer old mid → mid.core.top ≡ old.core.top
shaken-top answer old mid h = ap (λ (z : CoreNow). z.top) h.0.only

pub broken-top : (now : ℕ) (mid new : RecordNow) → Breaks now mid new → new.core.top ≡ mid.core.top
broken-top now mid new h = ap (λ (z : RecordNow). z.core.top) h

pub shaken-held : (answer : HalfStep) (old mid : RecordNow) → Shakes answer old mid → mid.core.live.granted ≡ old.core.live.granted
shaken-held answer old mid h = ap (λ (z : CoreNow). z.live.granted) h.0.only

-- ---- where the step is due

abbrev is_frame : Due → Bool
is_frame due.Frame = true
is_frame _ = false

frames-only : (a b c d : Bool) → is_frame (if a then due.Write else (if b then due.Frame else (if c then due.Read else (if d then due.Compose else due.Nothing)))) ≡ true → b ≡ true
frames-only true b c d e = absurd (false_isnt_true e)
frames-only false true c d e = refl
frames-only false false true d e = absurd (false_isnt_true e)
frames-only false false false true e = absurd (false_isnt_true e)
frames-only false false false false e = absurd (false_isnt_true e)

frames-last : (a b c : Bool) (at : ℕ) (rest : Due) → is_frame (if a then due.Plan else (if b then due.Hand else (if c then due.Connect at else rest))) ≡ true → is_frame rest ≡ true
frames-last true b c at rest e = absurd (false_isnt_true e)
frames-last false true c at rest e = absurd (false_isnt_true e)
frames-last false false true at rest e = absurd (false_isnt_true e)
frames-last false false false at rest e = e

pub frame-due : (now : ℕ) (r : RecordNow) → due_step now r ≡ due.Frame → has_frame r ≡ true
frame-due now r h = frames-only (may_write r) (has_frame r) (may_read r) (may_compose r)
    (frames-last (has_plan r) (has_parcel r.parcels) (may_connect now r) r.waits.next_dial (first_that_holds (feed_rows r) due.Nothing) (ap is_frame h))

pub signed-on : (o : Option FeedNow) → on_feed (λ v. is_framing v.reading) o ≡ true → OnFeedNow o (λ v. is_framing v.reading ≡ true)
signed-on (Some v) e = e
signed-on None e = absurd (false_isnt_true e)

not-below : (n : ℕ) → nat_lt n 0 ≡ false
not-below n = at (nat_lt n 0) refl
  where
    at : (b : Bool) → nat_lt n 0 ≡ b → nat_lt n 0 ≡ false
    at true e = absurd (let below = ltb-true n 0 e in omega (arith, below))
    at false e = e

nothing-resumed : (h : Hearer) → resumption_of h 0 ≡ None
nothing-resumed h = rw (not-below h.written) refl

untold : (f : SideFacts) (s : State) (o : Option FeedNow) (d : Option Feed) (n : ℕ) → FeedsAgree f s o d → o ≡ None → (n ≡ 0) ⊎ IsTold n d → n ≡ 0
untold f s o d n a e (inl z) = z
untold f s None None n a e (inr t) = absurd t
untold f s None (Some d) n a e (inr t) = absurd a
untold f s (Some v) d n a e (inr t) = absurd (none_isnt_some v (sym e))

unready : (b : Bool) (o : Option FrameHeard) → o ≡ None → is_some (if b then o else None) ≡ false
unready true o e = ap is_some e
unready false o e = refl

-- without a feed nothing was resumed
unfed : (r : RecordNow) → IsRecord r → r.core.live.feed ≡ None → is_some (resumption_at r.core) ≡ false
unfed r h e = unready (is_ready r.core.live) _
    (ap (resumption_of (hearer_of r.core)) (untold r.core.facts h.state r.core.live.feed h.state.feed r.core.live.resumed h.at_state.core.feed e h.at_state.core.resumed) ∙ nothing-resumed (hearer_of r.core))

unsigned-fed : (r : RecordNow) (o : Option FeedNow) → IsRecord r → r.core.live.feed ≡ o → (on_feed (λ v. not (rests v.reading)) o || is_some (resumption_at r.core)) ≡ true → on_feed (λ v. is_framing v.reading) o ≡ false →
    OnFeedNow o (λ v. is_framing v.reading ≡ false)
unsigned-fed r (Some v) h was frame e = e
unsigned-fed r None h was frame e = absurd (false_isnt_true (sym (unfed r h was) ∙ frame))

pub unsigned-on : (r old : RecordNow) → IsRecord r → r ≡ old → has_frame old ≡ true → is_signed old ≡ false → OnFeedNow old.core.live.feed (λ v. is_framing v.reading ≡ false)
unsigned-on r old h e = subst (λ (o : RecordNow). has_frame o ≡ true → is_signed o ≡ false → OnFeedNow o.core.live.feed (λ v. is_framing v.reading ≡ false)) e
    (unsigned-fed r r.core.live.feed h refl)

-- ---- of the code's own values

-- what the core has answered, and what the code makes of that
pub record Came (t : Throttled) (x : CoreNext) (f : Framed) (r : RecordNow) (c : CoreNow) : Type 0 where
  pub answers : AnswersFront t x r.core c
  pub is : f ≡ framed_next x

module _ (t : Throttled) (x : CoreNext) (f : Framed) (r : RecordNow) (c : CoreNow) (k : Came t x f r c) (now : ℕ) (journal : List Entry) (parcels : List Parcel) (last : ℕ) (room : Rooms) where
  goes-on : is_faulted f ≡ false → is_faulted (framed_next x) ≡ false
  goes-on b = subst (λ (g : Framed). is_faulted g ≡ false) k.is b

  stops : is_faulted f ≡ true → is_faulted (framed_next x) ≡ true
  stops b = subst (λ (g : Framed). is_faulted g ≡ true) k.is b

  pub record-noted : IsRecord r → is_faulted f ≡ false → room.ends ≡ r.room.ends → HasNoted x now r journal parcels last →
      IsRecord (record r { core = c; journal = journal; parcels = parcels; last = last; room = room })
  record-noted h b ends m = noted t r c now room x journal parcels last k.answers (goes-on b) ends h m

  pub heeds-noted : (old : RecordNow) → r ≡ old → IsDone x → is_faulted f ≡ false → HasNoted x now r journal parcels last →
      Heeds t f now old (record r { core = c; journal = journal; parcels = parcels; last = last; room = room })
  heeds-noted old e d b m = subst (λ (o : RecordNow). Heeds t f now o (record r { core = c; journal = journal; parcels = parcels; last = last; room = room })) e
      (subst (λ (g : Framed). Heeds t g now r (record r { core = c; journal = journal; parcels = parcels; last = last; room = room })) (sym k.is)
      (heeds t r c now room x journal parcels last d k.answers (goes-on b) m))

module _ (t : Throttled) (x : CoreNext) (f : Framed) (r : RecordNow) (c : CoreNow) (k : Came t x f r c) where
  pub owned-left : (place : Places) (old new : RecordNow) → r ≡ old → Owns place old → AreHeld place c.live.granted → new.core.live.granted ≡ c.live.granted → new.parcels ≡ r.parcels ++ parcels_next r.place x → Owns place new
  owned-left place old new e o own g p = owned-noted t r c place x new (subst (Owns place) (sym e) o) own k.answers g p

  pub reset-left : (old new : RecordNow) → r ≡ old → new.core ≡ c → HasRoomFor 2 old.room → r.room.entries ≤ new.room.entries + length (entries_next x) → r.room.parcels ≤ new.room.parcels + length (parcels_next r.place x) → IsResetIf f new
  reset-left old new e g two entries parcels = subst (λ (z : Framed). IsResetIf z new) (sym k.is)
      (reset-if t r c x new k.answers g (subst (λ (o : RecordNow). HasRoomFor 2 o.room) (sym e) two) entries parcels)

pub no-reset : (f : Framed) (r : RecordNow) → is_faulted f ≡ true → IsResetIf f r
no-reset (framed.Faulted cause) r b = tt
no-reset (framed.Obeyed full) r b = absurd (false_isnt_true b)
no-reset (framed.Half answer) r b = tt
no-reset framed.Passed r b = tt
no-reset framed.Granted r b = tt
no-reset (framed.Acked number) r b = tt
no-reset (framed.Accepted number) r b = tt
no-reset (framed.Full stage out) r b = tt
no-reset (framed.Again stage seen at) r b = tt
no-reset framed.NoMemory r b = tt

pub words-so : (x : CoreNext) (f : Framed) (t : Throttled) (before b behind : Gate → ℕ) → IsDone x → f ≡ framed_next x → before ≡ b → WordsNext x t before behind → WordsFramed f t b behind
words-so x f t before b behind d e g h =
    subst (λ (k : Framed). WordsFramed k t b behind) (sym e) (subst (λ (n : Gate → ℕ). WordsFramed (framed_next x) t n behind) g (words-same x t before behind d h))

-- the tests of the code
pub tested : (b : Bool) (f : Framed) (c : Bool) → b ≡ is_faulted f → b ≡ c → is_faulted f ≡ c
tested b f c e h = sym e ∙ h

-- an end that is closed has room
pub closed-fits : (close : Bool) (feed : Option FeedNow) (closed : Option SeenEnd) (ends : ℕ) → closed ≡ closed_if close feed → FeedHasRoom ends feed → FitsClosed closed ends
closed-fits true (Some v) closed ends e h = subst (λ (o : Option SeenEnd). FitsClosed o ends) (sym e) h
closed-fits true None closed ends e h = subst (λ (o : Option SeenEnd). FitsClosed o ends) (sym e) tt
closed-fits false feed closed ends e h = subst (λ (o : Option SeenEnd). FitsClosed o ends) (sym e) tt

pub noted-none : (x : CoreNext) (f : Framed) (place : ℕ) → f ≡ framed_next x → is_faulted f ≡ true → (length (entries_next x) ≡ 0) × (length (parcels_next place x) ≡ 0)
noted-none x f place e b = let n = faulted-notes x place (subst (λ (g : Framed). is_faulted g ≡ true) e b) in (ap length n.0, ap length n.1)

facts-kept : (t : Throttled) (x : CoreNext) (r : RecordNow) (c : CoreNow) → AnswersFront t x r.core c → is_faulted (framed_next x) ≡ true → c.facts.node ≡ r.core.facts.node
facts-kept t x r c k b = closed-so x b
    (λ cause e. ap (λ (z : CoreNow). z.facts.node) (fault-so t r.core c cause (subst (λ (y : CoreNext). AnswersFront t y r.core c) e k)).only)

-- the feed is closed, behind what was noted
module _ {r : RecordNow} (h : IsRecord r) (t : Throttled) (x : CoreNext) (f : Framed) (c : CoreNow) (answers : AnswersFront t x r.core c) (is : f ≡ framed_next x) (b : is_faulted f ≡ true) (now : ℕ)
    (noted-journal journal : List Entry) (noted-parcels parcels : List Parcel) (spent : List SeenEnd) (waits : Waits) (last : ℕ) (closed : Option SeenEnd) (discarded reset : Bool) (node : NodeFacts) (p q : Session)
    (aftermath : IsAftermath (effects_next x r.core.live) r.core.live.feed closed discarded reset)
    (journal-noted : noted-journal ≡ r.journal ++ entries_next x) (journal-is : journal ≡ noted-journal ++ closed_entries closed)
    (parcels-noted : noted-parcels ≡ r.parcels ++ parcels_next r.place x) (parcels-are : parcels ≡ noted-parcels ++ told_parcels r.place discarded reset)
    (spent-is : spent ≡ r.spent ++ option_to_list closed) (last-is : last ≡ moment_next x now r.last)
    (waits-are : waits ≡ stepped node now p.phase q.phase r.waits) (node-is : node ≡ c.facts.node) (before-is : p ≡ r.core.live.session) (behind-is : q ≡ c.live.session) where
  stops-there : is_faulted (framed_next x) ≡ true
  stops-there = subst (λ (g : Framed). is_faulted g ≡ true) is b

  made : HasClosed x now r c journal spent parcels waits last closed discarded reset
  made = record {
    aftermath = aftermath;
    journal_is = journal-is ∙ ap (λ (l : List Entry). l ++ closed_entries closed) journal-noted;
    spent_is = spent-is;
    parcels_are = parcels-are ∙ ap (λ (l : List Parcel). l ++ told_parcels r.place discarded reset) parcels-noted;
    waits_are = waits-as r.core.facts.node node now r.core.live.session c.live.session p q r.waits waits waits-are (node-is ∙ facts-kept t x r c answers stops-there) before-is behind-is;
    last_is = last-is;
  }

  pub record-closed : (room : Rooms) → IsRecord (record r { core = c; journal = journal; spent = spent; parcels = parcels; waits = waits; held = false; last = last; room = room })
  record-closed room = closes t r c now journal spent parcels waits last room closed discarded reset x stops-there h answers made

  pub heeds-left : (room : Rooms) (old : RecordNow) → r ≡ old →
      Heeds t f now old (record r { core = c; journal = journal; spent = spent; parcels = parcels; waits = waits; held = false; last = last; room = room })
  heeds-left room old e = subst (λ (o : RecordNow). Heeds t f now o (record r { core = c; journal = journal; spent = spent; parcels = parcels; waits = waits; held = false; last = last; room = room })) e
      (subst (λ (g : Framed). Heeds t g now r (record r { core = c; journal = journal; spent = spent; parcels = parcels; waits = waits; held = false; last = last; room = room })) (sym is)
      (heeds-closed t r c now journal spent parcels waits last room closed discarded reset x stops-there answers made))

  pub owned-closed : (place : Places) (old new : RecordNow) → r ≡ old → Owns place old → AreHeld place new.core.live.granted → AreHeld place c.live.granted → new.parcels ≡ parcels → Owns place new
  owned-closed place old new e o g own same-parcels = record {
    feed = g;
    parcels = subst (AllByRecursion (IsOwned place)) (sym (same-parcels ∙ made.parcels_are)) (all_append (IsOwned place) (r.parcels ++ parcels_next r.place x) (told_parcels r.place discarded reset)
        (owned-plain t r c place x (subst (Owns place) (sym e) o) own answers) (told-all place r.place discarded reset));
  }

-- what is asked of a record, of the same one as the code has it
pub signed-so : (r old : RecordNow) → r ≡ old → OnFeedNow old.core.live.feed (λ v. is_framing v.reading ≡ true) → OnFeedNow r.core.live.feed (λ v. is_framing v.reading ≡ true)
signed-so r old e h = subst (λ (v : RecordNow). OnFeedNow v.core.live.feed (λ x. is_framing x.reading ≡ true)) (sym e) h

pub room-so : (r old : RecordNow) → r ≡ old → HasRoomFor 2 old.room → HasRoomFor 2 r.room
room-so r old e h = subst (λ (v : RecordNow). HasRoomFor 2 v.room) (sym e) h

pub owned-so : (place : Places) (r old : RecordNow) → r ≡ old → Owns place old → AreHeld place r.core.live.granted
owned-so place r old e h = (subst (Owns place) (sym e) h).feed

pub done-so : (t : Throttled) (r old : RecordNow) (c : CoreNow) (x : CoreNext) → r ≡ old → has_frame old ≡ true → OnFeedNow old.core.live.feed (λ v. is_framing v.reading ≡ true) → AnswersFront t x r.core c → IsDone x
done-so t r old c x e frame signed h = is-done t r c x (subst (λ (v : RecordNow). has_frame v ≡ true) (sym e) frame) (signed-so r old e signed) h
