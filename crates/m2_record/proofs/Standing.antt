-- A record whose core goes on while its feed's end stays as it is.
use Rattle.std.proofs.Common.{◌≡◌, ℕ, Bool, true, false, List, [], ◌∷◌, ◌++◌, length, map, Option, Some, None, refl, sym, ap, subst, ◌∙◌, append_assoc, arith, length-append}
use Rattle.std.specs.List.{AllByRecursion}
use Rattle.std.specs.Prelude.{if◌then◌else◌}
use Rattle.std.proofs.lemmas.List.{append-nil, map-append}
use Rattle.m2_session.specs.declared.ask.AskFacts.{AskFacts}
use Rattle.m2_core.specs.LiveNow.{OnFeedNow}
use Rattle.m2_core.specs.Waits.{IsWithin}
use Rattle.m2_core.specs.Agrees.{Agrees}
use Rattle.m2_core.specs.CoreNow.{CoreNow}
use Rattle.m2_dispatch.specs.declared.parcel.Parcel.{Parcel}
use Rattle.m2_fabric.specs.declared.socket.SocketId.{SocketId}
use Rattle.m2_fabric.specs.End.{SeenEnd}
use Rattle.m2_feed.specs.FeedNow.{FeedNow}
use Rattle.m2_journal.specs.declared.entry.Entry.{Entry}
use Rattle.m2_journal.specs.declared.entry.Entry.TheVariants as entry
use Rattle.m2_journal.specs.Items.{JournalItem, Places, Sources, item_of, passed, reach_of, where_taken}
use Rattle.m2_journal.specs.Lawful.{Lawful}
use Rattle.m2_journal.specs.OutFrames.{replies_of}
use Rattle.m2_journal.specs.Plan.{planned}
use Rattle.m2_journal.specs.Replay.{IsReplay}
use Rattle.m2_journal.specs.SideFacts.{SideFacts}
use Rattle.m2_journal.specs.State.{Delivery, Judgement, State}
use Rattle.m2_journal.specs.Steps as journal
use Rattle.m2_journal.specs.Steps.{after}
use Rattle.m2_session.specs.declared.answer.Answer.{Answer}
use Rattle.m2_session.specs.declared.event.Event.{Event}
use Rattle.m2_session.specs.SessionLaws.{takes}
use Rattle.m2_record.specs.Entered.{MovesNothing, StepIsThere}
use Rattle.m2_record.specs.IsRecord.{FeedHasRoom, FeedIsOpen, FeedIsWhole, FitFrames, IsFrom, IsOpenAmong, IsRecord, IsReplayedTo, IsWellKept, became_feed, closed_by, feeds_in}
use Rattle.m2_record.specs.RecordNow.{RecordNow, Rooms, delivery_of, ends_of, feed_end, grounds_of, ids_of, speaks_of}
use Rattle.m2_record.specs.Sources.{sources_of}
use Rattle.m2_record.specs.TakenTrails.{HaveTrails, judgement_of}
use Rattle.m2_record.proofs.Entering.{reach-more}
use Rattle.m2_record.proofs.Keeping.{ground, one-more}
use Rattle.m2_record.proofs.Kept.{feeds-more}
use Rattle.m2_record.proofs.Opens.{closed-more, still-open}
use Rattle.m2_record.proofs.Telling.{Beside, beside, tells-beside}
use Rattle.m2_record.proofs.Trailing.{trails-behind}
use Rattle.m2_bytes.proofs.m2_lemmas.Lists.{all_append}

-- these parcels are handed out, and all else beside the core is the same
abbrev pub HandsMore : List Parcel → State → State → Type 0
HandsMore more s t = beside t ≡ record (beside s) { deliveries = s.deliveries ++ map delivery_of more }

-- both have a feed with the same end, or none has
abbrev pub SameEnd : Option FeedNow → Option FeedNow → Type 0
SameEnd (Some v) (Some w) = w.end ≡ v.end
SameEnd None None = Unit {0}
SameEnd x y = ⊥

pub same-feed_end : (x y : Option FeedNow) → SameEnd x y → feed_end y ≡ feed_end x
same-feed_end (Some v) (Some w) e = ap (λ (z : SeenEnd). z ∷ []) e
same-feed_end None None e = refl
same-feed_end (Some v) None e = absurd e
same-feed_end None (Some w) e = absurd e

pub same-open : (spent : List SeenEnd) (journal : List Entry) (x y : Option FeedNow) → SameEnd x y → FeedIsOpen spent journal x → FeedIsOpen spent journal y
same-open spent journal (Some v) (Some w) e h = subst (λ (x : SeenEnd). IsOpenAmong spent journal x.id) (sym e) h
same-open spent journal None None e h = tt
same-open spent journal (Some v) None e h = absurd e
same-open spent journal None (Some w) e h = absurd e

pub same-room : (n : ℕ) (x y : Option FeedNow) → SameEnd x y → FeedHasRoom n x → FeedHasRoom n y
same-room n (Some v) (Some w) e h = h
same-room n None None e h = tt
same-room n (Some v) None e h = absurd e
same-room n None (Some w) e h = absurd e

pub same-whole : (x y : Option FeedNow) → SameEnd x y → FeedIsWhole x → FeedIsWhole y
same-whole (Some v) (Some w) e h = ap (λ (x : SeenEnd). x.log.closed) e ∙ h
same-whole None None e h = tt
same-whole (Some v) None e h = absurd e
same-whole None (Some w) e h = absurd e

pub same-held : (x y : Option FeedNow) → SameEnd x y → OnFeedNow x (λ v. v.end.log.blocked ≡ true) → OnFeedNow y (λ v. v.end.log.blocked ≡ true)
same-held (Some v) (Some w) e h = ap (λ (x : SeenEnd). x.log.blocked) e ∙ h
same-held None y e h = absurd h
same-held (Some v) None e h = absurd e

module _ (r : RecordNow) (c : CoreNow) (facts : c.facts ≡ r.core.facts) (same : SameEnd r.core.live.feed c.live.feed) (room : Rooms) where
  speaks-too : (journal : List Entry) (t : State) → IsReplay r.core.facts (speaks_of r) journal t →
      IsReplay c.facts (sources_of (ground (map planned r.plan) (feed_end c.live.feed ++ r.spent) r.trails)) journal t
  speaks-too journal t p = subst (λ (f : SideFacts). IsReplay f (sources_of (ground (map planned r.plan) (feed_end c.live.feed ++ r.spent) r.trails)) journal t) (sym facts)
      (subst (λ (l : List SeenEnd). IsReplay r.core.facts (sources_of (ground (map planned r.plan) (l ++ r.spent) r.trails)) journal t) (sym (same-feed_end r.core.live.feed c.live.feed same)) p)

  module _ (s : State) (h : IsReplayedTo s r) (ends : room.ends ≡ r.room.ends) where
    room-too : FeedHasRoom room.ends c.live.feed
    room-too = subst (λ n. FeedHasRoom n c.live.feed) (sym ends) (same-room r.room.ends r.core.live.feed c.live.feed same h.room)

    -- no entry is made
    pub stands : Agrees c s → IsReplayedTo s (record r { core = c; room = room })
    stands a = record {
      replay = speaks-too r.journal s h.replay;
      core = a;
      steps = h.steps;
      reach = h.reach;
      parcels = h.parcels;
      spent = h.spent;
      feed = same-open r.spent r.journal r.core.live.feed c.live.feed same h.feed;
      room = room-too;
      few = h.few;
    }

    -- an entry that moves nothing, is no step of the plan, and hands these parcels out
    pub enters : (e : Entry) (i : JournalItem) (more : List Parcel) (last : ℕ) → MovesNothing e → StepIsThere (speaks_of r) r.journal e → closed_by e ≡ None → (passed e (reach_of r.journal)).steps ≡ (reach_of r.journal).steps →
        item_of (speaks_of r) (reach_of r.journal) e ≡ i → Lawful r.core.facts i s → Agrees c (after r.core.facts i s) → HandsMore more s (after r.core.facts i s) →
        IsReplayedTo (after r.core.facts i s) (record r { core = c; journal = r.journal ++ e ∷ []; parcels = r.parcels ++ more; last = last; room = room })
    enters e i more last still step unclosed steps is may a told = record {
      replay = speaks-too (r.journal ++ e ∷ []) (after r.core.facts i s)
          (subst (λ (j : JournalItem). IsReplay r.core.facts (speaks_of r) (r.journal ++ e ∷ []) (after r.core.facts j s)) is
          (one-more r.core.facts (grounds_of r) r.journal e s h.replay still step (subst (λ (j : JournalItem). Lawful r.core.facts j s) (sym is) may)));
      core = a;
      steps = h.steps ∙ sym (ap (λ (b : Beside). b.steps) told);
      reach = ap (λ p. p.steps) (reach-more r.journal e) ∙ steps ∙ h.reach ∙ sym (ap (λ (b : Beside). b.steps) told);
      parcels = (
        h.parcels.0,
        h.parcels.1,
        ap (λ (b : Beside). b.deliveries) told ∙ ap (λ (l : List Delivery). l ++ map delivery_of more) h.parcels.2
            ∙ append_assoc h.parcels.0 (map delivery_of r.parcels) (map delivery_of more) ∙ ap (λ (l : List Delivery). h.parcels.0 ++ l) (sym (map-append delivery_of r.parcels more)),
      );
      spent = h.spent;
      feed = same-open r.spent (r.journal ++ e ∷ []) r.core.live.feed c.live.feed same (still-open r.spent r.journal e r.core.live.feed unclosed h.feed);
      room = room-too;
      few = h.few;
    }

  module _ (k : IsWellKept r) (queue : FitFrames c.live.out.queue) where
    kept-at : (journal : List Entry) (parcels : List Parcel) (last : ℕ) → feeds_in journal ≡ feeds_in r.journal → AllByRecursion (IsFrom r.place) parcels →
        IsWellKept (record r { core = c; journal = journal; parcels = parcels; last = last; room = room })
    kept-at journal parcels last e p = record {
      ends = ap (λ (l : List SeenEnd). ids_of (r.spent ++ l)) (same-feed_end r.core.live.feed c.live.feed same) ∙ k.ends ∙ sym e;
      whole = same-whole r.core.live.feed c.live.feed same k.whole;
      parcels = p;
      plan = k.plan;
      queue = queue;
      waits = subst (λ (f : SideFacts). IsWithin f.node r.waits) (sym facts) k.waits;
      held = λ x. same-held r.core.live.feed c.live.feed same (k.held x);
    }

    pub kept-on : IsWellKept (record r { core = c; room = room })
    kept-on = kept-at r.journal r.parcels r.last refl k.parcels

    pub kept-with : (e : Entry) (more : List Parcel) (last : ℕ) → became_feed e ≡ None → AllByRecursion (IsFrom r.place) more →
        IsWellKept (record r { core = c; journal = r.journal ++ e ∷ []; parcels = r.parcels ++ more; last = last; room = room })
    kept-with e more last h p = kept-at (r.journal ++ e ∷ []) (r.parcels ++ more) last (feeds-more r.journal e h) (all_append (IsFrom r.place) r.parcels more k.parcels p)

-- ---- an entry that leaves the judgements as they were is none of an ask

told-judged : (e : Option Event) (s : State) → (journal.tells_if e s).judgements ≡ s.judgements
told-judged (Some e) s = ap (λ (b : Beside). b.judgements) (tells-beside e s)
told-judged None s = refl

answered-judged : (b : Bool) (f : SideFacts) (k : SocketId) (a : AskFacts) (number : ℕ) (answer : Answer) (unread : List ℕ) (s : State) →
    (if b then journal.takes_socket f k a number unread s else journal.sends k (replies_of answer) s).judgements ≡ s.judgements
answered-judged true f k a number answer unread s = refl
answered-judged false f k a number answer unread s = refl

no-more : (xs : List Judgement) (x : Judgement) → xs ++ x ∷ [] ≡ xs → ⊥
no-more xs x e = let l = length-append xs (x ∷ []) in let m = ap length e in omega (arith, l, m)

pub not-judged : (f : SideFacts) (src : Sources) (p : Places) (e : Entry) (s : State) → beside (after f (item_of src p e) s) ≡ beside s → judgement_of e ≡ None
not-judged f src p (entry.Judged k a number answer) s told =
    let t = journal.notes k a number answer s in
    let one : Judgement = record { socket = k; item = record { ask = a; answer = answer } } in
    absurd (no-more s.judgements one (sym (answered-judged (takes answer) f k a number answer (where_taken answer (src.unread k)) (journal.tells_if (journal.event_of f a number answer) t)
    ∙ told-judged (journal.event_of f a number answer) t) ∙ ap (λ (b : Beside). b.judgements) told))
not-judged f src p _ s told = refl

-- ---- records

pub same-trails : (r : RecordNow) (c : CoreNow) → c.facts ≡ r.core.facts → SameEnd r.core.live.feed c.live.feed → (journal : List Entry) →
    HaveTrails r.core.facts.node.entity (ends_of r) journal r.trails → HaveTrails c.facts.node.entity (feed_end c.live.feed ++ r.spent) journal r.trails
same-trails r c facts same journal h = subst (λ (f : SideFacts). HaveTrails f.node.entity (feed_end c.live.feed ++ r.spent) journal r.trails) (sym facts)
    (subst (λ (l : List SeenEnd). HaveTrails r.core.facts.node.entity (l ++ r.spent) journal r.trails) (sym (same-feed_end r.core.live.feed c.live.feed same)) h)

pub stands-record : (r : RecordNow) (c : CoreNow) (room : Rooms) → IsRecord r → c.facts ≡ r.core.facts → SameEnd r.core.live.feed c.live.feed → room.ends ≡ r.room.ends → FitFrames c.live.out.queue →
    ((s : State) → IsReplayedTo s r → Agrees c s) → IsRecord (record r { core = c; room = room })
stands-record r c room h facts same ends queue a = record {
  state = h.state;
  at_state = stands r c facts same room h.state h.at_state ends (a h.state h.at_state);
  settled = h.settled;
  closed = h.closed;
  trails = same-trails r c facts same r.journal h.trails;
  kept = kept-on r c facts same room h.kept queue;
}

-- an entry that hands these parcels out
pub hands-record : (r : RecordNow) (c : CoreNow) (room : Rooms) (e : Entry) (i : JournalItem) (more : List Parcel) (last : ℕ) → IsRecord r → c.facts ≡ r.core.facts → SameEnd r.core.live.feed c.live.feed → room.ends ≡ r.room.ends → FitFrames c.live.out.queue →
    MovesNothing e → StepIsThere (speaks_of r) r.journal e → closed_by e ≡ None → became_feed e ≡ None → judgement_of e ≡ None → (passed e (reach_of r.journal)).steps ≡ (reach_of r.journal).steps →
    item_of (speaks_of r) (reach_of r.journal) e ≡ i → ((s : State) → Agrees r.core s → Lawful r.core.facts i s) → ((s : State) → Agrees r.core s → Agrees c (after r.core.facts i s)) →
    ((s : State) → Agrees r.core s → HandsMore more s (after r.core.facts i s)) → AllByRecursion (IsFrom r.place) more →
    IsRecord (record r { core = c; journal = r.journal ++ e ∷ []; parcels = r.parcels ++ more; last = last; room = room })
hands-record r c room e i more last h facts same ends queue still step unclosed none unjudged steps is may leads told from = record {
  state = after r.core.facts i h.state;
  at_state = enters r c facts same room h.state h.at_state ends e i more last still step unclosed steps is (may h.state h.at_state.core) (leads h.state h.at_state.core) (told h.state h.at_state.core);
  settled = ap (λ (b : Beside). b.spent) (told h.state h.at_state.core) ∙ h.settled;
  closed = closed-more r.journal e unclosed ∙ h.closed;
  trails = trails-behind c.facts.node.entity (feed_end c.live.feed ++ r.spent) r.journal e r.trails unjudged (same-trails r c facts same r.journal h.trails);
  kept = kept-with r c facts same room h.kept queue e more last none from;
}

-- one that hands out nothing
pub enters-record : (r : RecordNow) (c : CoreNow) (room : Rooms) (e : Entry) (i : JournalItem) → IsRecord r → c.facts ≡ r.core.facts → SameEnd r.core.live.feed c.live.feed → room.ends ≡ r.room.ends → FitFrames c.live.out.queue →
    MovesNothing e → StepIsThere (speaks_of r) r.journal e → closed_by e ≡ None → became_feed e ≡ None → (passed e (reach_of r.journal)).steps ≡ (reach_of r.journal).steps →
    item_of (speaks_of r) (reach_of r.journal) e ≡ i → ((s : State) → Agrees r.core s → Lawful r.core.facts i s) → ((s : State) → Agrees r.core s → Agrees c (after r.core.facts i s)) →
    ((s : State) → beside (after r.core.facts i s) ≡ beside s) → IsRecord (record r { core = c; journal = r.journal ++ e ∷ []; room = room })
enters-record r c room e i h facts same ends queue still step unclosed none steps is may leads told =
    subst (λ (l : List Parcel). IsRecord (record r { core = c; journal = r.journal ++ e ∷ []; parcels = l; room = room })) (append-nil r.parcels)
    (hands-record r c room e i [] r.last h facts same ends queue still step unclosed none
    (not-judged r.core.facts (speaks_of r) (reach_of r.journal) e h.state (subst (λ (j : JournalItem). beside (after r.core.facts j h.state) ≡ beside h.state) (sym is) (told h.state)))
    steps is may leads
    (λ s a. told s ∙ ap (λ (l : List Delivery). record (beside s) { deliveries = l }) (sym (append-nil s.deliveries))) tt)
