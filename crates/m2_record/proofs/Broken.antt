-- A feed is closed for a fault of its end.
use Rattle.std.specs.Prelude.{◌⊎◌}
use Rattle.std.proofs.Common.{◌≡◌, ℕ, ◌||◌, if◌then◌else◌, Bool, true, false, List, [], ◌∷◌, ◌++◌, map, Option, Some, None, inl, inr, refl, sym, ap, subst, ◌∙◌}
use Rattle.std.specs.Option.{option_to_list}
use Rattle.m2_core.specs.LiveNow.{OnFeedNow, is_waiting}
use Rattle.m2_core.specs.Effects.{IsAftermath, closed_if}
use Rattle.m2_core.specs.LiveCalls.{after_fault}
use Rattle.m2_core.specs.Waits.{stepped}
use Rattle.m2_core.specs.declared.waits.Waits.{Waits}
use Rattle.m2_core.specs.Agrees.{Agrees, FeedsAgree, LeadsOn}
use Rattle.m2_core.specs.CoreNow.{CoreNow}
use Rattle.m2_dispatch.specs.declared.parcel.Parcel.{Parcel}
use Rattle.m2_fabric.specs.declared.socket.SocketId.{SocketId}
use Rattle.m2_fabric.specs.End.{SeenEnd, after_closing}
use Rattle.m2_fabric.specs.Sockets.{same_socket}
use Rattle.m2_feed.specs.FeedNow.{FeedNow}
use Rattle.m2_journal.specs.declared.entry.Entry.{Entry}
use Rattle.m2_journal.specs.declared.entry.Entry.TheVariants as entry
use Rattle.m2_journal.specs.declared.facts.NodeFacts.{NodeFacts}
use Rattle.m2_journal.specs.Items as item
use Rattle.m2_journal.specs.Items.{item_of, reach_of}
use Rattle.m2_journal.specs.Lawful.{OnFeedAt, is_broken}
use Rattle.m2_journal.specs.Plan.{planned}
use Rattle.m2_journal.specs.Replay.{IsReplay}
use Rattle.m2_journal.specs.SideFacts.{SideFacts}
use Rattle.m2_journal.specs.State.{Feed, State}
use Rattle.m2_journal.specs.Steps as journal
use Rattle.m2_journal.specs.Steps.{after, breaks, forgets, is_on}
use Rattle.m2_session.specs.declared.event.Effects.{Effects}
use Rattle.m2_session.specs.declared.event.Event.TheVariants as event
use Rattle.m2_session.specs.declared.session.Phase.{Phase}
use Rattle.m2_session.specs.declared.session.Session.{Session}
use Rattle.m2_session.specs.Steps.{step_of}
use Rattle.m2_session.proofs.Events.{fault_closes}
use Rattle.m2_record.specs.Calls.{BytesAreBroken, closed_entries, told_parcels}
use Rattle.m2_record.specs.IsRecord.{IsRecord, IsReplayedTo, IsWellKept, FeedHasRoom, FeedIsOpen, FeedIsWhole, feeds_in}
use Rattle.m2_record.specs.RecordNow.{RecordNow, Rooms, ends_of, feed_end, grounds_of, ids_of, speaks_of}
use Rattle.m2_record.specs.Sources.{broken_of, end_at, is_broken_end, sources_of}
use Rattle.m2_record.specs.TakenTrails.{HaveTrails}
use Rattle.m2_record.proofs.Ends.{ends-moved}
use Rattle.m2_record.proofs.Entering.{reach-more}
use Rattle.m2_record.proofs.FeedLeft.{closed-left, parcels-left}
use Rattle.m2_record.proofs.Kept.{feeds-more, ids-left, stepped-within, tells-fits, told-from}
use Rattle.m2_record.proofs.Keeping.{as-planned, ground, one-more, replay-stays}
use Rattle.m2_record.proofs.Telling.{Beside, beside, feed_left, tells-beside, tells-feed, told_by}
use Rattle.m2_record.proofs.Trailing.{closed-behind, ends-go-on, trails-more}
use Rattle.m2_bytes.proofs.m2_lemmas.Booleans.{or_right, or_left, false_isnt_true}
use Rattle.m2_fabric.proofs.Sockets.{same_refl}

-- ---- the entry

-- what the end or the bytes on it show
abbrev pub Cause : RecordNow → FeedNow → Type 0
Cause r v = (is_broken_end v.end ≡ true) ⊎ BytesAreBroken r

on-feed : (r : RecordNow) (s : State) (v : FeedNow) (d : Option Feed) (broken : Bool) → FeedsAgree r.core.facts s (Some v) d → (broken ≡ true) ⊎ OnFeedAt d (λ x. is_broken s x ≡ true) →
    OnFeedAt d (λ x. (same_socket v.end.id x.socket ≡ true) × ((broken || is_broken s x) ≡ true))
on-feed r s v (Some d) broken a (inl b) = (subst (λ (k : SocketId). same_socket v.end.id k ≡ true) a.socket (same_refl v.end.id), or_left broken (is_broken s d) b)
on-feed r s v (Some d) broken a (inr b) = (subst (λ (k : SocketId). same_socket v.end.id k ≡ true) a.socket (same_refl v.end.id), or_right broken (is_broken s d) b)
on-feed r s v None broken a b = absurd a

is-on-feed : (f : SideFacts) (s : State) (v : FeedNow) (d : Option Feed) → FeedsAgree f s (Some v) d → is_on v.end.id d ≡ true
is-on-feed f s v (Some d) a = subst (λ (k : SocketId). same_socket v.end.id k ≡ true) a.socket (same_refl v.end.id)
is-on-feed f s v None a = absurd a

breaking : (b : Bool) (k : SocketId) (s : State) → b ≡ true → (if b then breaks s else forgets k s) ≡ breaks s
breaking true k s h = refl
breaking false k s h = absurd (false_isnt_true h)

module _ (r : RecordNow) (s : State) (h : IsReplayedTo s r) (v : FeedNow) (was : r.core.live.feed ≡ Some v) (cause : Cause r v) where
  abbrev left : Effects
  left = (step_of r.core.live.session (event.Faulted (is_waiting r.core.live))).effects

  agreed : FeedsAgree r.core.facts s (Some v) s.feed
  agreed = subst (λ (o : Option FeedNow). FeedsAgree r.core.facts s o s.feed) was h.core.feed

  end-at : (b : Bool) → is_broken_end v.end ≡ b → broken_of (end_at (feed_end r.core.live.feed ++ r.spent) v.end.id) ≡ b
  end-at b e = subst (λ (o : Option FeedNow). broken_of (end_at (feed_end o ++ r.spent) v.end.id) ≡ b) (sym was) (rw (same_refl v.end.id) e)

  shown : Cause r v → (broken_of (end_at (feed_end r.core.live.feed ++ r.spent) v.end.id) ≡ true) ⊎ OnFeedAt s.feed (λ x. is_broken s x ≡ true)
  shown (inl b) = inl (end-at true b)
  shown (inr b) = inr (b s h)

  breaks-there : after r.core.facts (item_of (speaks_of r) (reach_of r.journal) (entry.Closed v.end.id)) s ≡ breaks s
  breaks-there = breaking (is_on v.end.id s.feed) v.end.id s (is-on-feed r.core.facts s v s.feed agreed)

  told : beside (breaks s) ≡ record (beside s) { deliveries = s.deliveries ++ told_by left }
  told = subst (λ (e : Effects). beside (breaks s) ≡ record (beside s) { deliveries = s.deliveries ++ told_by e }) same-left
      (ap (λ (b : Beside). record b { spent = s.spent }) (tells-beside (event.Faulted (journal.is_waiting s)) s))
    where
      same-left : (step_of s.session (event.Faulted (journal.is_waiting s))).effects ≡ left
      same-left = rw (h.core.session, h.core.queue) refl

  no-feed : (after_fault r.core.live).feed ≡ None
  no-feed = tells-feed (event.Faulted (is_waiting r.core.live)) r.core.live ∙ ap (λ b. feed_left b r.core.live.feed) (fault_closes r.core.live.session (is_waiting r.core.live))

  abbrev broken_core : CoreNow
  broken_core = record r.core { live = after_fault r.core.live }

  replay-there : IsReplay r.core.facts (sources_of (ground (map planned r.plan) (feed_end (after_fault r.core.live).feed ++ (r.spent ++ after_closing v.end ∷ [])) r.trails)) (r.journal ++ entry.Closed v.end.id ∷ []) (breaks s)
  replay-there = subst (λ (o : Option FeedNow). IsReplay r.core.facts (sources_of (ground (map planned r.plan) (feed_end o ++ (r.spent ++ after_closing v.end ∷ [])) r.trails)) (r.journal ++ entry.Closed v.end.id ∷ []) (breaks s)) (sym no-feed)
      (replay-stays (r.journal ++ entry.Closed v.end.id ∷ []) (map planned r.plan) (map planned r.plan) (v.end ∷ r.spent) (r.spent ++ after_closing v.end ∷ []) r.trails (as-planned (map planned r.plan))
      (ends-moved (r.journal ++ entry.Closed v.end.id ∷ []) v.end r.spent (subst (FeedIsOpen r.spent r.journal) was h.feed).unspent) r.core.facts (breaks s)
      (subst (λ (o : Option FeedNow). IsReplay r.core.facts (sources_of (ground (map planned r.plan) (feed_end o ++ r.spent) r.trails)) (r.journal ++ entry.Closed v.end.id ∷ []) (breaks s)) was
      (subst (IsReplay r.core.facts (speaks_of r) (r.journal ++ entry.Closed v.end.id ∷ [])) breaks-there
      (one-more r.core.facts (grounds_of r) r.journal (entry.Closed v.end.id) s h.replay tt tt (inl (on-feed r s v s.feed _ agreed (shown cause)))))))

  pub is-broken : (now : ℕ) (room : Rooms) → ((broken : Bool) → LeadsOn (item.closed v.end.id broken) r.core broken_core) →
      IsReplayedTo (breaks s) (record r {
        core = broken_core;
        journal = r.journal ++ entry.Closed v.end.id ∷ [];
        spent = r.spent ++ after_closing v.end ∷ [];
        parcels = r.parcels ++ told_parcels r.place left.discard left.remote_reset;
        waits = stepped r.core.facts.node now r.core.live.session.phase broken_core.live.session.phase r.waits;
        held = false;
        room = room;
      })
  is-broken now room leads = record {
    replay = replay-there;
    core = subst (Agrees broken_core) breaks-there (leads (broken_of (end_at (feed_end r.core.live.feed ++ r.spent) v.end.id)) s h.core);
    steps = h.steps ∙ sym (ap (λ (b : Beside). b.steps) told);
    reach = ap (λ p. p.steps) (reach-more r.journal (entry.Closed v.end.id)) ∙ h.reach ∙ sym (ap (λ (b : Beside). b.steps) told);
    parcels = parcels-left r.handed r.parcels s.deliveries (breaks s).deliveries r.place left h.parcels (ap (λ (b : Beside). b.deliveries) told);
    spent = closed-left true (Some v) r.spent h.spent;
    feed = subst (FeedIsOpen (r.spent ++ after_closing v.end ∷ []) (r.journal ++ entry.Closed v.end.id ∷ [])) (sym no-feed) tt;
    room = subst (FeedHasRoom room.ends) (sym no-feed) tt;
    few = h.few;
  }

  pub trails-broken : HaveTrails r.core.facts.node.entity (ends_of r) r.journal r.trails →
      HaveTrails r.core.facts.node.entity (feed_end (after_fault r.core.live).feed ++ (r.spent ++ after_closing v.end ∷ [])) (r.journal ++ entry.Closed v.end.id ∷ []) r.trails
  trails-broken t = subst (λ (o : Option FeedNow). HaveTrails r.core.facts.node.entity (feed_end o ++ (r.spent ++ after_closing v.end ∷ [])) (r.journal ++ entry.Closed v.end.id ∷ []) r.trails) (sym no-feed)
      (trails-more r.core.facts.node.entity (v.end ∷ r.spent) (r.spent ++ after_closing v.end ∷ []) r.journal (entry.Closed v.end.id) r.trails
      (ends-go-on r.journal (v.end ∷ r.spent) (r.spent ++ after_closing v.end ∷ []) (ends-moved r.journal v.end r.spent (subst (FeedIsOpen r.spent r.journal) was h.feed).unspent)) refl
      (subst (λ (o : Option FeedNow). HaveTrails r.core.facts.node.entity (feed_end o ++ r.spent) r.journal r.trails) was t))

  closed-all : closed_if left.close r.core.live.feed ≡ Some (after_closing v.end)
  closed-all = ap (λ b. closed_if b r.core.live.feed) (fault_closes r.core.live.session (is_waiting r.core.live)) ∙ ap (closed_if true) was

  pub kept-broken : (now : ℕ) (room : Rooms) → IsWellKept r → IsWellKept (record r {
    core = broken_core;
    journal = r.journal ++ entry.Closed v.end.id ∷ [];
    spent = r.spent ++ after_closing v.end ∷ [];
    parcels = r.parcels ++ told_parcels r.place left.discard left.remote_reset;
    waits = stepped r.core.facts.node now r.core.live.session.phase broken_core.live.session.phase r.waits;
    held = false;
    room = room;
  })
  kept-broken now room k = record {
    ends = subst (λ (o : Option FeedNow). ids_of ((r.spent ++ after_closing v.end ∷ []) ++ feed_end o) ≡ feeds_in (r.journal ++ entry.Closed v.end.id ∷ [])) (sym no-feed)
        (ids-left true (Some v) r.spent ∙ subst (λ (o : Option FeedNow). ids_of (r.spent ++ feed_end o) ≡ feeds_in r.journal) was k.ends ∙ sym (feeds-more r.journal (entry.Closed v.end.id) refl));
    whole = subst FeedIsWhole (sym no-feed) tt;
    parcels = told-from r.place r.parcels left.discard left.remote_reset k.parcels;
    plan = k.plan;
    queue = tells-fits (event.Faulted (is_waiting r.core.live)) r.core.live k.queue;
    waits = stepped-within r.core.facts.node now r.core.live.session.phase broken_core.live.session.phase r.waits k.waits;
    held = λ e. absurd (false_isnt_true e);
  }

-- ---- as the code comes to it

abbrev left_of : RecordNow → Effects
left_of r = (step_of r.core.live.session (event.Faulted (is_waiting r.core.live))).effects

module _ (r : RecordNow) (h : IsRecord r) (v : FeedNow) (was : r.core.live.feed ≡ Some v) (cause : Cause r v) (now : ℕ) (room : Rooms) where
  abbrev broken_with : CoreNow → Phase → RecordNow
  broken_with c p = record r {
    core = c;
    journal = r.journal ++ entry.Closed v.end.id ∷ [];
    spent = r.spent ++ after_closing v.end ∷ [];
    parcels = r.parcels ++ told_parcels r.place (left_of r).discard (left_of r).remote_reset;
    waits = stepped r.core.facts.node now r.core.live.session.phase p r.waits;
    held = false;
    room = room;
  }

  pub went-broken : (c : CoreNow) → c ≡ record r.core { live = after_fault r.core.live } → ((broken : Bool) → LeadsOn (item.closed v.end.id broken) r.core c) →
      IsRecord (broken_with c c.live.session.phase)
  went-broken c e leads = subst (λ (d : CoreNow). ((broken : Bool) → LeadsOn (item.closed v.end.id broken) r.core d) → IsRecord (broken_with d d.live.session.phase)) (sym e)
      (λ more. record {
        state = breaks h.state;
        at_state = is-broken r h.state h.at_state v was cause now room more;
        settled = h.settled;
        closed = closed-behind r.journal r.spent (Some (after_closing v.end)) h.closed;
        trails = trails-broken r h.state h.at_state v was cause h.trails;
        kept = kept-broken r h.state h.at_state v was cause now room h.kept;
      }) leads

-- what is closed is the feed's end
closed-is : (r : RecordNow) (v : FeedNow) (closed : Option SeenEnd) → r.core.live.feed ≡ Some v → closed ≡ closed_if (left_of r).close r.core.live.feed →
    closed ≡ Some (after_closing v.end)
closed-is r v closed was e = e ∙ ap (λ b. closed_if b r.core.live.feed) (fault_closes r.core.live.session (is_waiting r.core.live)) ∙ ap (closed_if true) was

-- what the code has made of a record
pub record HasBroken (now : ℕ) (r : RecordNow) (c : CoreNow) (journal : List Entry) (spent : List SeenEnd) (parcels : List Parcel) (waits : Waits) (closed : Option SeenEnd) (discarded reset : Bool) : Type 0 where
  pub core : c ≡ record r.core { live = after_fault r.core.live }
  pub aftermath : IsAftermath (left_of r) r.core.live.feed closed discarded reset
  pub journal_is : journal ≡ r.journal ++ closed_entries closed
  pub spent_is : spent ≡ r.spent ++ option_to_list closed
  pub parcels_are : parcels ≡ r.parcels ++ told_parcels r.place discarded reset
  pub waits_are : waits ≡ stepped r.core.facts.node now r.core.live.session.phase c.live.session.phase r.waits

broken-after : (now : ℕ) (r : RecordNow) (v : FeedNow) (c : CoreNow) (journal : List Entry) (spent : List SeenEnd) (parcels : List Parcel) (waits : Waits) (room : Rooms) (closed : Option SeenEnd) (discarded reset : Bool) →
    IsRecord r → r.core.live.feed ≡ Some v → Cause r v → ((broken : Bool) → LeadsOn (item.closed v.end.id broken) r.core c) →
    HasBroken now r c journal spent parcels waits closed discarded reset →
    IsRecord (record r { core = c; journal = journal; spent = spent; parcels = parcels; waits = waits; held = false; room = room })
broken-after now r v c journal spent parcels waits room closed discarded reset h was cause leads x =
    rw (x.journal_is, x.spent_is, x.parcels_are, x.waits_are, closed-is r v closed was x.aftermath.end, x.aftermath.thrown_away, x.aftermath.reset)
    (went-broken r h v was cause now room c x.core leads)

pub broken-on : (now : ℕ) (r : RecordNow) (o : Option FeedNow) (c : CoreNow) (journal : List Entry) (spent : List SeenEnd) (parcels : List Parcel) (waits : Waits) (room : Rooms) (closed : Option SeenEnd) (discarded reset : Bool) →
    r.core.live.feed ≡ o → IsRecord r → OnFeedNow o (Cause r) → OnFeedNow o (λ v. (broken : Bool) → LeadsOn (item.closed v.end.id broken) r.core c) →
    HasBroken now r c journal spent parcels waits closed discarded reset →
    IsRecord (record r { core = c; journal = journal; spent = spent; parcels = parcels; waits = waits; held = false; room = room })
broken-on now r (Some v) c journal spent parcels waits room closed discarded reset was h cause leads x = broken-after now r v c journal spent parcels waits room closed discarded reset h was cause leads x
broken-on now r None c journal spent parcels waits room closed discarded reset was h cause leads x = absurd cause

-- what the code reads of the core is what it says
pub waits-as : (f g : NodeFacts) (now : ℕ) (s t p q : Session) (w v : Waits) → v ≡ stepped g now p.phase q.phase w → g ≡ f → p ≡ s → q ≡ t → v ≡ stepped f now s.phase t.phase w
waits-as f g now s t p q w v e a b c = e ∙ rw (a, b, c) refl
