-- A record opens a socket.
use Rattle.std.proofs.Common.{◌≡◌, ℕ, ◌<◌, ◌≤◌, ◌&&◌, ◌||◌, not, Bool, true, false, List, [], ◌∷◌, ◌++◌, map, Option, Some, None, refl, sym, ap, subst, ◌∙◌, arith}
use Rattle.std.specs.Prelude.{nat_lt, IfSome, IsSome}
use Rattle.std.specs.List.{list_any}
use Rattle.std.specs.Option.{is_some, option_to_list}
use Rattle.std.proofs.lemmas.Bool.{ltb-false}
use Rattle.std.proofs.lemmas.List.Folds.{list_any-append}
use Rattle.m2_handshake.specs.m2_control.declared.fields.TheConstants.{GREATEST_NUMBER}
use Rattle.m2_core.specs.LiveNow.{OnFeedNow}
use Rattle.m2_core.specs.Agrees.{FeedsAgree, LeadsOn}
use Rattle.m2_core.specs.Calls.{IsOpening, after_opened, is_exhausted}
use Rattle.m2_core.specs.CoreNow.{CoreNow, may_dial}
use Rattle.m2_session.specs.Dials.{at_rest}
use Rattle.m2_bytes.specs.Items.{Holding}
use Rattle.m2_fabric.specs.declared.socket.SocketId.{SocketId}
use Rattle.m2_fabric.specs.End.{SeenEnd}
use Rattle.m2_fabric.specs.Sockets.{IsNewTo}
use Rattle.m2_feed.specs.FeedNow.{FeedNow}
use Rattle.m2_journal.specs.declared.entry.Entry.{Entry}
use Rattle.m2_journal.specs.declared.entry.Entry.TheVariants as entry
use Rattle.m2_journal.specs.Items as item
use Rattle.m2_journal.specs.Items.{items_of}
use Rattle.m2_journal.specs.Laws.{IsFed}
use Rattle.m2_journal.specs.Lawful.{MayOpen, dial_connect, where_so}
use Rattle.m2_journal.specs.Lawful as law
use Rattle.m2_journal.specs.Plan.{planned}
use Rattle.m2_journal.specs.Replay.{IsReplay}
use Rattle.m2_journal.specs.SideFacts.{SideFacts}
use Rattle.m2_journal.specs.State.{Feed, State}
use Rattle.m2_journal.specs.Steps.{after}
use Rattle.m2_journal.proofs.Fed.{are_lawful}
use Rattle.m2_dispatch.specs.m2_queues.OutQueues.{next_number}
use Rattle.m2_session.specs.declared.session.Phase.{Phase}
use Rattle.m2_session.specs.declared.session.Phase.TheVariants.{Absent, Connecting, IdentSent, ReconnectSent, Ready, Standby, Wait}
use Rattle.m2_session.specs.Phases.{is, is_among, with_feed}
use Rattle.m2_fabric.specs.Log.{Log, nothing_done}
use Rattle.m2_session.specs.declared.event.Event.TheVariants as event
use Rattle.m2_record.specs.Calls.{ConnectIsDue, IsNewSocket, IsUntouched}
use Rattle.m2_record.specs.IsRecord.{FeedHasRoom, IsRecord, IsReplayedTo, IsWellKept, closed_in, feeds_in}
use Rattle.m2_record.specs.RecordNow.{RecordNow, Rooms, feed_end, grounds_of, ids_of, speaks_of}
use Rattle.m2_record.specs.Sources.{sources_of}
use Rattle.m2_record.specs.TakenTrails.{HaveTrails}
use Rattle.m2_record.proofs.Ends.{ends-fresh}
use Rattle.m2_record.proofs.Entering.{reach-more}
use Rattle.m2_record.proofs.Keeping.{as-planned, ground, one-more, replay-stays}
use Rattle.m2_record.proofs.Dues.{connects}
use Rattle.m2_record.proofs.Kept.{feeds-opened, ids-opened, kept-in-room, tells-fits}
use Rattle.m2_record.proofs.Naming.{is-unclosed, is-unnamed}
use Rattle.m2_record.proofs.Opens.{closed-more}
use Rattle.m2_record.proofs.Trailing.{ends-go-on, trails-more}
use Rattle.m2_bytes.proofs.m2_lemmas.Booleans.{neither_of_or, both_of_and, false_isnt_true}

-- ---- a record that may dial has no feed

no-dial : (a : Bool) → (a && false) ≡ true → ⊥
no-dial a h = false_isnt_true (both_of_and a false h).1

unfed-phase : (p : Phase) (server busy : Bool) → (not server && ((is_among p at_rest && busy) || is p Wait)) ≡ true → is_among p with_feed ≡ false
unfed-phase Absent server busy h = refl
unfed-phase Connecting server busy h = absurd (no-dial (not server) h)
unfed-phase IdentSent server busy h = absurd (no-dial (not server) h)
unfed-phase ReconnectSent server busy h = absurd (no-dial (not server) h)
unfed-phase Ready server busy h = absurd (no-dial (not server) h)
unfed-phase Standby server busy h = refl
unfed-phase Wait server busy h = refl

none-too : (f : SideFacts) (s : State) (v : Option FeedNow) (d : Option Feed) → FeedsAgree f s v d → is_some d ≡ false → v ≡ None
none-too f s None d a e = refl
none-too f s (Some v) (Some d) a e = absurd (false_isnt_true (sym e))
none-too f s (Some v) None a e = absurd a

pub unfed : (r : RecordNow) (s : State) → IsReplayedTo s r → may_dial r.core ≡ true → r.core.live.feed ≡ None
unfed r s h due =
    let fed : IsFed s = subst IsFed (sym h.replay.state) (are_lawful.fed r.core.facts (items_of (speaks_of r) r.journal) h.replay.lawful) in
    let phase : is_among r.core.live.session.phase with_feed ≡ false = unfed-phase r.core.live.session.phase r.core.live.session.policy.server _ due in
    none-too r.core.facts s r.core.live.feed s.feed h.core.feed (fed ∙ ap (λ x. is_among x.phase with_feed) (sym h.core.session) ∙ phase)

-- ---- its connect number fits

one-fits : (b : Bool) (n : ℕ) → b ≡ true → list_any (nat_lt GREATEST_NUMBER) (where_so b n) ≡ false → nat_lt GREATEST_NUMBER n ≡ false
one-fits true n e h = (neither_of_or (nat_lt GREATEST_NUMBER n) false h).0
one-fits false n e h = absurd (false_isnt_true e)

pub connect-fits : (c : CoreNow) → may_dial c ≡ true → is_exhausted c ≡ false → dial_connect c.live.session ≤ GREATEST_NUMBER
connect-fits c due h =
    let numbers = option_to_list (next_number c.live.out.queue) in
    let dials = where_so (may_dial c) (dial_connect c.live.session) in
    let asks = where_so (is c.live.session.phase Connecting) c.live.session.connect in
    let first = neither_of_or _ _ (sym (list_any-append (nat_lt GREATEST_NUMBER) (numbers ++ dials) asks) ∙ h) in
    let second = neither_of_or _ _ (sym (list_any-append (nat_lt GREATEST_NUMBER) numbers dials) ∙ first.0) in
    ltb-false GREATEST_NUMBER (dial_connect c.live.session) (one-fits (may_dial c) (dial_connect c.live.session) due second.1)

-- ---- the entry

same-dial : (r : RecordNow) (s : State) → IsReplayedTo s r → law.may_dial s ≡ may_dial r.core
same-dial r s h = rw (h.core.session, h.core.queue, h.core.dials) refl

module _ (r : RecordNow) (s : State) (h : IsReplayedTo s r) (v : FeedNow) (due : may_dial r.core ≡ true) (fits : is_exhausted r.core ≡ false) (fresh : v.end.log ≡ nothing_done)
    (new : IsNewSocket r v.end.id) (leads : LeadsOn (item.opened v.end.id) r.core (after_opened v r.core)) where
  may-open : MayOpen r.core.facts s v.end.id
  may-open = record {
    due = same-dial r s h ∙ due;
    leads = new.leads;
    not_opened = (is-unnamed r.core.facts (speaks_of r) r.journal s v.end.id h.replay new.entries).0;
    not_judged = (is-unnamed r.core.facts (speaks_of r) r.journal s v.end.id h.replay new.entries).1;
    fits = subst (λ x. dial_connect x ≤ GREATEST_NUMBER) h.core.session (connect-fits r.core due fits);
  }

  abbrev journal : List Entry
  journal = r.journal ++ entry.Opened v.end.id ∷ []

  unspent : IsNewTo (ids_of r.spent) v.end.id
  unspent = subst (λ (o : Option FeedNow). IsNewTo (ids_of (feed_end o ++ r.spent)) v.end.id) (unfed r s h due) new.ends

  unclosed : IsNewTo (closed_in journal) v.end.id
  unclosed = subst (λ (l : List SocketId). IsNewTo l v.end.id) (sym (closed-more r.journal (entry.Opened v.end.id) refl)) (is-unclosed r.journal v.end.id new.entries)

  before : IsReplay r.core.facts (sources_of (ground (map planned r.plan) r.spent r.trails)) journal (after r.core.facts (item.opened v.end.id) s)
  before = subst (λ (o : Option FeedNow). IsReplay r.core.facts (sources_of (ground (map planned r.plan) (feed_end o ++ r.spent) r.trails)) journal (after r.core.facts (item.opened v.end.id) s)) (unfed r s h due)
      (one-more r.core.facts (grounds_of r) r.journal (entry.Opened v.end.id) s h.replay tt tt may-open)

  pub opened : (room : Rooms) → 0 < room.ends → IsReplayedTo (after r.core.facts (item.opened v.end.id) s) (record r { core = after_opened v r.core; journal = r.journal ++ entry.Opened v.end.id ∷ []; room = room })
  opened room more = record {
    replay = replay-stays journal (map planned r.plan) (map planned r.plan) r.spent (v.end ∷ r.spent) r.trails (as-planned (map planned r.plan))
        (ends-fresh journal v.end r.spent (record { got = ap (λ (l : Log). l.got) fresh; put = ap (λ (l : Log). l.put) fresh; runs = ap (λ (l : Log). l.runs) fresh }) unspent unclosed) r.core.facts (after r.core.facts (item.opened v.end.id) s) before;
    core = leads s h.core;
    steps = h.steps;
    reach = ap (λ p. p.steps) (reach-more r.journal (entry.Opened v.end.id)) ∙ h.reach;
    parcels = h.parcels;
    spent = h.spent;
    feed = record { unspent = unspent; unclosed = unclosed };
    room = more;
    few = h.few;
  }

-- ---- what holds beside the journal

module _ (r : RecordNow) (h : IsRecord r) (v : FeedNow) (due : may_dial r.core ≡ true) (fresh : v.end.log ≡ nothing_done) where
  no-feed : r.core.live.feed ≡ None
  no-feed = unfed r h.state h.at_state due

  pub trails-opened : IsNewSocket r v.end.id → HaveTrails r.core.facts.node.entity (v.end ∷ r.spent) (r.journal ++ entry.Opened v.end.id ∷ []) r.trails
  trails-opened new = trails-more r.core.facts.node.entity r.spent (v.end ∷ r.spent) r.journal (entry.Opened v.end.id) r.trails
      (ends-go-on r.journal r.spent (v.end ∷ r.spent) (ends-fresh r.journal v.end r.spent (record { got = ap (λ (l : Log). l.got) fresh; put = ap (λ (l : Log). l.put) fresh; runs = ap (λ (l : Log). l.runs) fresh })
      (subst (λ (o : Option FeedNow). IsNewTo (ids_of (feed_end o ++ r.spent)) v.end.id) no-feed new.ends) (is-unclosed r.journal v.end.id new.entries)))
      refl (subst (λ (o : Option FeedNow). HaveTrails r.core.facts.node.entity (feed_end o ++ r.spent) r.journal r.trails) no-feed h.trails)

  pub kept-opened : (room : Rooms) → IsWellKept (record r { core = after_opened v r.core; journal = r.journal ++ entry.Opened v.end.id ∷ []; room = room })
  kept-opened room = record {
    ends = ids-opened r.spent v.end (feeds_in r.journal) (subst (λ (o : Option FeedNow). ids_of (r.spent ++ feed_end o) ≡ feeds_in r.journal) no-feed h.kept.ends) ∙ sym (feeds-opened r.journal v.end.id);
    whole = ap (λ (l : Log). l.closed) fresh;
    parcels = h.kept.parcels;
    plan = h.kept.plan;
    queue = tells-fits event.Dialled r.core.live h.kept.queue;
    waits = h.kept.waits;
    held = λ e. absurd (subst (λ (o : Option FeedNow). OnFeedNow o (λ w. w.end.log.blocked ≡ true)) no-feed (h.kept.held e));
  }

-- ---- as the code comes to it

module _ (r : RecordNow) (c : CoreNow) (e : SeenEnd) (now : ℕ) (room : Rooms) (h : IsRecord r) (due : ConnectIsDue now r) (fresh : IsUntouched e.log) (new : IsNewSocket r e.id) (more : 0 < room.ends) where
  opened-with : (o : Option FeedNow) → IfSome o (λ v. IsOpening r.core.facts e v × (c ≡ after_opened v r.core)) → IsSome o → LeadsOn (item.opened e.id) r.core c →
      IsRecord (record r { core = c; journal = r.journal ++ entry.Opened e.id ∷ []; room = room })
  opened-with None value some leads = absurd (false_isnt_true some)
  opened-with (Some v) value some leads =
      let end : v.end ≡ e = ap (λ w. w.end) value.0 in
      subst (λ (d : CoreNow). IsRecord (record r { core = d; journal = r.journal ++ entry.Opened e.id ∷ []; room = room })) (sym value.1)
      (subst (λ (k : SeenEnd). IsRecord (record r { core = after_opened v r.core; journal = r.journal ++ entry.Opened k.id ∷ []; room = room })) end
      (record {
        state = after r.core.facts (item.opened v.end.id) h.state;
        at_state = opened r h.state h.at_state v (connects now r due).0 (connects now r due).1 (subst (λ (k : SeenEnd). k.log ≡ nothing_done) (sym end) fresh) (subst (λ (k : SeenEnd). IsNewSocket r k.id) (sym end) new)
            (subst (λ (k : SeenEnd). LeadsOn (item.opened k.id) r.core (after_opened v r.core)) (sym end) (subst (λ (d : CoreNow). LeadsOn (item.opened e.id) r.core d) value.1 leads)) room more;
        settled = h.settled;
        closed = closed-more r.journal (entry.Opened v.end.id) refl ∙ h.closed;
        trails = trails-opened r h v (connects now r due).0 (subst (λ (k : SeenEnd). k.log ≡ nothing_done) (sym end) fresh) (subst (λ (k : SeenEnd). IsNewSocket r k.id) (sym end) new);
        kept = kept-opened r h v (connects now r due).0 (subst (λ (k : SeenEnd). k.log ≡ nothing_done) (sym end) fresh) room;
      }))

pub opened-after : (r : RecordNow) (c : CoreNow) (e : SeenEnd) (now : ℕ) (before : List Entry) (journal : Holding Entry) (n : ℕ) (spent : List SeenEnd) (room : Rooms) → IsRecord r → ConnectIsDue now r → IsUntouched e.log → IsNewSocket r e.id → 0 < room.ends →
    IfSome c.live.feed (λ v. IsOpening r.core.facts e v × (c ≡ after_opened v r.core)) → IsSome c.live.feed → LeadsOn (item.opened e.id) r.core c →
    before ≡ r.journal → journal ≡ record { items = before ++ entry.Opened e.id ∷ []; room = n } → spent ≡ r.spent →
    IsRecord (record r { core = c; journal = journal.items; spent = spent; room = room })
opened-after r c e now before journal n spent room h due fresh new more value some leads b j sp =
    rw (j, b, sp) (opened-with r c e now room h due fresh new more c.live.feed value some leads)

-- a record of which there is more room
pub roomier : (r : RecordNow) (journal : List Entry) (spent : List SeenEnd) (room : Rooms) → IsRecord r → journal ≡ r.journal → spent ≡ r.spent → r.room.ends ≤ room.ends → IsRecord (record r { journal = journal; spent = spent; room = room })
roomier r journal spent room h j sp more = rw (j, sp) (record {
  state = h.state;
  at_state = record {
    replay = h.at_state.replay;
    core = h.at_state.core;
    steps = h.at_state.steps;
    reach = h.at_state.reach;
    parcels = h.at_state.parcels;
    spent = h.at_state.spent;
    feed = h.at_state.feed;
    room = still-room r.core.live.feed h.at_state.room;
    few = h.at_state.few;
  };
  settled = h.settled;
  closed = h.closed;
  trails = h.trails;
  kept = kept-in-room r room h.kept;
})
  where
    still-room : (o : Option FeedNow) → FeedHasRoom r.room.ends o → FeedHasRoom room.ends o
    still-room (Some v) g = omega (arith, g, more)
    still-room None g = tt

-- what the core is asked for
pub connect-dials : (now : ℕ) (r : RecordNow) → IsRecord r → ConnectIsDue now r → may_dial r.core ≡ true
connect-dials now r h due = (connects now r due).0

pub connect-number : (now : ℕ) (r : RecordNow) → IsRecord r → ConnectIsDue now r → dial_connect r.core.live.session ≤ GREATEST_NUMBER
connect-number now r h due = let two = connects now r due in connect-fits r.core two.0 two.1
