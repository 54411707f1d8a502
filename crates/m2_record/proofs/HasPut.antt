-- A feed's end is written once.
use Rattle.std.proofs.Common.{◌≡◌, ℕ, ◌<◌, ◌≤◌, Bool, true, false, if◌then◌else◌, List, [], ◌∷◌, ◌++◌, map, take, drop, length, Option, Some, None, refl, sym, ap, subst, ◌∙◌, arith}
use Rattle.std.proofs.Math.Seq.{drop-append_seam, take-length}
use Rattle.std.proofs.lemmas.List.{append-nil, length-take-le, map-append}
use Rattle.m2_core.specs.LiveNow.{OnFeedNow}
use Rattle.m2_core.specs.OnFeed.{WritesFeed}
use Rattle.m2_core.specs.Waits.{IsWithin}
use Rattle.m2_core.specs.Agrees.{LeadsOn, MayCome, Stays}
use Rattle.m2_core.specs.CoreNow.{CoreNow}
use Rattle.m2_core.specs.Moves.{HasWritten, IsWroteOn}
use Rattle.m2_fabric.specs.declared.end.EndWrite.TheVariants as write
use Rattle.m2_fabric.specs.declared.log.Run.TheVariants as run
use Rattle.m2_fabric.specs.declared.socket.SocketId.{SocketId}
use Rattle.m2_fabric.specs.End.{SeenEnd, with_write}
use Rattle.m2_fabric.specs.Sockets.{IsNewTo, is_among, same_socket}
use Rattle.m2_feed.specs.Calls.{WritesOn}
use Rattle.m2_feed.specs.FeedNow.{FeedNow}
use Rattle.m2_feed.specs.declared.answers.FeedWrite.{FeedWrite}
use Rattle.m2_feed.specs.declared.answers.FeedWrite.TheVariants as put
use Rattle.m2_journal.specs.declared.entry.Entry.{Entry}
use Rattle.m2_journal.specs.declared.entry.Entry.TheVariants as entry
use Rattle.m2_journal.specs.Feeds.{finished, narrowed, texts_at}
use Rattle.m2_journal.specs.Items as item
use Rattle.m2_journal.specs.Items.{AreCovering, Sources, item_of, reach_of}
use Rattle.m2_journal.specs.Lawful.{Lawful}
use Rattle.m2_journal.specs.OutFrames.{OutFrame, is_unnamed}
use Rattle.m2_journal.specs.Plan.{Planned, planned}
use Rattle.m2_journal.specs.Replay.{IsReplay}
use Rattle.m2_journal.specs.SideFacts.{SideFacts}
use Rattle.m2_journal.specs.State.{Feed, PartText, State}
use Rattle.m2_journal.specs.Steps as journal
use Rattle.m2_journal.specs.Steps.{after}
use Rattle.m2_journal.proofs.Growing.{one_more}
use Rattle.m2_trail.specs.Trails.{TrailNow}
use Rattle.m2_dispatch.specs.m2_queues.OutQueues.{Outgoing}
use Rattle.m2_record.specs.Calls.{IsCounted, entries_put, held_after, moment_after, wrote_entries}
use Rattle.m2_record.specs.Entered.{AreSettled, HavePut}
use Rattle.m2_record.specs.IsRecord.{FeedHasRoom, FeedIsOpen, FeedIsWhole, FitFrames, IsOpenAmong, IsRecord, IsReplayedTo, IsWellKept, closed_in, feeds_in}
use Rattle.m2_record.specs.RecordNow.{RecordNow, Rooms, feed_end, ids_of}
use Rattle.m2_record.specs.Sources.{broken_of, end_at, got_of, log_at, put_of, read_before, runs_of, sources_of, trail_at}
use Rattle.m2_record.specs.TakenTrails.{HaveTrails}
use Rattle.m2_record.proofs.Ends.{EndsStay}
use Rattle.m2_record.proofs.Entering.{put-continues, put-covers, reach-more}
use Rattle.m2_record.proofs.Kept.{feeds-more}
use Rattle.m2_record.proofs.Keeping.{as-planned, ground, replay-stays, settled}
use Rattle.m2_record.proofs.Opens.{closed-more}
use Rattle.m2_record.proofs.Telling.{beside}
use Rattle.m2_record.proofs.Telling as telling
use Rattle.m2_record.proofs.Trailing.{Beside, LogGoesOn, first-goes-on, first-there, prefix-same, runs-more, trails-behind, trails-go-on, unread-same}
use Rattle.m2_record.proofs.Trailing as trailing
use Rattle.m2_bytes.proofs.m2_lemmas.Booleans.{false_isnt_true}
use Rattle.m2_fabric.proofs.Sockets.{same_equal, same_refl}

-- ---- what it leaves of a state

sending-late : (b : Bool) (k : SocketId) (w : OutFrame) (s : State) → beside (if b then journal.sends k (w ∷ []) s else s) ≡ beside s
sending-late true k w s = refl
sending-late false k w s = refl

putting-on : (o : Option PartText) (texts : List PartText) (d : Feed) (s : State) → beside (journal.puts_on o texts d s) ≡ beside s
putting-on (Some t) texts d s = sending-late (is_unnamed t.frame) d.socket t.frame _
putting-on None texts d s = refl

putting : (f : SideFacts) (bytes : List ℕ) (o : Option Feed) (s : State) → beside (journal.on_feed_at o (journal.puts f bytes) s) ≡ beside s
putting f bytes (Some d) s = putting-on (finished (narrowed bytes (texts_at f s d))) (narrowed bytes (texts_at f s d)) d s
putting f bytes None s = refl

-- ---- what it leaves of the ends

abbrev pub src : List Planned → SeenEnd → List SeenEnd → List TrailNow → Sources
src plan e spent trails = sources_of (ground plan (e ∷ spent) trails)

module _ (plan : List Planned) (e : SeenEnd) (spent : List SeenEnd) (trails : List TrailNow) (there : Beside (trail_at trails e.id) e.log) (n : ℕ) (piece : List ℕ) (fits : n ≤ length piece) where
  abbrev f : SeenEnd
  f = with_write (write.Put n) piece e

  len : length (take n piece) ≡ n
  len = length-take-le n piece fits

  other : (k : SocketId) (b : Bool) → same_socket k e.id ≡ b → got_of (end_at (f ∷ spent) k) ≡ got_of (end_at (e ∷ spent) k)
  other k true g = rw g refl
  other k false g = rw g refl

  broken-so : (k : SocketId) (b : Bool) → same_socket k e.id ≡ b → broken_of (end_at (f ∷ spent) k) ≡ broken_of (end_at (e ∷ spent) k)
  broken-so k true g = rw g refl
  broken-so k false g = rw g refl

  put-more : HavePut e.id (take n piece) (src plan e spent trails) (src plan f spent trails)
  put-more = record {
    plan = as-planned plan;
    put = rw (same_refl e.id) (trailing.put-more (trail_at trails e.id) e.log (take n piece) there);
    runs = rw (same_refl e.id, len) (runs-more (trail_at trails e.id) e.log (run.Wrote n ∷ []) there);
    other_put = λ k g. rw g refl;
    got = λ k. ap (drop (read_before (trail_at trails k))) (other k (same_socket k e.id) refl);
    other_runs = λ k g. rw g refl;
  }

  all-settled : (journal : List Entry) → AreSettled (src plan e spent trails) (src plan f spent trails) journal
  all-settled journal = settled (src plan e spent trails) (src plan f spent trails) journal (λ k c. broken-so k (same_socket k e.id) refl)
      (λ k. unread-same (trail_at trails k) (log_at (e ∷ spent) k) (log_at (f ∷ spent) k) (other k (same_socket k e.id) refl)) (λ k. refl)

  module _ (facts : SideFacts) (journal : List Entry) (s : State) (r : IsReplay facts (src plan e spent trails) journal s) where
    item-is : item_of (src plan f spent trails) (reach_of journal) (entry.Wrote e.id n) ≡ item.wrote e.id (take n piece)
    item-is = ap (item.wrote e.id)
        (ap (λ m. take n (drop m ((src plan f spent trails).put e.id))) (r.covering.written e.id)
        ∙ ap (λ l. take n (drop (length ((src plan e spent trails).put e.id)) l)) put-more.put
        ∙ ap (take n) (drop-append_seam ((src plan e spent trails).put e.id) (take n piece))
        ∙ ap (λ m. take m (take n piece)) (sym len) ∙ take-length (take n piece))

    pub put-on : Lawful facts (item.wrote e.id (take n piece)) s → IsReplay facts (src plan f spent trails) (journal ++ entry.Wrote e.id n ∷ []) (after facts (item.wrote e.id (take n piece)) s)
    put-on law = subst (λ i. IsReplay facts (src plan f spent trails) (journal ++ entry.Wrote e.id n ∷ []) (after facts i s)) item-is
        (one_more facts (src plan e spent trails) (src plan f spent trails) journal (entry.Wrote e.id n) s r
        (put-continues (src plan e spent trails) (src plan f spent trails) journal e.id (take n piece) r.covering put-more (all-settled journal))
        (subst (λ m. AreCovering (src plan f spent trails) (journal ++ entry.Wrote e.id m ∷ [])) len (put-covers (src plan e spent trails) (src plan f spent trails) journal e.id (take n piece) r.covering put-more))
        (subst (λ i. Lawful facts i s) (sym item-is) law))

-- the log goes on
pub put-goes-on : (n : ℕ) (piece : List ℕ) (e : SeenEnd) → LogGoesOn e.log (with_write (write.Put n) piece e).log
put-goes-on n piece e = record { got = prefix-same e.log.got e.log.got refl; put = (take n piece, refl); runs = (run.Wrote n ∷ [], refl) }

-- ---- flags of the feed's end

-- a socket that no entry has closed isn't one that was closed
pub unclosed-one : (journal : List Entry) (k socket : SocketId) (A : Type 0) → IsNewTo (closed_in journal) socket → is_among k (closed_in journal) ≡ true → same_socket k socket ≡ true → A
unclosed-one journal k socket A new c g = absurd (false_isnt_true (sym (subst (IsNewTo (closed_in journal)) (sym (same_equal k socket g)) new) ∙ c))

pub ends-flagged : (journal : List Entry) (e f : SeenEnd) (spent : List SeenEnd) → f.id ≡ e.id → f.log.got ≡ e.log.got → f.log.put ≡ e.log.put → f.log.runs ≡ e.log.runs → IsNewTo (closed_in journal) e.id →
    EndsStay journal (e ∷ spent) (f ∷ spent)
ends-flagged journal e f spent id got put runs unclosed = record {
  got = λ k. got-at k (same_socket k e.id) refl;
  put = λ k. put-at k (same_socket k e.id) refl;
  runs = λ k. runs-at k (same_socket k e.id) refl;
  broken = λ k c. broken-at k c (same_socket k e.id) refl;
}
  where
    got-at : (k : SocketId) (b : Bool) → same_socket k e.id ≡ b → got_of (end_at (f ∷ spent) k) ≡ got_of (end_at (e ∷ spent) k)
    got-at k true g = rw (id, g) got
    got-at k false g = rw (id, g) refl

    put-at : (k : SocketId) (b : Bool) → same_socket k e.id ≡ b → put_of (end_at (f ∷ spent) k) ≡ put_of (end_at (e ∷ spent) k)
    put-at k true g = rw (id, g) put
    put-at k false g = rw (id, g) refl

    runs-at : (k : SocketId) (b : Bool) → same_socket k e.id ≡ b → runs_of (end_at (f ∷ spent) k) ≡ runs_of (end_at (e ∷ spent) k)
    runs-at k true g = rw (id, g) runs
    runs-at k false g = rw (id, g) refl

    broken-at : (k : SocketId) → is_among k (closed_in journal) ≡ true → (b : Bool) → same_socket k e.id ≡ b → broken_of (end_at (f ∷ spent) k) ≡ broken_of (end_at (e ∷ spent) k)
    broken-at k c true g = unclosed-one journal k e.id _ unclosed c g
    broken-at k c false g = rw (id, g) refl

-- ---- a record whose feed is written

module _ (r : RecordNow) (s : State) (h : IsReplayedTo s r) (c : CoreNow) (facts : c.facts ≡ r.core.facts) (v w : FeedNow) (was : r.core.live.feed ≡ Some v) (is : c.live.feed ≡ Some w) where
  before : IsReplay r.core.facts (src (map planned r.plan) v.end r.spent r.trails) r.journal s
  before = subst (λ (o : Option FeedNow). IsReplay r.core.facts (sources_of (ground (map planned r.plan) (feed_end o ++ r.spent) r.trails)) r.journal s) was h.replay

  pub behind : (journal : List Entry) (t : State) → IsReplay r.core.facts (src (map planned r.plan) w.end r.spent r.trails) journal t →
      IsReplay c.facts (sources_of (ground (map planned r.plan) (feed_end c.live.feed ++ r.spent) r.trails)) journal t
  behind journal t p = subst (λ (f : SideFacts). IsReplay f (sources_of (ground (map planned r.plan) (feed_end c.live.feed ++ r.spent) r.trails)) journal t) (sym facts)
      (subst (λ (o : Option FeedNow). IsReplay r.core.facts (sources_of (ground (map planned r.plan) (feed_end o ++ r.spent) r.trails)) journal t) (sym is) p)

  open-before : IsOpenAmong r.spent r.journal v.end.id
  open-before = subst (FeedIsOpen r.spent r.journal) was h.feed

  room-after : (room : Rooms) → room.ends ≡ r.room.ends → FeedHasRoom room.ends c.live.feed
  room-after room e = subst (FeedHasRoom room.ends) (sym is) (subst (λ n. 0 < n) (sym e) (subst (FeedHasRoom r.room.ends) was h.room))

  open-after : (journal : List Entry) → closed_in journal ≡ closed_in r.journal → w.end.id ≡ v.end.id → FeedIsOpen r.spent journal c.live.feed
  open-after journal e id = subst (FeedIsOpen r.spent journal) (sym is) (record {
    unspent = subst (IsNewTo (ids_of r.spent)) (sym id) open-before.unspent;
    unclosed = subst (λ (l : List SocketId). IsNewTo l w.end.id) (sym e) (subst (IsNewTo (closed_in r.journal)) (sym id) open-before.unclosed);
  })

  -- no bytes were put
  pub not-put : (room : Rooms) → room.ends ≡ r.room.ends → Stays r.core c → w.end.id ≡ v.end.id → w.end.log.got ≡ v.end.log.got → w.end.log.put ≡ v.end.log.put → w.end.log.runs ≡ v.end.log.runs →
      IsReplayedTo s (record r { core = c; room = room })
  not-put room e stays id got put runs = record {
    replay = behind r.journal s (replay-stays r.journal (map planned r.plan) (map planned r.plan) (v.end ∷ r.spent) (w.end ∷ r.spent) r.trails (as-planned (map planned r.plan))
        (ends-flagged r.journal v.end w.end r.spent id got put runs open-before.unclosed) r.core.facts s before);
    core = stays s h.core;
    steps = h.steps;
    reach = h.reach;
    parcels = h.parcels;
    spent = h.spent;
    feed = open-after r.journal refl id;
    room = room-after room e;
    few = h.few;
  }

  -- these bytes were put
  pub has-put : Beside (trail_at r.trails v.end.id) v.end.log → (n now : ℕ) (room : Rooms) → room.ends ≡ r.room.ends → n ≤ length v.composed → w.end ≡ with_write (write.Put n) v.composed v.end →
      MayCome (item.wrote v.end.id (take n v.composed)) r.core → LeadsOn (item.wrote v.end.id (take n v.composed)) r.core c →
      IsReplayedTo (after r.core.facts (item.wrote v.end.id (take n v.composed)) s) (record r { core = c; journal = r.journal ++ entry.Wrote v.end.id n ∷ []; last = now; room = room })
  has-put there n now room e fits end may leads = record {
    replay = behind journal1 t (subst (λ (x : SeenEnd). IsReplay r.core.facts (src (map planned r.plan) x r.spent r.trails) journal1 t) (sym end)
        (put-on (map planned r.plan) v.end r.spent r.trails there n v.composed fits r.core.facts r.journal s before (may s h.core)));
    core = leads s h.core;
    steps = h.steps ∙ sym (ap (λ (b : telling.Beside). b.steps) same);
    reach = ap (λ p. p.steps) (reach-more r.journal (entry.Wrote v.end.id n)) ∙ h.reach ∙ sym (ap (λ (b : telling.Beside). b.steps) same);
    parcels = (h.parcels.0, h.parcels.1, ap (λ (b : telling.Beside). b.deliveries) same ∙ h.parcels.2);
    spent = h.spent;
    feed = open-after journal1 (closed-more r.journal (entry.Wrote v.end.id n) refl) (ap (λ (x : SeenEnd). x.id) end);
    room = room-after room e;
    few = h.few;
  }
    where
      journal1 : List Entry
      journal1 = r.journal ++ entry.Wrote v.end.id n ∷ []

      t : State
      t = after r.core.facts (item.wrote v.end.id (take n v.composed)) s

      same : beside (after r.core.facts (item.wrote v.end.id (take n v.composed)) s) ≡ beside s
      same = putting r.core.facts (take n v.composed) s.feed s

  pub put-spent : (bytes : List ℕ) → s.spent ≡ [] → (after r.core.facts (item.wrote v.end.id bytes) s).spent ≡ []
  put-spent bytes e = ap (λ (b : telling.Beside). b.spent) (putting r.core.facts bytes s.feed s) ∙ e

-- ---- what holds beside the journal

-- what a write leaves of a feed's end: its name, that it is open, and whether it is blocked
same-end : (answer : FeedWrite) (v w : FeedNow) → WritesOn answer v w → (w.end.id ≡ v.end.id) × (w.end.log.closed ≡ v.end.log.closed)
same-end (put.Put n ack) v w x = (ap (λ (z : SeenEnd). z.id) x.0.2, ap (λ (z : SeenEnd). z.log.closed) x.0.2)
same-end put.NotYet v w x = (ap (λ (z : SeenEnd). z.id) x.0.1, ap (λ (z : SeenEnd). z.log.closed) x.0.1)
same-end put.Failed v w x = (ap (λ (z : SeenEnd). z.id) x.0.1, ap (λ (z : SeenEnd). z.log.closed) x.0.1)
same-end put.NoMemory v w x = (ap (λ (z : FeedNow). z.end.id) x, ap (λ (z : FeedNow). z.end.log.closed) x)

still-held : (answer : FeedWrite) (held : Bool) (v w : FeedNow) → WritesOn answer v w → (held ≡ true → v.end.log.blocked ≡ true) → held_after answer held ≡ true → w.end.log.blocked ≡ true
still-held (put.Put n ack) held v w x h e = absurd (false_isnt_true e)
still-held put.NotYet held v w x h e = ap (λ (z : SeenEnd). z.log.blocked) x.0.1
still-held put.Failed held v w x h e = ap (λ (z : SeenEnd). z.log.blocked) x.0.1 ∙ h e
still-held put.NoMemory held v w x h e = ap (λ (z : FeedNow). z.end.log.blocked) x ∙ h e

no-entry : (answer : FeedWrite) (o : Option FeedNow) (journal : List Entry) → feeds_in (journal ++ wrote_entries answer o) ≡ feeds_in journal
no-entry (put.Put n ack) (Some v) journal = feeds-more journal (entry.Wrote v.end.id n) refl
no-entry (put.Put n ack) None journal = ap feeds_in (append-nil journal)
no-entry put.NotYet o journal = ap feeds_in (append-nil journal)
no-entry put.Failed o journal = ap feeds_in (append-nil journal)
no-entry put.NoMemory o journal = ap feeds_in (append-nil journal)

pub same-ids : (spent : List SeenEnd) (v w : FeedNow) → w.end.id ≡ v.end.id → ids_of (spent ++ w.end ∷ []) ≡ ids_of (spent ++ v.end ∷ [])
same-ids spent v w e = map-append (λ (x : SeenEnd). x.id) spent (w.end ∷ []) ∙ ap (λ (k : SocketId). ids_of spent ++ k ∷ []) e ∙ sym (map-append (λ (x : SeenEnd). x.id) spent (v.end ∷ []))

abbrev wrote_with : FeedWrite → (now : ℕ) → (room : Rooms) → Option FeedNow → CoreNow → RecordNow → RecordNow
wrote_with answer now room o c r = record r { core = c; journal = r.journal ++ wrote_entries answer o; last = moment_after answer now r.last; held = held_after answer r.held; room = room }

kept-put : (r : RecordNow) (k : IsWellKept r) (c : CoreNow) (now : ℕ) (room : Rooms) (answer : FeedWrite) (o p : Option FeedNow) → c.facts ≡ r.core.facts → c.live.out ≡ r.core.live.out →
    r.core.live.feed ≡ o → c.live.feed ≡ p → WritesFeed answer o p → IsWellKept (wrote_with answer now room o c r)
kept-put r k c now room answer (Some v) (Some w) facts out was is x =
    let same = same-end answer v w x in record {
      ends = ap (λ (f : Option FeedNow). ids_of (r.spent ++ feed_end f)) is ∙ same-ids r.spent v w same.0 ∙ sym (ap (λ (f : Option FeedNow). ids_of (r.spent ++ feed_end f)) was) ∙ k.ends ∙ sym (no-entry answer (Some v) r.journal);
      whole = subst FeedIsWhole (sym is) (same.1 ∙ subst FeedIsWhole was k.whole);
      parcels = k.parcels;
      plan = k.plan;
      queue = subst (λ (y : Outgoing). FitFrames y.queue) (sym out) k.queue;
      waits = subst (λ (f : SideFacts). IsWithin f.node r.waits) (sym facts) k.waits;
      held = λ e. subst (λ (f : Option FeedNow). OnFeedNow f (λ z. z.end.log.blocked ≡ true)) (sym is)
          (still-held answer r.held v w x (λ g. subst (λ (f : Option FeedNow). OnFeedNow f (λ z. z.end.log.blocked ≡ true)) was (k.held g)) e);
    }
kept-put r k c now room answer None p facts out was is x = absurd x
kept-put r k c now room answer (Some v) None facts out was is x = absurd x

-- ---- by the answer of the write

module _ (r : RecordNow) (h : IsRecord r) (c : CoreNow) (facts : c.facts ≡ r.core.facts) (out : c.live.out ≡ r.core.live.out) (now : ℕ) (room : Rooms) (ends : room.ends ≡ r.room.ends) where
  -- the trails, beside the feed's end
  pub trails-before : (v : FeedNow) → r.core.live.feed ≡ Some v → HaveTrails r.core.facts.node.entity (v.end ∷ r.spent) r.journal r.trails
  trails-before v was = subst (λ (o : Option FeedNow). HaveTrails r.core.facts.node.entity (feed_end o ++ r.spent) r.journal r.trails) was h.trails

  pub trails-on : (v w : FeedNow) → r.core.live.feed ≡ Some v → c.live.feed ≡ Some w → (journal : List Entry) → w.end.id ≡ v.end.id → LogGoesOn v.end.log w.end.log →
      HaveTrails r.core.facts.node.entity (v.end ∷ r.spent) journal r.trails → HaveTrails c.facts.node.entity (feed_end c.live.feed ++ r.spent) journal r.trails
  trails-on v w was is journal id go t = subst (λ (f : SideFacts). HaveTrails f.node.entity (feed_end c.live.feed ++ r.spent) journal r.trails) (sym facts)
      (subst (λ (o : Option FeedNow). HaveTrails r.core.facts.node.entity (feed_end o ++ r.spent) journal r.trails) (sym is)
      (trails-go-on r.core.facts.node.entity (v.end ∷ r.spent) (w.end ∷ r.spent) journal r.trails (first-goes-on v.end w.end r.spent id go) t))

  pub stayed : (v w : FeedNow) (held : Bool) → r.core.live.feed ≡ Some v → c.live.feed ≡ Some w → IsWellKept (record r { core = c; journal = r.journal ++ []; held = held; room = room }) →
      Stays r.core c → w.end.id ≡ v.end.id → w.end.log.got ≡ v.end.log.got → w.end.log.put ≡ v.end.log.put → w.end.log.runs ≡ v.end.log.runs →
      IsRecord (record r { core = c; journal = r.journal ++ []; held = held; room = room })
  stayed v w held was is kept stays id got put runs = subst (λ (l : List Entry). IsWellKept (record r { core = c; journal = l; held = held; room = room }) → IsRecord (record r { core = c; journal = l; held = held; room = room })) (sym (append-nil r.journal))
      (λ k. record {
        state = h.state;
        at_state = held-too (not-put r h.state h.at_state c facts v w was is room ends stays id got put runs);
        settled = h.settled;
        closed = h.closed;
        trails = trails-on v w was is r.journal id (record { got = prefix-same v.end.log.got w.end.log.got got; put = prefix-same v.end.log.put w.end.log.put put; runs = prefix-same v.end.log.runs w.end.log.runs runs })
            (trails-before v was);
        kept = k;
      }) kept
    where
      held-too : IsReplayedTo h.state (record r { core = c; room = room }) → IsReplayedTo h.state (record r { core = c; held = held; room = room })
      held-too a = record { replay = a.replay; core = a.core; steps = a.steps; reach = a.reach; parcels = a.parcels; spent = a.spent; feed = a.feed; room = a.room; few = a.few }

  has-put-held : (s : State) (journal : List Entry) (last : ℕ) (held : Bool) → IsReplayedTo s (record r { core = c; journal = journal; last = last; room = room }) → IsReplayedTo s (record r { core = c; journal = journal; last = last; held = held; room = room })
  has-put-held s journal last held a = record { replay = a.replay; core = a.core; steps = a.steps; reach = a.reach; parcels = a.parcels; spent = a.spent; feed = a.feed; room = a.room; few = a.few }

  pub written-at : (answer : FeedWrite) (o p : Option FeedNow) → r.core.live.feed ≡ o → c.live.feed ≡ p → WritesFeed answer o p → IsWroteOn answer o r.core c →
      IsRecord (wrote_with answer now room o c r)
  written-at (put.Put n ack) (Some v) (Some w) was is x y = record {
    state = after r.core.facts (item.wrote v.end.id (take n v.composed)) h.state;
    at_state = has-put-held _ _ now false (has-put r h.state h.at_state c facts v w was is (first-there r.core.facts.node.entity v.end r.spent r.journal r.trails (trails-before v was)) n now room ends x.0.0.fits x.0.2 y.0 y.1);
    settled = put-spent r h.state h.at_state c facts v w was is (take n v.composed) h.settled;
    closed = closed-more r.journal (entry.Wrote v.end.id n) refl ∙ h.closed;
    trails = trails-on v w was is (r.journal ++ entry.Wrote v.end.id n ∷ []) (ap (λ (z : SeenEnd). z.id) x.0.2) (subst (λ (z : SeenEnd). LogGoesOn v.end.log z.log) (sym x.0.2) (put-goes-on n v.composed v.end))
        (trails-behind r.core.facts.node.entity (v.end ∷ r.spent) r.journal (entry.Wrote v.end.id n) r.trails refl (trails-before v was));
    kept = kept-put r h.kept c now room (put.Put n ack) (Some v) (Some w) facts out was is x;
  }
  written-at put.NotYet (Some v) (Some w) was is x y = stayed v w true was is (kept-put r h.kept c now room put.NotYet (Some v) (Some w) facts out was is x) y
      (ap (λ (z : SeenEnd). z.id) x.0.1) (ap (λ (z : SeenEnd). z.log.got) x.0.1) (ap (λ (z : SeenEnd). z.log.put) x.0.1) (ap (λ (z : SeenEnd). z.log.runs) x.0.1)
  written-at put.Failed (Some v) (Some w) was is x y = stayed v w r.held was is (kept-put r h.kept c now room put.Failed (Some v) (Some w) facts out was is x) y
      (ap (λ (z : SeenEnd). z.id) x.0.1) (ap (λ (z : SeenEnd). z.log.got) x.0.1) (ap (λ (z : SeenEnd). z.log.put) x.0.1) (ap (λ (z : SeenEnd). z.log.runs) x.0.1)
  written-at put.NoMemory (Some v) (Some w) was is x y = stayed v w r.held was is (kept-put r h.kept c now room put.NoMemory (Some v) (Some w) facts out was is x) y
      (ap (λ (z : FeedNow). z.end.id) x) (ap (λ (z : FeedNow). z.end.log.got) x) (ap (λ (z : FeedNow). z.end.log.put) x) (ap (λ (z : FeedNow). z.end.log.runs) x)
  written-at answer None p was is x y = absurd y
  written-at answer (Some v) None was is x y = absurd (no-feed answer v x)
    where
      no-feed : (answer : FeedWrite) (v : FeedNow) → WritesFeed answer (Some v) None → ⊥
      no-feed answer v x = x

  pub written : (answer : FeedWrite) → HasWritten answer r.core c → IsRecord (wrote_with answer now room r.core.live.feed c r)
  written answer x = written-at answer r.core.live.feed c.live.feed refl refl x.writes x.entry

-- ---- as the code comes to it

same-entries : (answer : FeedWrite) (k : SocketId) (o : Option FeedNow) (v : FeedNow) → o ≡ Some v → k ≡ v.end.id → entries_put answer k ≡ wrote_entries answer o
same-entries (put.Put n ack) k o v e g = rw (e, g) refl
same-entries put.NotYet k o v e g = refl
same-entries put.Failed k o v e g = refl
same-entries put.NoMemory k o v e g = refl

pub written-after : (answer : FeedWrite) (r : RecordNow) (c : CoreNow) (k : SocketId) (v : FeedNow) (now : ℕ) (journal : List Entry) (last entries : ℕ) (held : Bool) → IsRecord r → HasWritten answer r.core c →
    r.core.live.feed ≡ Some v → k ≡ v.end.id → journal ≡ r.journal ++ entries_put answer k → last ≡ moment_after answer now r.last → held ≡ held_after answer r.held →
    IsRecord (record r { core = c; journal = journal; last = last; held = held; room = record r.room { entries = entries } })
written-after answer r c k v now journal last entries held h x was id j l b =
    rw (j, same-entries answer k r.core.live.feed v was id, l, b)
    (written r h c (ap (λ (y : CoreNow). y.facts) x.only) (ap (λ (y : CoreNow). y.live.out) x.only) now (record r.room { entries = entries }) refl answer x)

counted-at : (answer : FeedWrite) (o p : Option FeedNow) → WritesFeed answer o p → IsCounted answer
counted-at (put.Put n ack) (Some v) (Some w) x = (let most = x.0.0.most in omega (arith, most))
counted-at (put.Put n ack) (Some v) None x = absurd x
counted-at (put.Put n ack) None p x = absurd x
counted-at put.NotYet o p x = tt
counted-at put.Failed o p x = tt
counted-at put.NoMemory o p x = tt

pub counted : (answer : FeedWrite) (b c : CoreNow) → HasWritten answer b c → IsCounted answer
counted answer b c x = counted-at answer b.live.feed c.live.feed x.writes
