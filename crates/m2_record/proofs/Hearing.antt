-- An end of a record hears news: its name, its log and its faults stay.
use Rattle.std.proofs.Common.{◌≡◌, ℕ, Bool, true, false, List, [], ◌∷◌, ◌++◌, map, Option, Some, None, Result, Ok, Err, refl, sym, ap, subst, ◌∙◌, OnOk, OnErr}
use Rattle.std.specs.Prelude.{if◌then◌else◌}
use Rattle.std.specs.List.{AllByRecursion}
use Rattle.std.proofs.lemmas.List.{map-append}
use Rattle.m2_bytes.specs.declared.memory.NoMemory as memory
use Rattle.m2_core.specs.LiveNow.{OnFeedNow}
use Rattle.m2_core.specs.OnFeed.{feed_after_news}
use Rattle.m2_core.specs.LiveCalls.{live_with}
use Rattle.m2_core.specs.Agrees.{Stays}
use Rattle.m2_core.specs.CoreNow.{CoreNow}
use Rattle.m2_fabric.specs.declared.end.News.{News}
use Rattle.m2_fabric.specs.declared.socket.SocketId.{SocketId}
use Rattle.m2_fabric.specs.End.{SeenEnd, after_news}
use Rattle.m2_fabric.specs.Port.{one_hears}
use Rattle.m2_fabric.specs.Sockets.{IsNewTo, is_among, same_socket}
use Rattle.m2_feed.specs.FeedNow.{FeedNow}
use Rattle.m2_journal.specs.declared.entry.Entry.{Entry}
use Rattle.m2_journal.specs.Plan.{planned}
use Rattle.m2_journal.specs.Replay.{IsReplay}
use Rattle.m2_record.specs.IsRecord.{FeedHasRoom, FeedIsOpen, FeedIsWhole, IsClosedEnd, IsRecord, closed_in, feeds_in}
use Rattle.m2_record.specs.RecordNow.{RecordNow, feed_end, ids_of}
use Rattle.m2_record.specs.Sources.{broken_of, end_at, got_of, put_of, runs_of, sources_of}
use Rattle.m2_record.specs.TakenTrails.{HaveTrails}
use Rattle.m2_record.proofs.Ends.{EndsStay, TellTheSame, tells-itself}
use Rattle.m2_record.proofs.HasPut.{same-ids}
use Rattle.m2_record.proofs.Keeping.{as-planned, ground, replay-stays}
use Rattle.m2_record.proofs.Trailing.{ends-go-on, trails-go-on}

-- ---- ends of which one hears

module _ (n : News) (bytes : List ℕ) where
  abbrev hears : SeenEnd → SeenEnd
  hears = after_news n bytes

  heard-same : (id : SocketId) (ends : List SeenEnd) (k : SocketId) → TellTheSame (end_at ends k) (end_at (one_hears id hears ends) k)
  heard-same id [] k = tells-itself None
  heard-same id (e ∷ es) k = at (same_socket id e.id) (heard-same id es k)
    where
      by-name : (q : Bool) → TellTheSame (if q then Some e else end_at es k) (if q then Some (hears e) else end_at es k)
      by-name true = record { got = refl; put = refl; runs = refl; broken = refl }
      by-name false = tells-itself (end_at es k)

      by-rest : (q : Bool) → TellTheSame (end_at es k) (end_at (one_hears id hears es) k) → TellTheSame (if q then Some e else end_at es k) (if q then Some e else end_at (one_hears id hears es) k)
      by-rest true rest = tells-itself (Some e)
      by-rest false rest = rest

      at : (p : Bool) → TellTheSame (end_at es k) (end_at (one_hears id hears es) k) → TellTheSame (end_at (e ∷ es) k) (end_at (if p then hears e ∷ es else e ∷ one_hears id hears es) k)
      at true rest = by-name (same_socket k e.id)
      at false rest = by-rest (same_socket k e.id) rest

  ends-heard : (journal : List Entry) (id : SocketId) (ends : List SeenEnd) → EndsStay journal ends (one_hears id hears ends)
  ends-heard journal id ends = record {
    got = λ k. (heard-same id ends k).got;
    put = λ k. (heard-same id ends k).put;
    runs = λ k. (heard-same id ends k).runs;
    broken = λ k h. (heard-same id ends k).broken;
  }

  first-heard : (journal : List Entry) (e : SeenEnd) (ends : List SeenEnd) → EndsStay journal (e ∷ ends) (hears e ∷ ends)
  first-heard journal e ends = record {
    got = λ k. (at k).got;
    put = λ k. (at k).put;
    runs = λ k. (at k).runs;
    broken = λ k h. (at k).broken;
  }
    where
      by-name : (k : SocketId) (q : Bool) → TellTheSame (if q then Some e else end_at ends k) (if q then Some (hears e) else end_at ends k)
      by-name k true = record { got = refl; put = refl; runs = refl; broken = refl }
      by-name k false = tells-itself (end_at ends k)

      at : (k : SocketId) → TellTheSame (end_at (e ∷ ends) k) (end_at (hears e ∷ ends) k)
      at k = by-name k (same_socket k e.id)

  ids-heard : (id : SocketId) (ends : List SeenEnd) → ids_of (one_hears id hears ends) ≡ ids_of ends
  ids-heard id [] = refl
  ids-heard id (e ∷ es) = at (same_socket id e.id) (ids-heard id es)
    where
      at : (p : Bool) → ids_of (one_hears id hears es) ≡ ids_of es → ids_of (if p then hears e ∷ es else e ∷ one_hears id hears es) ≡ e.id ∷ ids_of es
      at true rest = refl
      at false rest = ap (λ (l : List SocketId). e.id ∷ l) rest

  closed-heard : (id : SocketId) (ends : List SeenEnd) → AllByRecursion IsClosedEnd ends → AllByRecursion IsClosedEnd (one_hears id hears ends)
  closed-heard id [] h = tt
  closed-heard id (e ∷ es) h = at (same_socket id e.id) (closed-heard id es h.1)
    where
      at : (p : Bool) → AllByRecursion IsClosedEnd (one_hears id hears es) → AllByRecursion IsClosedEnd (if p then hears e ∷ es else e ∷ one_hears id hears es)
      at true rest = h
      at false rest = (h.0, rest)

-- the ends behind one are others, and tell the same
behind : (journal : List Entry) (o : Option FeedNow) (old new : List SeenEnd) → EndsStay journal old new → EndsStay journal (feed_end o ++ old) (feed_end o ++ new)
behind journal None old new h = h
behind journal (Some v) old new h = record {
  got = λ k. got-at k (same_socket k v.end.id);
  put = λ k. put-at k (same_socket k v.end.id);
  runs = λ k. runs-at k (same_socket k v.end.id);
  broken = λ k c. broken-at k c (same_socket k v.end.id);
}
  where
    got-at : (k : SocketId) (b : Bool) → got_of (if b then Some v.end else end_at new k) ≡ got_of (if b then Some v.end else end_at old k)
    got-at k true = refl
    got-at k false = h.got k

    put-at : (k : SocketId) (b : Bool) → put_of (if b then Some v.end else end_at new k) ≡ put_of (if b then Some v.end else end_at old k)
    put-at k true = refl
    put-at k false = h.put k

    runs-at : (k : SocketId) (b : Bool) → runs_of (if b then Some v.end else end_at new k) ≡ runs_of (if b then Some v.end else end_at old k)
    runs-at k true = refl
    runs-at k false = h.runs k

    broken-at : (k : SocketId) → is_among k (closed_in journal) ≡ true → (b : Bool) → broken_of (if b then Some v.end else end_at new k) ≡ broken_of (if b then Some v.end else end_at old k)
    broken-at k c true = refl
    broken-at k c false = h.broken k c

-- ---- the feed hears

module _ (n : News) (bytes : List ℕ) (r : RecordNow) (h : IsRecord r) (v : FeedNow) (was : r.core.live.feed ≡ Some v) where
  abbrev told : FeedNow
  told = record v { end = after_news n bytes v.end }

  abbrev heard_core : CoreNow
  heard_core = record r.core { live = live_with (feed_after_news n bytes r.core.live.feed) r.core.live }

  is : feed_after_news n bytes r.core.live.feed ≡ Some told
  is = ap (feed_after_news n bytes) was

  feed-heard : Stays r.core heard_core → IsRecord (record r { core = heard_core })
  feed-heard stays = record {
    state = h.state;
    at_state = record {
      replay = subst (λ (o : Option FeedNow). IsReplay r.core.facts (sources_of (ground (map planned r.plan) (feed_end o ++ r.spent) r.trails)) r.journal h.state) (sym is)
          (replay-stays r.journal (map planned r.plan) (map planned r.plan) (v.end ∷ r.spent) (told.end ∷ r.spent) r.trails (as-planned (map planned r.plan)) (first-heard n bytes r.journal v.end r.spent) r.core.facts h.state
          (subst (λ (o : Option FeedNow). IsReplay r.core.facts (sources_of (ground (map planned r.plan) (feed_end o ++ r.spent) r.trails)) r.journal h.state) was h.at_state.replay));
      core = stays h.state h.at_state.core;
      steps = h.at_state.steps;
      reach = h.at_state.reach;
      parcels = h.at_state.parcels;
      spent = h.at_state.spent;
      feed = subst (FeedIsOpen r.spent r.journal) (sym is) (let o = subst (FeedIsOpen r.spent r.journal) was h.at_state.feed in record { unspent = o.unspent; unclosed = o.unclosed });
      room = subst (FeedHasRoom r.room.ends) (sym is) (subst (FeedHasRoom r.room.ends) was h.at_state.room);
      few = h.at_state.few;
    };
    settled = h.settled;
    closed = h.closed;
    trails = subst (λ (o : Option FeedNow). HaveTrails r.core.facts.node.entity (feed_end o ++ r.spent) r.journal r.trails) (sym is)
        (trails-go-on r.core.facts.node.entity (v.end ∷ r.spent) (told.end ∷ r.spent) r.journal r.trails (ends-go-on r.journal (v.end ∷ r.spent) (told.end ∷ r.spent) (first-heard n bytes r.journal v.end r.spent))
        (subst (λ (o : Option FeedNow). HaveTrails r.core.facts.node.entity (feed_end o ++ r.spent) r.journal r.trails) was h.trails));
    kept = record {
      ends = subst (λ (o : Option FeedNow). ids_of (r.spent ++ feed_end o) ≡ feeds_in r.journal) (sym is)
          (same-ids r.spent v told refl ∙ subst (λ (o : Option FeedNow). ids_of (r.spent ++ feed_end o) ≡ feeds_in r.journal) was h.kept.ends);
      whole = subst FeedIsWhole (sym is) (subst FeedIsWhole was h.kept.whole);
      parcels = h.kept.parcels;
      plan = h.kept.plan;
      queue = h.kept.queue;
      waits = h.kept.waits;
      held = λ e. subst (λ (o : Option FeedNow). OnFeedNow o (λ z. z.end.log.blocked ≡ true)) (sym is) (subst (λ (o : Option FeedNow). OnFeedNow o (λ z. z.end.log.blocked ≡ true)) was (h.kept.held e));
    };
  }

-- ---- one that was the feed hears

module _ (n : News) (bytes : List ℕ) (id : SocketId) (r : RecordNow) (h : IsRecord r) where
  abbrev spent : List SeenEnd
  spent = one_hears id (after_news n bytes) r.spent

  still-open : (o : Option FeedNow) → FeedIsOpen r.spent r.journal o → FeedIsOpen spent r.journal o
  still-open (Some v) a = record { unspent = subst (λ (l : List SocketId). IsNewTo l v.end.id) (sym (ids-heard n bytes id r.spent)) a.unspent; unclosed = a.unclosed }
  still-open None a = tt

  same-feeds : (o : Option FeedNow) → ids_of (spent ++ feed_end o) ≡ ids_of (r.spent ++ feed_end o)
  same-feeds o = map-append (λ (e : SeenEnd). e.id) spent (feed_end o) ∙ ap (λ (l : List SocketId). l ++ ids_of (feed_end o)) (ids-heard n bytes id r.spent)
      ∙ sym (map-append (λ (e : SeenEnd). e.id) r.spent (feed_end o))

  spent-heard : IsRecord (record r { spent = one_hears id (after_news n bytes) r.spent })
  spent-heard = record {
    state = h.state;
    at_state = record {
      replay = replay-stays r.journal (map planned r.plan) (map planned r.plan) (feed_end r.core.live.feed ++ r.spent) (feed_end r.core.live.feed ++ spent) r.trails (as-planned (map planned r.plan))
          (behind r.journal r.core.live.feed r.spent spent (ends-heard n bytes r.journal id r.spent)) r.core.facts h.state h.at_state.replay;
      core = h.at_state.core;
      steps = h.at_state.steps;
      reach = h.at_state.reach;
      parcels = h.at_state.parcels;
      spent = closed-heard n bytes id r.spent h.at_state.spent;
      feed = still-open r.core.live.feed h.at_state.feed;
      room = h.at_state.room;
      few = h.at_state.few;
    };
    settled = h.settled;
    closed = h.closed ∙ sym (ids-heard n bytes id r.spent);
    trails = trails-go-on r.core.facts.node.entity (feed_end r.core.live.feed ++ r.spent) (feed_end r.core.live.feed ++ spent) r.journal r.trails
        (ends-go-on r.journal (feed_end r.core.live.feed ++ r.spent) (feed_end r.core.live.feed ++ spent) (behind r.journal r.core.live.feed r.spent spent (ends-heard n bytes r.journal id r.spent))) h.trails;
    kept = record {
      ends = same-feeds r.core.live.feed ∙ h.kept.ends;
      whole = h.kept.whole;
      parcels = h.kept.parcels;
      plan = h.kept.plan;
      queue = h.kept.queue;
      waits = h.kept.waits;
      held = h.kept.held;
    };
  }

-- ---- as the code comes to it

abbrev Answer : Type 0
Answer = Result (Unit {0}) memory.NoMemory

heard-on : (n : News) (bytes : List ℕ) (r : RecordNow) (o : Option FeedNow) (c : CoreNow) → IsRecord r → r.core.live.feed ≡ o → c ≡ record r.core { live = live_with (feed_after_news n bytes r.core.live.feed) r.core.live } → Stays r.core c →
    IsRecord (record r { core = c })
heard-on n bytes r (Some v) c h was e stays =
    subst (λ (d : CoreNow). Stays r.core d → IsRecord (record r { core = d })) (sym e) (λ s. feed-heard n bytes r h v was s) stays
heard-on n bytes r None c h was e stays = subst (λ (d : CoreNow). IsRecord (record r { core = d })) (sym (e ∙ ap (λ (o : Option FeedNow). record r.core { live = live_with (feed_after_news n bytes o) r.core.live }) was ∙ ap (λ (o : Option FeedNow). record r.core { live = live_with o r.core.live }) (sym was))) h

pub feed-after : (answer : Answer) (n : News) (bytes : List ℕ) (r : RecordNow) (c : CoreNow) → IsRecord r → OnOk answer (c ≡ record r.core { live = live_with (feed_after_news n bytes r.core.live.feed) r.core.live }) → OnErr answer (c ≡ r.core) → Stays r.core c →
    IsRecord (record r { core = c })
feed-after (Ok u) n bytes r c h ok err stays = heard-on n bytes r r.core.live.feed c h refl ok stays
feed-after (Err e) n bytes r c h ok err stays = rw err h

pub spent-after : (answer : Answer) (id : SocketId) (n : News) (bytes : List ℕ) (r : RecordNow) (spent : List SeenEnd) (ends : ℕ) → IsRecord r → ends ≡ r.room.ends → OnOk answer (spent ≡ one_hears id (after_news n bytes) r.spent) → OnErr answer (spent ≡ r.spent) →
    IsRecord (record r { spent = spent; room = record r.room { ends = ends } })
spent-after (Ok u) id n bytes r spent ends h e ok err = rw (e, ok) (spent-heard n bytes id r h)
spent-after (Err x) id n bytes r spent ends h e ok err = rw (e, err) h
