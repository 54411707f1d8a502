-- Cores that are alike but for room, over ends in memory, read and write alike, but for want of memory.
use Rattle.std.proofs.Common.{◌≡◌, ℕ, Bool, true, false, if◌then◌else◌, Option, None, Some, refl, sym, subst, ◌∙◌, ap}
use Rattle.std.specs.Prelude.{◌≢◌}
use Rattle.std.specs.Option.{option_map}
use Rattle.m2_fabric.proofs.m2_lemmas.Options.{some_same}
use Rattle.m2_fabric.specs.End.{Inflow, SeenEnd}
use Rattle.m2_fabric.specs.declared.end.EndRead.{EndRead}
use Rattle.m2_fabric.specs.declared.end.EndRead.TheVariants as read
use Rattle.m2_fabric.specs.declared.end.EndWrite.{EndWrite}
use Rattle.m2_fabric.specs.declared.end.EndWrite.TheVariants as write
use Rattle.m2_script.specs.m2_center.m2_feed.Calls.{IsFront, Passes, PassesFrame, passed}
use Rattle.m2_script.specs.m2_center.m2_feed.FeedNow.{FeedNow, Reading, Room, framing, shaking}
use Rattle.m2_script.specs.m2_center.m2_feed.declared.answers.FeedWrite.{FeedWrite}
use Rattle.m2_script.specs.m2_center.m2_feed.declared.answers.FeedWrite.TheVariants as put
use Rattle.m2_script.specs.m2_center.m2_turn.m2_handshake.m2_frame.Reading.{Item, whole}
use Rattle.m2_script.specs.m2_center.m2_feed.declared.heard.Heard.{Heard}
use Rattle.m2_script.specs.m2_center.m2_feed.declared.heard.Heard.TheVariants as heard
use Rattle.m2_script.specs.m2_center.m2_feed.Heard.{event_of}
use Rattle.m2_script.specs.m2_center.m2_feed.m2_addr.declared.addr.Addr.{Addr}
use Rattle.m2_script.specs.m2_center.m2_feed.m2_journal.SideFacts.{SideFacts}
use Rattle.m2_script.specs.m2_center.m2_feed.m2_policy.declared.policy.Policy.{Policy}
use Rattle.m2_script.specs.m2_center.m2_feed.m2_session.Steps.{step_of}
use Rattle.m2_script.specs.m2_center.m2_feed.m2_session.declared.event.Effects.{Effects}
use Rattle.m2_script.specs.m2_center.m2_feed.m2_session.declared.event.Event.{Event}
use Rattle.m2_script.specs.m2_center.m2_feed.m2_session.declared.session.Phase.{Phase}
use Rattle.m2_script.specs.m2_center.m2_core.LiveNow.{LiveNow, is_ready}
use Rattle.m2_script.specs.m2_center.m2_core.LiveCalls.{live_with, tells_if}
use Rattle.m2_script.specs.m2_center.m2_core.Effects.{closed_if, closes, discards, has_effects, requeues, sets_back, where_true}
use Rattle.m2_script.specs.m2_center.m2_core.LiveHearing.{TakesAnswer, after_answer, heard_on}
use Rattle.m2_script.specs.m2_center.m2_core.OnFeed.{PassesFeed, ReadsFeed, WritesFeed}
use Rattle.m2_script.specs.m2_center.m2_core.CoreNow.{CoreNow}
use Rattle.m2_script.specs.m2_center.m2_core.Hearing.{HasRead, Heeds, ReadNow, effects_heard, heard_after}
use Rattle.m2_script.specs.m2_center.m2_core.Moves.{HasWritten, owes_after}
use Rattle.m2_exact.proofs.Feeds as feeds
use Rattle.m2_exact.proofs.InMemory as memory
use Rattle.m2_exact.specs.Cores.{FeedIsInMemory, LikeCoresReadAndWriteAlike, roomless, roomless_feed}
use Rattle.m2_exact.specs.Feeds.{after_putting, put_by, read_by, with_answer, write_by}

-- ---- a write

written_feed : (answer : FeedWrite) (i : Inflow) (v : FeedNow) (x : Option FeedNow) → v.end.inflow ≡ Some i → answer ≢ put.NoMemory → WritesFeed answer (Some v) x →
    (answer ≡ put_by (write_by i v) v) × (option_map roomless_feed x ≡ Some (roomless_feed (after_putting (write_by i v) v)))
written_feed answer i v (Some x) is memory w =
    let one = feeds.exact.writes answer i v x is memory w in
    (one.0, ap (λ (y : FeedNow). Some (roomless_feed y)) one.1)
written_feed answer i v None is memory w = absurd w

pub written : (answer : FeedWrite) (i : Inflow) (v : FeedNow) (c new : CoreNow) → c.live.feed ≡ Some v → v.end.inflow ≡ Some i → answer ≢ put.NoMemory → HasWritten answer c new →
    (answer ≡ put_by (write_by i v) v)
    × (roomless new ≡ record c { live = live_with (Some (roomless_feed (after_putting (write_by i v) v))) c.live; owes = owes_after (put_by (write_by i v) v) c.owes })
written answer i v c new there is memory w =
    let one = written_feed answer i v new.live.feed is memory (subst (λ (x : Option FeedNow). WritesFeed answer x new.live.feed) there w.writes) in (
      one.0,
      ap roomless w.only
          ∙ ap (λ (x : Option FeedNow). record c { live = live_with x c.live; owes = owes_after answer c.owes }) one.1
          ∙ ap (λ (a : FeedWrite). record c { live = live_with (Some (roomless_feed (after_putting (write_by i v) v))) c.live; owes = owes_after a c.owes }) one.0,
    )

-- room is no part of what is written
put_roomless : (answer : EndWrite) (v : FeedNow) → put_by answer v ≡ put_by answer (roomless_feed v)
put_roomless (write.Put n) v = refl
put_roomless write.NotYet v = refl
put_roomless write.Failed v = refl
put_roomless write.NoMemory v = refl

putting_roomless : (answer : EndWrite) (v : FeedNow) → roomless_feed (after_putting answer v) ≡ roomless_feed (after_putting answer (roomless_feed v))
putting_roomless (write.Put n) v = refl
putting_roomless write.NotYet v = refl
putting_roomless write.Failed v = refl
putting_roomless write.NoMemory v = refl

abbrev with_put : Inflow → FeedNow → CoreNow → CoreNow
with_put i v c = record c { live = live_with (Some (roomless_feed (after_putting (write_by i v) v))) c.live; owes = owes_after (put_by (write_by i v) v) c.owes }

with_put_roomless : (i : Inflow) (v : FeedNow) (c : CoreNow) → with_put i v c ≡ with_put i (roomless_feed v) (roomless c)
with_put_roomless i v c =
    ap (λ (x : FeedNow). record c { live = live_with (Some x) c.live; owes = owes_after (put_by (write_by i v) v) c.owes }) (putting_roomless (write_by i v) v)
    ∙ ap (λ (a : FeedWrite). record c { live = live_with (Some (roomless_feed (after_putting (write_by i v) (roomless_feed v)))) c.live; owes = owes_after a c.owes })
    (put_roomless (write_by i v) v)

-- the feeds of cores that are alike
pub like_feed : (v : FeedNow) (x : Option FeedNow) → Some (roomless_feed v) ≡ option_map roomless_feed x → (w : FeedNow) × (x ≡ Some w) × (roomless_feed v ≡ roomless_feed w)
like_feed v (Some w) h = (w, refl, some_same (roomless_feed v) (roomless_feed w) h)
like_feed v None h = absurd (cc h)

pub like_feeds : (v : FeedNow) (c d : CoreNow) → c.live.feed ≡ Some v → roomless c ≡ roomless d → (w : FeedNow) × (d.live.feed ≡ Some w) × (roomless_feed v ≡ roomless_feed w)
like_feeds v c d there like =
    like_feed v d.live.feed (sym (ap (λ (x : Option FeedNow). option_map roomless_feed x) there) ∙ ap (λ (k : CoreNow). k.live.feed) like)

writes_alike : (one other : FeedWrite) (c d new behind : CoreNow) → FeedIsInMemory c → roomless c ≡ roomless d → one ≢ put.NoMemory → other ≢ put.NoMemory →
    HasWritten one c new → HasWritten other d behind → (one ≡ other) × (roomless new ≡ roomless behind)
writes_alike one other c d new behind in_memory like m k h g =
    let (v, (i, there, is)) = memory.fed_by c.live.feed (memory.is_written one c.live.feed new.live.feed h.writes) in_memory in
    let (w, here, same) = like_feeds v c d there like in
    let a = written one i v c new there is m h in
    let b = written other i w d behind here (sym (ap (λ (x : FeedNow). x.end.inflow) same) ∙ is) k g in (
      a.0 ∙ put_roomless (write_by i v) v ∙ ap (λ (x : FeedNow). put_by (write_by i x) x) same ∙ sym (put_roomless (write_by i w) w) ∙ sym b.0,
      a.1 ∙ with_put_roomless i v c ∙ ap (λ (x : FeedNow). with_put i x (roomless c)) same ∙ ap (λ (x : CoreNow). with_put i (roomless_feed w) x) like
          ∙ sym (with_put_roomless i w d) ∙ sym b.1,
    )

-- ---- a read

read_feed : (answer : EndRead) (i : Inflow) (v : FeedNow) (x : Option FeedNow) → v.end.inflow ≡ Some i → answer ≢ read.NoMemory → ReadsFeed answer (Some v) x →
    (answer ≡ read_by i v) × (x ≡ Some (with_answer (read_by i v) i v))
read_feed answer i v (Some x) is memory r =
    let one = feeds.exact.reads answer i v x is memory r in
    (one.0, ap (λ (y : FeedNow). Some y) one.1)
read_feed answer i v None is memory r = absurd r

-- two texts that are passed at one front
len_one : (r : Reading) (a b : Item) (n m : ℕ) → IsFront r a n → IsFront r b m → n ≡ m
len_one (framing rest granted) a b n m h k = cc (h.1, k.1)
len_one (shaking s) a b n m h k = absurd h

pub passes_one : (old x y : Reading) (a b : Item) → Passes old a x → Passes old b y → x ≡ y
passes_one old x y a b (n, front, is) (m, there, last) = is ∙ ap (λ (l : ℕ). passed l old) (len_one old a b n m front there) ∙ sym last

-- Of room, only what is seen: all of it, or none.
module _ (see : Room → Room) where
  abbrev seen_feed : FeedNow → FeedNow
  seen_feed v = record v { room = see v.room }

  abbrev seen : Option FeedNow → Option FeedNow
  seen = option_map seen_feed

  abbrev seen_live : LiveNow → LiveNow
  seen_live l = live_with (seen l.feed) l

  abbrev seen_core : CoreNow → CoreNow
  seen_core c = record c { live = seen_live c.live }

  -- ---- steps of the session

  where_seen : (b : Bool) (change : LiveNow → LiveNow) (l : LiveNow) → seen_live (change l) ≡ change (seen_live l) → seen_live (where_true b change l) ≡ where_true b change (seen_live l)
  where_seen true change l h = h
  where_seen false change l h = refl

  effects_seen : (e : Effects) (l : LiveNow) → seen_live (has_effects e l) ≡ has_effects e (seen_live l)
  effects_seen e l =
      let closed = where_true e.close closes l in
      let requeued = where_true e.requeue requeues closed in
      let back = where_true e.set_back sets_back requeued in
      where_seen e.discard discards back refl
      ∙ ap (where_true e.discard discards) (where_seen e.set_back sets_back requeued refl
      ∙ ap (where_true e.set_back sets_back) (where_seen e.requeue requeues closed refl ∙ ap (where_true e.requeue requeues) (where_seen e.close closes l refl)))

  pub tells_seen : (e : Option Event) (l : LiveNow) → seen_live (tells_if e l) ≡ tells_if e (seen_live l)
  tells_seen None l = refl
  tells_seen (Some e) l = effects_seen (step_of l.session e).effects (record l { session = (step_of l.session e).session })

  -- ---- what is heard

  heard_seen : (peer : Addr) (policy : Policy) (phase : Phase) (x : Option FeedNow) → heard_on peer policy phase x ≡ heard_on peer policy phase (seen x)
  heard_seen peer policy phase (Some v) = refl
  heard_seen peer policy phase None = refl

  hears_seen : (answer : EndRead) (f : SideFacts) (l : LiveNow) → heard_after answer f l ≡ heard_after answer f (seen_live l)
  hears_seen (read.Got n) f l = ap (λ (h : Option Heard). if is_ready l then None else h) (heard_seen f.peer f.policy l.session.phase l.feed)
  hears_seen read.NotYet f l = refl
  hears_seen read.Ended f l = refl
  hears_seen read.Failed f l = refl
  hears_seen read.NoMemory f l = refl

  pub closed_seen : (b : Bool) (x : Option FeedNow) → closed_if b x ≡ closed_if b (seen x)
  closed_seen true (Some v) = refl
  closed_seen true None = refl
  closed_seen false x = refl

  -- ---- what is taken

  pub passes_alike : (old other x y : Option FeedNow) → seen old ≡ seen other → PassesFeed old x → PassesFeed other y → seen x ≡ seen y
  passes_alike (Some v) (Some w) (Some x) (Some y) like (h, only) (k, last) =
      let same = some_same (seen_feed v) (seen_feed w) like in
      let first : PassesFrame w.reading x.reading = subst (λ (r : Reading). PassesFrame r x.reading) (ap (λ (z : FeedNow). z.reading) same) h in
      ap (λ (z : FeedNow). Some (seen_feed z)) only
      ∙ ap (λ (z : FeedNow). Some (record z { reading = x.reading })) same
      ∙ ap (λ (r : Reading). Some (record (seen_feed w) { reading = r })) (passes_one w.reading x.reading y.reading (whole first.0) (whole k.0) first.1 k.1)
      ∙ sym (ap (λ (z : FeedNow). Some (seen_feed z)) last)
  passes_alike (Some v) (Some w) (Some x) None like h k = absurd k
  passes_alike (Some v) (Some w) None y like h k = absurd h
  passes_alike (Some v) None x y like h k = absurd k
  passes_alike None other x y like h k = absurd h

  takes_alike : (h : Heard) (old other new behind : LiveNow) → seen_live old ≡ seen_live other → TakesAnswer h old new → TakesAnswer h other behind → seen_live new ≡ seen_live behind
  takes_alike h old other new behind like a b =
      let passed = passes_alike old.feed other.feed a.passed b.passed (ap (λ (l : LiveNow). l.feed) like) a.passes b.passes in
      ap seen_live a.live
      ∙ tells_seen (event_of h) _
      ∙ ap (λ (x : Option FeedNow). after_answer h x (seen_live old)) passed
      ∙ ap (λ (l : LiveNow). after_answer h (seen b.passed) l) like
      ∙ sym (tells_seen (event_of h) _)
      ∙ sym (ap seen_live b.live)

  heeds_alike : (h : Option Heard) (old other new behind : LiveNow) → seen_live old ≡ seen_live other → Heeds h old new → Heeds h other behind → seen_live new ≡ seen_live behind
  heeds_alike None old other new behind like a b = ap seen_live a ∙ like ∙ sym (ap seen_live b)
  heeds_alike (Some (heard.Reset full)) old other new behind like a b = ap seen_live a ∙ like ∙ sym (ap seen_live b)
  heeds_alike (Some (heard.Refused e)) old other new behind like a b = ap seen_live a ∙ like ∙ sym (ap seen_live b)
  heeds_alike (Some h) old other new behind like a b = takes_alike h old other new behind like a b

-- what a read answers, by its answer alone
answer_of : EndRead → Option FeedNow → CoreNow → ReadNow
answer_of a x c =
    let said = heard_after a c.facts (live_with x c.live) in
    record { answer = a; heard = said; closed = closed_if (effects_heard said c.live.session).close x }

said_so : (r : ReadNow) (c new : CoreNow) (h : HasRead r c new) → r ≡ answer_of r.answer h.feed c
unfolding answer_of
said_so r c new h =
    ap (λ (x : Option SeenEnd). record r { closed = x }) h.closes
    ∙ ap (λ (x : Option Heard). record { answer = r.answer; heard = x; closed = closed_if (effects_heard x c.live.session).close h.feed }) h.hears

-- of feeds and cores that are alike
module _ (see : Room → Room) where
  answer_seen : (a : EndRead) (x : Option FeedNow) (c : CoreNow) → answer_of a x c ≡ answer_of a (seen see x) (seen_core see c)
  unfolding answer_of
  answer_seen a x c =
      let after = heard_after a c.facts (live_with (seen see x) c.live) in
      ap (λ (said : Option Heard). record { answer = a; heard = said; closed = closed_if (effects_heard said c.live.session).close x }) (hears_seen see a c.facts (live_with x c.live))
      ∙ ap (λ (e : Option SeenEnd). record { answer = a; heard = after; closed = e }) (closed_seen see (effects_heard after c.live.session).close x)

  reads_alike : (one other : ReadNow) (i : Inflow) (v w : FeedNow) (c d new behind : CoreNow) → c.live.feed ≡ Some v → d.live.feed ≡ Some w → v.end.inflow ≡ Some i →
      seen_feed see v ≡ seen_feed see w → seen_core see c ≡ seen_core see d → one.answer ≢ read.NoMemory → other.answer ≢ read.NoMemory → HasRead one c new → HasRead other d behind →
      (one ≡ other) × (seen_core see new ≡ seen_core see behind)
  reads_alike one other i v w c d new behind there here is same like m k h g =
      let a = read_feed one.answer i v h.feed is m (subst (λ (x : Option FeedNow). ReadsFeed one.answer x h.feed) there h.reads) in
      let b = read_feed other.answer i w g.feed (sym (ap (λ (x : FeedNow). x.end.inflow) same) ∙ is) k (subst (λ (x : Option FeedNow). ReadsFeed other.answer x g.feed) here g.reads) in
      let answers : one.answer ≡ other.answer = a.0 ∙ ap (λ (x : FeedNow). read_by i x) same ∙ sym b.0 in
      let feed : seen see h.feed ≡ seen see g.feed = ap (seen see) a.1 ∙ ap (λ (x : FeedNow). Some (with_answer (read_by i x) i x)) same ∙ sym (ap (seen see) b.1) in
      let said : one ≡ other =
      said_so one c new h
      ∙ ap (λ (x : EndRead). answer_of x h.feed c) answers
      ∙ answer_seen other.answer h.feed c
      ∙ ap (λ (x : Option FeedNow). answer_of other.answer x (seen_core see c)) feed
      ∙ ap (λ (x : CoreNow). answer_of other.answer (seen see g.feed) x) like
      ∙ sym (answer_seen other.answer g.feed d)
      ∙ sym (said_so other d behind g) in
      let first : Heeds other.heard (live_with h.feed c.live) new.live = subst (λ (r : ReadNow). Heeds r.heard (live_with h.feed c.live) new.live) said h.heeds in
      let stood : seen_live see (live_with h.feed c.live) ≡ seen_live see (live_with g.feed d.live) =
      ap (λ (x : Option FeedNow). live_with x c.live) feed ∙ ap (λ (x : CoreNow). live_with (seen see g.feed) x.live) like in
      let left : seen_live see new.live ≡ seen_live see behind.live = heeds_alike see other.heard (live_with h.feed c.live) (live_with g.feed d.live) new.live behind.live stood first g.heeds in (
        said,
        ap (seen_core see) h.only
            ∙ ap (λ (l : LiveNow). record c { live = l }) left
            ∙ ap (λ (x : CoreNow). record x { live = seen_live see behind.live }) like
            ∙ sym (ap (seen_core see) g.only),
      )

reads_like : (one other : ReadNow) (c d new behind : CoreNow) → FeedIsInMemory c → roomless c ≡ roomless d → one.answer ≢ read.NoMemory → other.answer ≢ read.NoMemory →
    HasRead one c new → HasRead other d behind → (one ≡ other) × (roomless new ≡ roomless behind)
reads_like one other c d new behind in_memory like m k h g =
    let (v, (i, there, is)) = memory.fed_by c.live.feed (memory.is_read one.answer c.live.feed h.feed h.reads) in_memory in
    let (w, here, same) = like_feeds v c d there like in
    reads_alike (λ (r : Room). record { payload = 0; text = 0 }) one other i v w c d new behind there here is same like m k h g

all_seen : (x : Option FeedNow) → seen (λ (r : Room). r) x ≡ x
all_seen (Some v) = refl
all_seen None = refl

reads_of_one : (one other : ReadNow) (c new behind : CoreNow) → FeedIsInMemory c → one.answer ≢ read.NoMemory → other.answer ≢ read.NoMemory →
    HasRead one c new → HasRead other c behind → new ≡ behind
reads_of_one one other c new behind in_memory m k h g =
    let (v, (i, there, is)) = memory.fed_by c.live.feed (memory.is_read one.answer c.live.feed h.feed h.reads) in_memory in
    sym (ap (λ (x : Option FeedNow). record new { live = live_with x new.live }) (all_seen new.live.feed))
    ∙ (reads_alike (λ (r : Room). r) one other i v v c c new behind there there is refl refl m k h g).1
    ∙ ap (λ (x : Option FeedNow). record behind { live = live_with x behind.live }) (all_seen behind.live.feed)

pub exact : LikeCoresReadAndWriteAlike
exact = record { writes = writes_alike; reads = reads_like; reads_of_one = reads_of_one; written_stays = memory.written; read_stays = memory.has_read }
