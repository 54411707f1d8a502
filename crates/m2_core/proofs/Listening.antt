-- A read, and the answer that it completes: the core and the replay go on alike.
use Rattle.std.proofs.Common.{◌≡◌, ℕ, ◌<◌, Bool, true, false, List, ◌++◌, length, take, drop, Option, Some, None, refl, sym, ap, subst, ◌∙◌, inl, inr}
use Rattle.std.specs.Prelude.{nat_lt, if◌then◌else◌}
use Rattle.std.proofs.Math.Seq.{drop-append_seam}
use Rattle.std.proofs.lemmas.Bool.{lt-ltb}
use Rattle.std.proofs.lemmas.List.{length-take-le}
use Rattle.m2_control.specs.declared.control.Control.TheVariants as control
use Rattle.m2_control.specs.declared.keepalive.Keepalive.{Keepalive}
use Rattle.m2_fabric.specs.End.{SeenEnd}
use Rattle.m2_fabric.specs.Sockets.{same_socket}
use Rattle.m2_fabric.specs.declared.end.EndRead.{EndRead}
use Rattle.m2_fabric.specs.declared.end.EndRead.TheVariants as read
use Rattle.m2_feed.specs.Calls.{IsFront, OnlyReads, PassesFrame, ReadsOn}
use Rattle.m2_feed.specs.FeedNow.{FeedNow}
use Rattle.m2_feed.specs.FeedLaws.{ChangesBeside, HearsBeside, HearsTold, ReadsBeside, StaysBeside, TakesBeside, gives}
use Rattle.m2_feed.specs.Stands.{Stands, is_ready}
use Rattle.m2_frame.specs.Frame.{Parts}
use Rattle.m2_frame.specs.Reading.{whole}
use Rattle.m2_feed.specs.declared.heard.Heard.{Heard}
use Rattle.m2_feed.specs.declared.heard.Heard.TheVariants as heard
use Rattle.m2_feed.specs.Front.{event_in, heard_at}
use Rattle.m2_feed.specs.Heard.{event_of}
use Rattle.m2_feed.specs.AnswerLaws.{FramesAreHeard, FrontsAreHeard, IsHeard}
use Rattle.m2_journal.specs.Feeds.{answer_said, hears, stamp_of, told_by}
use Rattle.m2_journal.specs.Items as item
use Rattle.m2_journal.specs.Lawful.{AreSome, OnFeedAt}
use Rattle.m2_journal.specs.Said.{Said, says, said}
use Rattle.m2_journal.specs.SideFacts.{SideFacts}
use Rattle.m2_journal.specs.State.{Feed, State}
use Rattle.m2_journal.specs.Steps as replay
use Rattle.m2_journal.specs.Steps.{after, answer_event, event_heard, heeds, takes_answer}
use Rattle.m2_session.specs.declared.event.Event.{Event}
use Rattle.m2_session.specs.declared.session.Phase.{Phase}
use Rattle.m2_session.specs.declared.session.Phase.TheVariants.{IdentSent, ReconnectSent, Ready}
use Rattle.m2_session.specs.declared.session.Session.{Session}
use Rattle.m2_session.specs.Phases as phase
use Rattle.m2_shared.specs.declared.peer_grants.PeerGrants.{PeerGrants}
use Rattle.m2_core.specs.LiveNow.{LiveNow}
use Rattle.m2_core.specs.Effects.{closed_if}
use Rattle.m2_core.specs.OnFeed.{PassesFeed, ReadsFeed}
use Rattle.m2_core.specs.LiveCalls.{live_with}
use Rattle.m2_core.specs.LiveHearing.{TakesAnswer, after_answer, heard_on}
use Rattle.m2_core.proofs.Agreeing.{IsResumed, agreed, core_of, stands_as}
use Rattle.m2_core.proofs.Faulting.{is_on_feed}
use Rattle.m2_core.proofs.HeardBytes.{keeps}
use Rattle.m2_core.proofs.Taken.{Fronted, fronted_by, none_isnt_event}
use Rattle.m2_core.proofs.Telling.{resumed_still}
use Rattle.m2_core.specs.Agrees.{Agrees, FeedsAgree, Stays}
use Rattle.m2_core.specs.CoreNow.{CoreNow, Holds, IsAskedIfSigned}
use Rattle.m2_core.specs.Hearing.{HasRead, Heeds, IsRead, IsReadEntry, effects_heard, heard_after, hearing}
use Rattle.m2_feed.proofs.Heeding.{is_ready as is_the_phase}

-- ---- what a read gave

same_bytes : (log xs ys : List ℕ) → log ++ xs ≡ log ++ ys → xs ≡ ys
same_bytes log xs ys e = sym (drop-append_seam log xs) ∙ ap (λ (l : List ℕ). drop (length log) l) e ∙ drop-append_seam log ys

pub record Got (n : ℕ) (old new : FeedNow) : Type 0 where
  pub bytes : List ℕ
  pub some : 0 < n
  pub count : length bytes ≡ n
  pub log : new.end.log.got ≡ old.end.log.got ++ bytes

got : (n : ℕ) (old new : FeedNow) → ReadsOn (read.Got n) old new → Got n old new
got n old new w = record {
  bytes = take n w.hears.piece;
  some = w.hears.reads.0.some;
  count = length-take-le n w.hears.piece w.hears.reads.0.fits;
  log = ap (λ e. e.log.got) w.hears.reads.2;
}

-- ---- an answer is no keepalive

keepalive_unheard : (f : SideFacts) (p : Phase) (k : Keepalive) → answer_event f p (Some (says (control.Keepalive k))) ≡ None
keepalive_unheard f IdentSent k = refl
keepalive_unheard f ReconnectSent k = refl
keepalive_unheard f _ k = refl

no_stamp : (f : SideFacts) (p : Phase) (y : Said) (e : Event) → answer_event f p (Some y) ≡ Some e → stamp_of y ≡ None
no_stamp f p (says (control.Keepalive k)) e q = absurd (none_isnt_event e (sym (keepalive_unheard f p k) ∙ q))
no_stamp f p _ e q = refl

-- ---- an answer is taken

-- in Ready the replay takes no answer
ready_unheard : (f : SideFacts) (p : Phase) (x : Option Said) → phase.is p Ready ≡ true → answer_event f p x ≡ None
ready_unheard f p x q = subst (λ z. answer_event f z x ≡ None) (sym (is_the_phase p q)) refl

module _ (takes : TakesBeside) (changes : ChangesBeside) (tells : HearsTold) (f : SideFacts) (t : State) (n r : ℕ) (g : PeerGrants) (new passed : FeedNow) (d : Feed)
    (x : Parts) (len : ℕ) (q : is_ready t ≡ false) (front : IsFront new.reading (whole x) len) (p : PassesFrame new.reading passed.reading) (only : OnlyReads new passed)
    (st : Stands f t new d) (resumed : IsResumed r (Some d)) (stamp : stamp_of (said (whole x)) ≡ None) where
  abbrev taker : Heard → CoreNow
  taker h = record (core_of f t n r (Some new) g) { live = after_answer h (Some passed) (core_of f t n r (Some new) g).live }

  behind : Stands f t passed (takes_answer d)
  behind = takes.answer f t (whole x) new passed d st q stamp (record { len = len; front = front; other = whole p.0; passes = p.1 }) only

  answered : (h : Heard) (e : Event) → event_of h ≡ Some e → ((seen : ℕ) → h ≡ heard.ReconnectOk seen → told_by (said (whole x)) ≡ Some seen) →
      Agrees (taker h) (heeds (event_of h) d t)
  answered (heard.ServerIdent cookie global) e is told = record {
    session = refl;
    queue = refl;
    last = refl;
    life = refl;
    owes = refl;
    dials = refl;
    top = refl;
    feed = changes.idle f t _ passed (takes_answer d) 0 t.owes behind q;
    resumed = resumed;
  }
  answered (heard.ReconnectOk seen) e is told = record {
    session = refl;
    queue = refl;
    last = refl;
    life = refl;
    owes = refl;
    dials = refl;
    top = refl;
    feed = changes.idle f t _ passed (takes_answer d) d.floor d.owed behind q;
    resumed = inr (tells f t (whole x) len seen new d st front (told seen refl));
  }
  answered (heard.Retry number) e is told = record {
    session = refl;
    queue = refl;
    last = refl;
    life = refl;
    owes = refl;
    dials = refl;
    top = refl;
    feed = changes.idle f t _ passed (takes_answer d) d.floor d.owed behind q;
    resumed = resumed;
  }
  answered (heard.RetryGlobal number) e is told = record {
    session = refl;
    queue = refl;
    last = refl;
    life = refl;
    owes = refl;
    dials = refl;
    top = refl;
    feed = changes.idle f t _ passed (takes_answer d) d.floor d.owed behind q;
    resumed = resumed;
  }
  answered heard.Wait e is told = record {
    session = refl;
    queue = refl;
    last = refl;
    life = refl;
    owes = refl;
    dials = refl;
    top = refl;
    feed = tt;
    resumed = inl refl;
  }
  answered (heard.Reset full) e is told = absurd (none_isnt_event e is)
  answered (heard.Refused z) e is told = absurd (none_isnt_event e is)

-- ---- the replay behind the bytes, and what the core makes of what it heard

record Knows : Type 0 where
  moves : StaysBeside
  hears_it : HearsBeside
  takes : TakesBeside
  changes : ChangesBeside
  tells : HearsTold
  frames : FramesAreHeard
  fronts : FrontsAreHeard

-- what is heard is what the replay takes
event_same : Knows → (f : SideFacts) (t : State) (mid : FeedNow) (d : Feed) (o : Option Heard) → Stands f t mid d → IsAskedIfSigned t.session.phase (Some mid) →
    o ≡ (if phase.is t.session.phase Ready then None else heard_at f.peer f.policy t.session.phase mid.reading) →
    event_heard f t.session.phase d ≡ event_in o
event_same law f t mid d o st signed is = by_ready (phase.is t.session.phase Ready) refl is
  where
    by_ready : (b : Bool) → phase.is t.session.phase Ready ≡ b → o ≡ (if b then None else heard_at f.peer f.policy t.session.phase mid.reading) →
        event_heard f t.session.phase d ≡ event_in o
    by_ready true q e = ready_unheard f t.session.phase (answer_said d) q ∙ ap event_in (sym e)
    by_ready false q e = law.fronts f t mid d st signed ∙ ap event_in (sym e)

-- where the replay stands behind the bytes, the core does before anything is taken
silent : ChangesBeside → (c : CoreNow) (t : State) (v mid : FeedNow) (d : Feed) → Agrees (record c { live = live_with (Some v) c.live }) t → Stands c.facts t mid d →
    IsResumed c.live.resumed (Some d) → Agrees (record c { live = live_with (Some mid) c.live }) (replay.with_feed d t)
silent changes c t v mid d a st resumed = record {
  session = a.session;
  queue = a.queue;
  last = a.last;
  life = a.life;
  owes = a.owes;
  dials = a.dials;
  top = a.top;
  feed = stands_as changes c.facts t _ mid d refl refl refl st;
  resumed = resumed;
}

module _ (law : Knows) (c : CoreNow) (mid : FeedNow) (l : LiveNow) (t : State) (d : Feed) (a : Agrees (record c { live = live_with (Some mid) c.live }) (replay.with_feed d t))
    (st : Stands c.facts t mid d) (resumed : IsResumed c.live.resumed (Some d)) where
  passed_at : (h : Heard) (e : Event) (y : Option FeedNow) → event_of h ≡ Some e → PassesFeed (Some mid) y → l ≡ after_answer h y (live_with (Some mid) c.live) →
      Fronted c.facts.peer c.facts.policy t.session.phase mid h → Agrees (record c { live = l }) (heeds (event_of h) d t)
  passed_at h e (Some passed) is p live k =
      let says : IsHeard c.facts t.session.phase (said (whole k.frame)) h =
      subst (λ z. IsHeard c.facts t.session.phase (said (whole k.frame)) z) (sym k.says) (law.frames c.facts t.session.phase k.frame) in
      let stamp : stamp_of (said (whole k.frame)) ≡ None = no_stamp c.facts t.session.phase (said (whole k.frame)) e (says.answer ∙ is) in
      subst (λ (z : LiveNow). Agrees (record c { live = z }) (heeds (event_of h) d t)) (sym live)
      (subst (λ (u : CoreNow). Agrees (record u { live = after_answer h (Some passed) u.live }) (heeds (event_of h) d t))
      (agreed (record c { live = live_with (Some mid) c.live }) (replay.with_feed d t) a)
      (answered law.takes law.changes law.tells c.facts t c.live.out.spare c.live.resumed c.live.granted mid passed d k.frame k.len k.before k.front p.0 p.1 st resumed stamp h e is says.told))
  passed_at h e None is p live k = absurd p

  taken_at : (h : Heard) (e : Event) → event_of h ≡ Some e → TakesAnswer h (live_with (Some mid) c.live) l →
      Fronted c.facts.peer c.facts.policy t.session.phase mid h → Agrees (record c { live = l }) (heeds (event_of h) d t)
  taken_at h e is w k = passed_at h e w.passed is w.passes w.live k

  heeded_at : (o : Option Heard) → Heeds o (live_with (Some mid) c.live) l →
      o ≡ (if phase.is t.session.phase Ready then None else heard_on c.facts.peer c.facts.policy t.session.phase (Some mid)) → Agrees (record c { live = l }) (heeds (event_in o) d t)
  heeded_at (Some (heard.ServerIdent cookie global)) w is = taken_at _ _ refl w (fronted_by c.facts t.session.phase (Some mid) _ (phase.is t.session.phase Ready) refl (sym is))
  heeded_at (Some (heard.ReconnectOk seen)) w is = taken_at _ _ refl w (fronted_by c.facts t.session.phase (Some mid) _ (phase.is t.session.phase Ready) refl (sym is))
  heeded_at (Some (heard.Retry number)) w is = taken_at _ _ refl w (fronted_by c.facts t.session.phase (Some mid) _ (phase.is t.session.phase Ready) refl (sym is))
  heeded_at (Some (heard.RetryGlobal number)) w is = taken_at _ _ refl w (fronted_by c.facts t.session.phase (Some mid) _ (phase.is t.session.phase Ready) refl (sym is))
  heeded_at (Some heard.Wait) w is = taken_at _ _ refl w (fronted_by c.facts t.session.phase (Some mid) _ (phase.is t.session.phase Ready) refl (sym is))
  heeded_at (Some (heard.Reset full)) w is = subst (λ (z : LiveNow). Agrees (record c { live = z }) (replay.with_feed d t)) (sym w) a
  heeded_at (Some (heard.Refused e)) w is = subst (λ (z : LiveNow). Agrees (record c { live = z }) (replay.with_feed d t)) (sym w) a
  heeded_at None w is = subst (λ (z : LiveNow). Agrees (record c { live = z }) (replay.with_feed d t)) (sym w) a

-- ---- the entry Read

module _ (law : Knows) (c : CoreNow) (n : ℕ) (v mid : FeedNow) (o : Option Heard) (l : LiveNow) (signed : IsAskedIfSigned c.live.session.phase (Some mid))
    (w : ReadsOn (read.Got n) v mid) (is : o ≡ hearing c.facts (live_with (Some mid) c.live)) (takes : Heeds o (live_with (Some mid) c.live) l) where
  abbrev old : CoreNow
  old = record c { live = live_with (Some v) c.live }

  abbrev piece : Got n v mid
  piece = got n v mid w

  read_at : (s : State) → Agrees old s → (d : Feed) → Stands c.facts s v d → IsResumed c.live.resumed (Some d) →
      Agrees (record c { live = l }) (replay.reads c.facts (hears piece.bytes d) s)
  read_at s a d st resumed =
      let beside : ReadsBeside c.facts s n v mid d = law.hears_it c.facts s n v mid d st w in
      let same : beside.bytes ≡ piece.bytes = same_bytes v.end.log.got beside.bytes piece.bytes (sym beside.log ∙ piece.log) in
      let e : Feed = hears piece.bytes d in
      let stands : Stands c.facts s mid e = subst (λ b. Stands c.facts s mid (hears b d)) same beside.stands in
      let still : IsResumed c.live.resumed (Some e) = resumed_still c.live.resumed piece.bytes d resumed in
      let asked : IsAskedIfSigned s.session.phase (Some mid) = subst (λ (z : Session). IsAskedIfSigned z.phase (Some mid)) a.session signed in
      let heard_there : o ≡ (if phase.is s.session.phase Ready then None else heard_on c.facts.peer c.facts.policy s.session.phase (Some mid)) =
      subst (λ (z : Session). o ≡ (if phase.is z.phase Ready then None else heard_on c.facts.peer c.facts.policy z.phase (Some mid))) a.session is in
      subst (λ z. Agrees (record c { live = l }) (heeds z e s)) (sym (event_same law c.facts s mid e o stands asked heard_there))
      (heeded_at law c mid l s e (silent law.changes c s v mid e a stands still) stands still o takes heard_there)

  reads_at : (s : State) → Agrees old s → (y : Option Feed) → s.feed ≡ y → FeedsAgree c.facts s (Some v) y → IsResumed c.live.resumed y →
      Agrees (record c { live = l }) (after c.facts (item.read v.end.id piece.bytes) s)
  reads_at s a (Some d) e st resumed =
      subst (λ z. Agrees (record c { live = l }) (replay.on_feed_at z (λ x. replay.reads c.facts (hears piece.bytes x)) s)) (sym e) (read_at s a d st resumed)
  reads_at s a None e st resumed = absurd st

  on_feed : (s : State) (y : Option Feed) → FeedsAgree c.facts s (Some v) y → OnFeedAt y (λ d. same_socket v.end.id d.socket ≡ true)
  on_feed s (Some d) st = is_on_feed c.facts s v d st
  on_feed s None st = absurd st

  some_bytes : AreSome piece.bytes
  some_bytes = subst (λ m. nat_lt 0 m ≡ true) (sym piece.count) (lt-ltb 0 n piece.some)

  read_entry : IsReadEntry n v mid old (record c { live = l })
  read_entry = record {
    bytes = piece.bytes;
    some = piece.some;
    count = piece.count;
    log = piece.log;
    may = λ s a. (on_feed s s.feed a.feed, some_bytes);
    leads = λ s a. reads_at s a s.feed refl a.feed a.resumed;
  }

-- ---- a read that gave nothing

still_on : StaysBeside → (f : SideFacts) (s : State) (answer : EndRead) (v mid : FeedNow) (y : Option Feed) → gives answer ≡ false → ReadsOn answer v mid →
    FeedsAgree f s (Some v) y → FeedsAgree f s (Some mid) y
still_on moves f s answer v mid (Some d) e w st = moves.read f s answer v mid d st e w
still_on moves f s answer v mid None e w st = st

stays : StaysBeside → (answer : EndRead) (c : CoreNow) (v mid : FeedNow) (l : LiveNow) → gives answer ≡ false → ReadsOn answer v mid → l ≡ live_with (Some mid) c.live →
    Stays (record c { live = live_with (Some v) c.live }) (record c { live = l })
stays moves answer c v mid l e w is s a = subst (λ (z : LiveNow). Agrees (record c { live = z }) s) (sym is) (record {
  session = a.session;
  queue = a.queue;
  last = a.last;
  life = a.life;
  owes = a.owes;
  dials = a.dials;
  top = a.top;
  feed = still_on moves c.facts s answer v mid s.feed e w a.feed;
  resumed = a.resumed;
})

-- ---- each answer of the end

nothing_heard : (o : Option Heard) (mid l : LiveNow) → o ≡ None → Heeds o mid l → l ≡ mid
nothing_heard o mid l e w = subst (λ z. Heeds z mid l) e w

entry_on : Knows → (answer : EndRead) (c : CoreNow) (x y : Option FeedNow) (o : Option Heard) (l : LiveNow) → IsAskedIfSigned c.live.session.phase y → ReadsFeed answer x y →
    o ≡ heard_after answer c.facts (live_with y c.live) → Heeds o (live_with y c.live) l → IsRead answer x y (record c { live = live_with x c.live }) (record c { live = l })
entry_on law (read.Got n) c (Some v) (Some mid) o l signed w is t = read_entry law c n v mid o l signed w is t
entry_on law read.NotYet c (Some v) (Some mid) o l signed w is t = stays law.moves read.NotYet c v mid l refl w (nothing_heard o _ l is t)
entry_on law read.Ended c (Some v) (Some mid) o l signed w is t = stays law.moves read.Ended c v mid l refl w (nothing_heard o _ l is t)
entry_on law read.Failed c (Some v) (Some mid) o l signed w is t = stays law.moves read.Failed c v mid l refl w (nothing_heard o _ l is t)
entry_on law read.NoMemory c (Some v) (Some mid) o l signed w is t = stays law.moves read.NoMemory c v mid l refl w (nothing_heard o _ l is t)
entry_on law answer c None y o l signed w is t = absurd w
entry_on law answer c (Some v) None o l signed w is t = absurd w

pub has_read : StaysBeside → HearsBeside → TakesBeside → ChangesBeside → HearsTold → FramesAreHeard → FrontsAreHeard →
    (answer : EndRead) (c : CoreNow) (y : Option FeedNow) (o : Option Heard) (closed : Option SeenEnd) (l : LiveNow) → Holds (record c { live = live_with y c.live }) →
    ReadsFeed answer c.live.feed y → o ≡ heard_after answer c.facts (live_with y c.live) → Heeds o (live_with y c.live) l → closed ≡ closed_if (effects_heard o c.live.session).close y →
    HasRead (record { answer = answer; heard = o; closed = closed }) c (record c { live = l })
has_read moves hears_it takes changes tells frames fronts answer c y o closed l holds w is t left =
    let law : Knows = record { moves = moves; hears_it = hears_it; takes = takes; changes = changes; tells = tells; frames = frames; fronts = fronts } in
    record {
      feed = y;
      reads = w;
      hears = is;
      heeds = t;
      only = refl;
      closes = left;
      entry = entry_on law answer c c.live.feed y o l holds.sound.asked w is t;
    }

-- the same, as the code comes to it: by a core that has read, and then heeded what it heard
pub core_reads : StaysBeside → HearsBeside → TakesBeside → ChangesBeside → HearsTold → FramesAreHeard → FrontsAreHeard →
    (b v mid after : CoreNow) (answer : EndRead) (n : ℕ) (o : Option Heard) (closed : Option SeenEnd) → Holds b → b ≡ v → answer ≡ read.Got n →
    ReadsFeed answer v.live.feed mid.live.feed → mid ≡ record v { live = live_with mid.live.feed v.live } → o ≡ hearing mid.facts mid.live → Heeds o mid.live after.live →
    after ≡ record mid { live = after.live } → closed ≡ closed_if (effects_heard o mid.live.session).close mid.live.feed →
    HasRead (record { answer = answer; heard = o; closed = closed }) v after
core_reads moves hears_it takes changes tells frames fronts b v mid after answer n o closed holds same got_n w only is t live left =
    let y : Option FeedNow = mid.live.feed in
    let before : Holds (record v { live = live_with y v.live }) = keeps answer v y (subst Holds same holds) w in
    let heard_there : o ≡ hearing v.facts (live_with y v.live) = subst (λ (z : CoreNow). o ≡ hearing z.facts z.live) only is in
    let after_read : o ≡ heard_after answer v.facts (live_with y v.live) = subst (λ z. o ≡ heard_after z v.facts (live_with y v.live)) (sym got_n) heard_there in
    let heeds_it : Heeds o (live_with y v.live) after.live = subst (λ (z : CoreNow). Heeds o z.live after.live) only t in
    let closes : closed ≡ closed_if (effects_heard o v.live.session).close y = subst (λ (z : CoreNow). closed ≡ closed_if (effects_heard o z.live.session).close y) only left in
    let whole_after : after ≡ record v { live = after.live } = live ∙ ap (λ (z : CoreNow). record z { live = after.live }) only in
    subst (λ z. HasRead (record { answer = answer; heard = o; closed = closed }) v z) (sym whole_after)
    (has_read moves hears_it takes changes tells frames fronts answer v y o closed after.live before w after_read heeds_it closes)
