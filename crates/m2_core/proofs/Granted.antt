-- What is granted for a MESSAGE: the replay knows nothing of it.
use Rattle.std.proofs.Common.{◌≡◌, ℕ, Bool, true, false, List, Option, Some, None, refl, sym, ap, ◌∙◌, subst}
use Rattle.std.specs.Prelude.{◌&&◌}
use Rattle.std.specs.Option.{is_some}
use Rattle.std.proofs.lemmas.Bool.{true≢false}
use Rattle.m2_feed.specs.Calls.{Owes, with_grant}
use Rattle.m2_feed.specs.FeedNow.{FeedNow, Reading, framing, shaking}
use Rattle.m2_feed.specs.Stands.{ReadsAs}
use Rattle.m2_feed.proofs.Framing.{same, writes-same}
use Rattle.m2_frame.specs.Reading.{size_of}
use Rattle.m2_journal.specs.SideFacts.{SideFacts}
use Rattle.m2_journal.specs.State.{Feed, State}
use Rattle.m2_session.specs.declared.session.Phase.TheVariants.{Ready}
use Rattle.m2_session.specs.declared.session.Session.{Session}
use Rattle.m2_session.specs.Phases as phase
use Rattle.m2_shared.specs.Gates.{AsksPeer, by_stage, is_whole, pass_in, throttle_in}
use Rattle.m2_shared.specs.More.{Course, Goes, passes, is_full, had_changed, unasked, course}
use Rattle.m2_shared.specs.Stages.{amount, grant_at}
use Rattle.m2_shared.specs.Taking.{Taking, taking}
use Rattle.m2_shared.specs.Throttle.{SeenGrant}
use Rattle.m2_shared.specs.declared.more.More.{More}
use Rattle.m2_shared.specs.declared.more.More.TheVariants as more
use Rattle.m2_shared.specs.declared.peer_grants.PeerGrants.{PeerGrants}
use Rattle.m2_shared.specs.declared.peer_type.PeerType.{PeerType}
use Rattle.m2_shared.specs.declared.stage.Stage.{Stage}
use Rattle.m2_shared.specs.declared.stage.Stage.TheVariants.{Messages, Bytes, Dispatch}
use Rattle.m2_core.specs.LiveNow.{AreFor, IsAmount, LiveNow, OnFeedNow, is_ready}
use Rattle.m2_core.specs.OnFeed.{granted_feed}
use Rattle.m2_core.specs.Agrees.{FeedsAgree, Stays}
use Rattle.m2_core.specs.CoreNow.{CoreNow, Holds, IsSound}
use Rattle.m2_core.specs.Granting.{AsksMissing, HasAsked, Throttled, after_asked}
use Rattle.m2_bytes.proofs.m2_lemmas.Options.{none_isnt_some}

-- a size that is owed is the one that is asked for, and isn't granted
owed_size : (rest : List ℕ) (granted : Bool) (n : ℕ) → Owes (framing rest granted) n → (granted ≡ false) × (size_of rest ≡ Some n)
owed_size rest true n o = absurd (none_isnt_some n o)
owed_size rest false n o = (refl, o)

-- ---- the feed stands where it did

stands_at : (f : SideFacts) (s : State) (v : FeedNow) (d : Feed) (r : Reading) (n : ℕ) → Owes r n → phase.is s.session.phase Ready ≡ true → ReadsAs r f s v d →
    ReadsAs (with_grant r) f s (record v { reading = with_grant r }) d
stands_at f s v d (shaking h) n o q k = absurd o
stands_at f s v d (framing rest granted) n o q k = record {
  hand = k.hand;
  before = k.before;
  passed = k.passed;
  left = k.left;
  got = k.got;
  taken = k.taken;
  splits = k.splits;
  passes = k.passes;
  ungranted = λ e. absurd (true≢false (sym q ∙ e));
  answered = k.answered;
  stamps = k.stamps;
  writes = writes-same v.writing f s s v (record v { reading = framing rest true }) d d refl refl refl refl (same s) k.writes;
}

granted_beside : (f : SideFacts) (s : State) (n : ℕ) (x : Option FeedNow) (d : Option Feed) → OnFeedNow x (λ v. Owes v.reading n) → phase.is s.session.phase Ready ≡ true →
    FeedsAgree f s x d → FeedsAgree f s (granted_feed x) d
granted_beside f s n (Some v) (Some d) o q st = record { socket = st.socket; opened = st.opened; reads = stands_at f s v d v.reading n o q st.reads }
granted_beside f s n (Some v) None o q st = absurd st
granted_beside f s n None d o q st = absurd o

stays : (c : CoreNow) (n : ℕ) (answer : More) (g : PeerGrants) → is_ready c.live ≡ true → OnFeedNow c.live.feed (λ v. Owes v.reading n) →
    Stays c (record c { live = after_asked answer g c.live })
stays c n more.Whole g ready o s a = record {
  session = a.session;
  queue = a.queue;
  last = a.last;
  life = a.life;
  owes = a.owes;
  dials = a.dials;
  top = a.top;
  feed = granted_beside c.facts s n c.live.feed s.feed o (ap (λ (t : Session). phase.is t.phase Ready) (sym a.session) ∙ ready) a.feed;
  resumed = a.resumed;
}
stays c n (more.Full stage out) g ready o s a = record {
  session = a.session;
  queue = a.queue;
  last = a.last;
  life = a.life;
  owes = a.owes;
  dials = a.dials;
  top = a.top;
  feed = a.feed;
  resumed = a.resumed;
}
stays c n (more.Again stage seen now) g ready o s a = record {
  session = a.session;
  queue = a.queue;
  last = a.last;
  life = a.life;
  owes = a.owes;
  dials = a.dials;
  top = a.top;
  feed = a.feed;
  resumed = a.resumed;
}

pub has_asked : (c : CoreNow) (n : ℕ) (answer : More) (t : Throttled) (l : LiveNow) → is_ready c.live ≡ true → OnFeedNow c.live.feed (λ v. Owes v.reading n) → AsksMissing answer t n c.live l →
    HasAsked answer t n c (record c { live = l })
has_asked c n answer t l ready o k = record {
  asks = k.asks;
  only = ap (λ (x : LiveNow). record c { live = x }) k.only;
  stays = subst (λ (x : LiveNow). Stays c (record c { live = x })) (sym k.only) (stays c n answer l.granted ready o);
}

-- ---- what was granted

-- a stage that is asked for n grants n
goes_amount : (c : Course) (t : Taking) (n : ℕ) (before after : Option SeenGrant) → Goes c t n before after → IsAmount n before → IsAmount n after
goes_amount passes t n (Some g) after k a = subst (IsAmount n) (sym k.0) a
goes_amount passes t n None after k a = subst (IsAmount n) (sym k.0) refl
goes_amount (is_full out) t n before after k a = subst (IsAmount n) (sym k.1) tt
goes_amount (had_changed seen now) t n before after k a = subst (IsAmount n) (sym k.1) tt
goes_amount unasked t n before after k a = subst (IsAmount n) (sym k.0) a

goes_granted : (t : Taking) (n : ℕ) (before after : Option SeenGrant) → Goes passes t n before after → is_some after ≡ true
goes_granted t n (Some g) after k = ap is_some k.0
goes_granted t n None after k = ap is_some k.0

-- what is done at a stage of such peers
abbrev at_stage : Throttled → PeerType → Stage → Taking
at_stage t peer stage = taking (by_stage peer (throttle_in t.throttles) stage) (by_stage peer (pass_in t.before) stage) (by_stage peer (pass_in t.behind) stage)

amounts : (answer : More) (n : ℕ) (t : Throttled) (before after : PeerGrants) → AsksPeer answer n t.throttles t.before t.behind before after → AreFor (Some n) before → AreFor (Some n) after
amounts answer n t before after k a stage =
    goes_amount (course answer stage) (at_stage t before.peer stage) (amount stage n) (grant_at before.grants stage) (grant_at after.grants stage) (k.asks stage) (a stage)

abbrev is_given : More → Bool
is_given more.Whole = true
is_given (more.Full stage out) = false
is_given (more.Again stage seen now) = false

all_of : (x y z : Bool) → x ≡ true → y ≡ true → z ≡ true → (x && y && z) ≡ true
all_of x y z a b c = rw (a, b, c) refl

not_first : (x y z : Bool) → x ≡ false → (x && y && z) ≡ false
not_first x y z a = rw a refl

not_second : (x y z : Bool) → x ≡ true → y ≡ false → (x && y && z) ≡ false
not_second x y z a b = rw (a, b) refl

not_third : (x y z : Bool) → x ≡ true → y ≡ true → z ≡ false → (x && y && z) ≡ false
not_third x y z a b c = rw (a, b, c) refl

-- each stage has granted exactly where the answer is Whole
whole_after : (answer : More) (n : ℕ) (t : Throttled) (before after : PeerGrants) → AsksPeer answer n t.throttles t.before t.behind before after → is_whole after ≡ is_given answer
whole_after answer n t before after k = at answer k
  where
    given : (stage : Stage) → Goes passes (at_stage t before.peer stage) (amount stage n) (grant_at before.grants stage) (grant_at after.grants stage) → is_some (grant_at after.grants stage) ≡ true
    given stage g = goes_granted (at_stage t before.peer stage) (amount stage n) (grant_at before.grants stage) (grant_at after.grants stage) g

    at : (a : More) → AsksPeer a n t.throttles t.before t.behind before after → is_whole after ≡ is_given a
    at more.Whole k = all_of _ _ _ (given Messages (k.asks Messages)) (given Bytes (k.asks Bytes)) (given Dispatch (k.asks Dispatch))
    at (more.Full Messages out) k = not_first _ _ _ (ap is_some (k.asks Messages).1)
    at (more.Full Bytes out) k = not_second _ _ _ (given Messages (k.asks Messages)) (ap is_some (k.asks Bytes).1)
    at (more.Full Dispatch out) k = not_third _ _ _ (given Messages (k.asks Messages)) (given Bytes (k.asks Bytes)) (ap is_some (k.asks Dispatch).1)
    at (more.Again Messages seen now) k = not_first _ _ _ (ap is_some (k.asks Messages).1)
    at (more.Again Bytes seen now) k = not_second _ _ _ (given Messages (k.asks Messages)) (ap is_some (k.asks Bytes).1)
    at (more.Again Dispatch seen now) k = not_third _ _ _ (given Messages (k.asks Messages)) (given Bytes (k.asks Bytes)) (ap is_some (k.asks Dispatch).1)

-- ---- what holds of each core

-- what a size that is owed needs, of what was held for it
sized : (rest : List ℕ) (granted : Bool) (n : ℕ) (before after : PeerGrants) → Owes (framing rest granted) n → (AreFor (Some n) before → AreFor (Some n) after) → AreFor (size_of rest) before →
    AreFor (size_of rest) after
sized rest granted n before after o amounts_stay a =
    let size = (owed_size rest granted n o).1 in
    subst (λ (x : Option ℕ). AreFor x after) (sym size) (amounts_stay (subst (λ (x : Option ℕ). AreFor x before) size a))

sound_on : (answer : More) (l : LiveNow) (x : Option FeedNow) (n : ℕ) (g : PeerGrants) → OnFeedNow x (λ v. Owes v.reading n) → is_ready l ≡ true →
    (AreFor (Some n) l.granted → AreFor (Some n) g) → is_whole g ≡ is_given answer → IsSound (record l { feed = x }) → IsSound (after_asked answer g (record l { feed = x }))
sound_on answer l (Some v) n g o ready stay whole h = by_reading v.reading o h
  where
    by_answer : (rest : List ℕ) (granted : Bool) (a : More) → Owes (framing rest granted) n → is_whole g ≡ is_given a →
        IsSound (record l { feed = Some (record v { reading = framing rest granted }) }) → IsSound (after_asked a g (record l { feed = Some (record v { reading = framing rest granted }) }))
    by_answer rest granted more.Whole w e k = record {
      fed = k.fed;
      asked = λ z. absurd (true≢false z);
      connect = k.connect;
      numbers = k.numbers;
      grant = sized rest granted n l.granted g w stay k.grant;
      told = e;
      ungranted = λ z. absurd (true≢false (sym ready ∙ z));
    }
    by_answer rest granted (more.Full stage out) w e k = record {
      fed = k.fed;
      asked = λ z. absurd (true≢false z);
      connect = k.connect;
      numbers = k.numbers;
      grant = sized rest granted n l.granted g w stay k.grant;
      told = e ∙ sym (owed_size rest granted n w).0;
      ungranted = λ z. absurd (true≢false (sym ready ∙ z));
    }
    by_answer rest granted (more.Again stage seen now) w e k = record {
      fed = k.fed;
      asked = λ z. absurd (true≢false z);
      connect = k.connect;
      numbers = k.numbers;
      grant = sized rest granted n l.granted g w stay k.grant;
      told = e ∙ sym (owed_size rest granted n w).0;
      ungranted = λ z. absurd (true≢false (sym ready ∙ z));
    }

    by_reading : (r : Reading) → Owes r n → IsSound (record l { feed = Some (record v { reading = r }) }) → IsSound (after_asked answer g (record l { feed = Some (record v { reading = r }) }))
    by_reading (framing rest granted) w k = by_answer rest granted answer w whole k
    by_reading (shaking s) w k = absurd w
sound_on answer l None n g o ready stay whole h = absurd o

pub keeps : (c : CoreNow) (n : ℕ) (answer : More) (t : Throttled) (l : LiveNow) → Holds c → is_ready c.live ≡ true → OnFeedNow c.live.feed (λ v. Owes v.reading n) → AsksMissing answer t n c.live l →
    Holds (record c { live = l })
keeps c n answer t l h ready o k = subst (λ (x : LiveNow). Holds (record c { live = x })) (sym k.only) (record {
  place = h.place;
  sound = sound_on answer c.live c.live.feed n l.granted o ready (amounts answer n t c.live.granted l.granted k.asks) (whole_after answer n t c.live.granted l.granted k.asks) h.sound;
})
