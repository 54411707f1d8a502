-- The message at the front is accepted: the core and the replay go on alike.
use Rattle.std.proofs.Common.{◌≡◌, ℕ, ◌+◌, true, false, [], ◌∷◌, ◌++◌, length, Option, Some, None, Ok, refl, sym, ap, subst, ◌∙◌, arith}
use Rattle.std.proofs.lemmas.Bool.{lt-leb}
use Rattle.m2_feed.specs.Calls.{IsFront}
use Rattle.m2_feed.specs.FeedNow.{FeedNow, Reading, framing, shaking}
use Rattle.m2_feed.specs.FeedLaws.{ChangesBeside, TakesBeside}
use Rattle.m2_frame.specs.Frame.{Parts, message_tag}
use Rattle.m2_frame.specs.Reading.{Item, whole}
use Rattle.m2_feed.specs.declared.frame_heard.FrameHeard.{FrameHeard}
use Rattle.m2_feed.specs.declared.frame_heard.FrameHeard.TheVariants.{Brings}
use Rattle.m2_feed.specs.declared.hearer.Hearer.{Hearer}
use Rattle.m2_feed.specs.FrameLaws.{AsksForItsSize, BringsMessages, IsAsReplayed, IsHeardAsReplayed, IsNextMessage}
use Rattle.m2_journal.specs.Feeds.{is_passed, next_place, next_said}
use Rattle.m2_journal.specs.Lawful.{IsNext, MayAccept, OnFeedAt, key_of}
use Rattle.m2_journal.specs.Said.{Said, brings, said}
use Rattle.m2_journal.specs.SideFacts.{SideFacts}
use Rattle.m2_journal.specs.State.{Feed, State, letter}
use Rattle.m2_journal.specs.Steps.{accepts, on_feed_at}
use Rattle.m2_message.specs.declared.message.Message.{Message}
use Rattle.m2_message.specs.Message.{Content, content_of}
use Rattle.m2_policy.specs.declared.path.Key.{Key}
use Rattle.m2_session.specs.declared.session.Phase.TheVariants.{Ready}
use Rattle.m2_session.specs.Phases as phase
use Rattle.m2_shared.specs.declared.peer_grants.PeerGrants.{PeerGrants}
use Rattle.m2_core.specs.LiveNow.{AreFor, LiveNow, OnFeedNow, asked_in, asked_on, is_granted_in, is_granted_on}
use Rattle.m2_shared.specs.Gates.{is_whole}
use Rattle.m2_core.specs.OnFeed.{Hears, PassesItem}
use Rattle.m2_core.specs.LiveCalls.{passed_live}
use Rattle.m2_core.specs.LiveAccepting.{LiveAccepts, MovesMessage, accepted_live}
use Rattle.m2_core.specs.declared.accepting.CoreAccepted.{CoreAccepted}
use Rattle.m2_core.specs.Accepting.{Accepts, HasAccepted}
use Rattle.m2_core.specs.Agrees.{Agrees, FeedsAgree}
use Rattle.m2_core.specs.CoreNow.{CoreNow, Holds, IsSound}
use Rattle.m2_core.specs.Front.{HearsOn, hearer_at, hearer_of}
use Rattle.m2_core.proofs.Agreeing.{IsResumed}
use Rattle.m2_core.proofs.Fronts.{as_replayed}
use Rattle.m2_core.proofs.Passed.{sound_on}
use Rattle.m2_bytes.proofs.m2_lemmas.Options.{some_isnt_none}
use Rattle.m2_feed.proofs.Heeding.{is_ready}

-- ---- what was granted

abbrev bytes_of : Parts → ℕ
bytes_of f = length f.second + length f.third + length f.fourth

granted_there : AsksForItsSize → (r : Reading) (f : Parts) (len : ℕ) → f.tag ≡ message_tag → IsFront r (whole f) len → (is_granted_in r ≡ true) × (asked_in r ≡ Some (bytes_of f))
granted_there law (framing rest true) f len tag i = (refl, law.message rest f len i.1 tag)
granted_there law (framing rest false) f len tag i = absurd (some_isnt_none (bytes_of f) (sym (law.message rest f len i.1 tag) ∙ i.0))
granted_there law (shaking s) f len tag i = absurd i

granted_front : AsksForItsSize → (f : Parts) (x y : Option FeedNow) → f.tag ≡ message_tag → PassesItem (whole f) x y → (is_granted_on x ≡ true) × (asked_on x ≡ Some (bytes_of f))
granted_front law f (Some v) (Some new) tag p = granted_there law v.reading f p.0.len tag p.0.front
granted_front law f (Some v) None tag p = absurd p
granted_front law f None y tag p = absurd p

held_for : BringsMessages → AsksForItsSize → (c : CoreNow) (n : ℕ) (m : Content) (y : Option FeedNow) → Holds c → MovesMessage (hearer_of c) n m c.live.feed y →
    (is_whole c.live.granted ≡ true) × AreFor (Some (length m.front + length m.middle + length m.tail)) c.live.granted
held_for law sizes c n m y h v =
    let is = law (hearer_of c) v.frame n v.says in
    let g = granted_front sizes v.frame c.live.feed y is.tag v.passes in
    let size : asked_on c.live.feed ≡ Some (length m.front + length m.middle + length m.tail) =
    g.1 ∙ ap (λ (c : Content). Some (length c.front + length c.middle + length c.tail)) (sym v.message) in
    (h.sound.told ∙ g.0, subst (λ (o : Option ℕ). AreFor o c.live.granted) size h.sound.grant)

pub is_heard : (c : CoreNow) (n : ℕ) → HearsOn c (Brings n) → (h : Hearer) × OnFeedNow c.live.feed (λ v. Hears h (Brings n) v.reading)
is_heard c n a = (hearer_of c, a)

-- ---- beside the replay

-- the next message, where the journal leads
record NextAt (s : State) (n : ℕ) (m : Content) (i : Item) : Type 0 where
  ready : phase.is s.session.phase Ready ≡ true
  says : said i ≡ brings m
  seq : m.header.seq ≡ n
  next : n ≡ s.last + 1

same_message : (m k : Content) → brings m ≡ brings k → m ≡ k
same_message m k e = cc

next_at : IsHeardAsReplayed → BringsMessages → (c : CoreNow) (s : State) (n : ℕ) (m : Content) (y : Option FeedNow) → Agrees c s → (v : MovesMessage (hearer_of c) n m c.live.feed y) →
    NextAt s n m (whole v.frame)
next_at law brings_law c s n m y a v =
    let k : IsNextMessage (hearer_at c.facts s) n (said (whole v.frame)) = as_replayed law c s a (whole v.frame) (Brings n) v.says in
    let is = brings_law (hearer_of c) v.frame n v.says in
    let says : said (whole v.frame) ≡ brings m = is.says ∙ ap (λ (x : Content). brings x) (sym v.message) in
    let same : k.message ≡ m = same_message k.message m (sym k.said ∙ says) in
    record { ready = k.ready; says = says; seq = ap (λ (x : Content). x.header.seq) (sym same) ∙ k.number; next = k.next }

stops : (s : State) (n : ℕ) (m : Content) (i : Item) → NextAt s n m i → is_passed s.last (said i) ≡ false
stops s n m i k = ap (λ (x : Said). is_passed s.last x) k.says ∙ lt-leb m.header.seq s.last (let a = k.seq in let b = k.next in omega (arith, a, b))

may_on : TakesBeside → (f : SideFacts) (s : State) (n : ℕ) (key : Key) (m : Content) (i : Item) (x y : Option FeedNow) (d : Option Feed) → NextAt s n m i → key ≡ key_of f m →
    PassesItem i x y → FeedsAgree f s x d → OnFeedAt d (MayAccept f s n key)
may_on law f s n key m i (Some v) (Some new) (Some d) k e p st =
    let next : next_said s.last d ≡ Some (brings m) = law.text_next f s i p.0.len v d st k.ready (stops s n m i k) p.0.front ∙ ap (λ (x : Said). Some x) k.says in
    record {
      phase = is_ready s.session.phase k.ready;
      next = subst (λ (o : Option Said). IsNext f s n key o) (sym next) (k.next, k.seq, e);
    }
may_on law f s n key m i (Some v) (Some new) None k e p st = absurd st
may_on law f s n key m i (Some v) None d k e p st = absurd p
may_on law f s n key m i None y d k e p st = absurd p

abbrev accepted : (n : ℕ) → Option FeedNow → CoreNow → CoreNow
accepted n y c = record c { live = accepted_live n y c.live; owes = true }

led_on : TakesBeside → ChangesBeside → (c : CoreNow) (s : State) (n : ℕ) (key : Key) (m : Content) (i : Item) (x y : Option FeedNow) (d : Option Feed) → NextAt s n m i →
    Agrees c s → PassesItem i x y → FeedsAgree c.facts s x d → IsResumed c.live.resumed d → Agrees (accepted n y c) (on_feed_at d (λ e. accepts n key (next_said s.last e) e) s)
led_on takes changes c s n key m i (Some v) (Some new) (Some d) k a p st r =
    let next : next_said s.last d ≡ Some (brings m) = takes.text_next c.facts s i p.0.len v d st k.ready (stops s n m i k) p.0.front ∙ ap (λ (x : Said). Some x) k.says in
    let taken = takes.text c.facts s i v new d st k.ready (stops s n m i k) p.0 p.1 in
    subst (λ (o : Option Said). Agrees (accepted n (Some new) c) (accepts n key o d s)) (sym next) (record {
      session = a.session;
      queue = a.queue;
      last = refl;
      life = a.life;
      owes = refl;
      dials = a.dials;
      top = a.top;
      feed = changes.ready c.facts s (accepts n key (Some (brings m)) d s) new (record d { taken = next_place s.last d + 1 }) taken k.ready (let b = k.next in omega (arith, b)) (λ _. refl);
      resumed = r;
    })
led_on takes changes c s n key m i (Some v) (Some new) None k a p st r = absurd st
led_on takes changes c s n key m i (Some v) None d k a p st r = absurd p
led_on takes changes c s n key m i None y d k a p st r = absurd p

-- and the message is handed out
handed_on : TakesBeside → (f : SideFacts) (s : State) (n : ℕ) (key : Key) (m : Content) (i : Item) (x y : Option FeedNow) (d : Option Feed) → NextAt s n m i →
    PassesItem i x y → FeedsAgree f s x d → (on_feed_at d (λ e. accepts n key (next_said s.last e) e) s).deliveries ≡ s.deliveries ++ letter n s.life key m ∷ []
handed_on law f s n key m i (Some v) (Some new) (Some d) k p st =
    let next : next_said s.last d ≡ Some (brings m) = law.text_next f s i p.0.len v d st k.ready (stops s n m i k) p.0.front ∙ ap (λ (x : Said). Some x) k.says in
    ap (λ (o : Option Said). (accepts n key o d s).deliveries) next
handed_on law f s n key m i (Some v) (Some new) None k p st = absurd st
handed_on law f s n key m i (Some v) None d k p st = absurd p
handed_on law f s n key m i None y d k p st = absurd p

accepts_it : IsHeardAsReplayed → BringsMessages → AsksForItsSize → TakesBeside → ChangesBeside → (c : CoreNow) (a : CoreAccepted) (y : Option FeedNow) → Holds c →
    MovesMessage (hearer_of c) a.number (content_of a.message) c.live.feed y → a.life ≡ c.live.life → a.key ≡ key_of c.facts (content_of a.message) → c.live.granted ≡ a.grants →
    Accepts a c (accepted a.number y c)
accepts_it law bringing sizes takes changes c a y h v life key g =
    let m = content_of a.message in
    let k = held_for bringing sizes c a.number m y h v in
    let next : IsNextMessage (hearer_of c) a.number (said (whole v.frame)) =
    subst (λ (x : FrameHeard). IsAsReplayed x (hearer_of c) (said (whole v.frame))) v.says (law (hearer_of c) (whole v.frame)) in
    record {
      moves = v;
      number = next.next;
      life = life;
      key = key;
      grants = g;
      whole = ap is_whole (sym g) ∙ k.0;
      size = subst (λ (x : PeerGrants). AreFor (Some (length m.front + length m.middle + length m.tail)) x) g k.1;
      only = refl;
      may = λ s b. may_on takes c.facts s a.number a.key m (whole v.frame) c.live.feed y s.feed (next_at law bringing c s a.number m y b v) key v.passes b.feed;
      hands_out = λ s b.
          handed_on takes c.facts s a.number a.key m (whole v.frame) c.live.feed y s.feed (next_at law bringing c s a.number m y b v) v.passes b.feed
          ∙ ap (λ (n : ℕ). s.deliveries ++ letter a.number n a.key m ∷ []) (sym (life ∙ b.life));
      leads = λ s b. led_on takes changes c s a.number a.key m (whole v.frame) c.live.feed y s.feed (next_at law bringing c s a.number m y b v) b v.passes b.feed b.resumed;
    }

-- the same, as the code comes to it
pub accepts_to : IsHeardAsReplayed → BringsMessages → AsksForItsSize → TakesBeside → ChangesBeside → (c : CoreNow) (n life : ℕ) (key : Key) (m : Message) (g : PeerGrants) (l : LiveNow) → Holds c →
    HearsOn c (Brings n) → LiveAccepts (Ok (m, g)) n c.live l → life ≡ c.live.life → ((f : SideFacts) → f.node ≡ c.facts.node → (k : Content) → k.header ≡ m.header → key ≡ key_of f k) →
    HasAccepted (Ok (record { number = n; life = life; key = key; message = m; grants = g })) n c (record c { live = l; owes = true })
accepts_to law bringing sizes takes changes c n life key m g l h a k same e = (
  refl,
  subst (λ (x : LiveNow). Accepts (record { number = n; life = life; key = key; message = m; grants = g }) c (record c { live = x; owes = true })) (sym k.2)
      (accepts_it law bringing sizes takes changes c (record { number = n; life = life; key = key; message = m; grants = g }) l.feed h (k.0 (hearer_of c) a) same (e c.facts refl (content_of m) refl) k.1),
)

-- ---- what holds of each core

sound_last : (l : LiveNow) (n : ℕ) → IsSound l → IsSound (record l { last = n })
sound_last l n h = record { fed = h.fed; asked = h.asked; connect = h.connect; numbers = h.numbers; grant = h.grant; told = h.told; ungranted = h.ungranted }

keeps : (c : CoreNow) (n : ℕ) (m : Content) (y : Option FeedNow) → Holds c → MovesMessage (hearer_of c) n m c.live.feed y → Holds (accepted n y c)
keeps c n m y h v = record { place = h.place; sound = sound_last (passed_live y c.live) n (sound_on c.live (whole v.frame) c.live.feed y v.passes h.sound) }

pub keeps_to : (c : CoreNow) (n : ℕ) (m : Message) (g : PeerGrants) (l : LiveNow) → Holds c → HearsOn c (Brings n) → LiveAccepts (Ok (m, g)) n c.live l → Holds (record c { live = l; owes = true })
keeps_to c n m g l h a k = subst (λ (x : LiveNow). Holds (record c { live = x; owes = true })) (sym k.2) (keeps c n (content_of m) l.feed h (k.0 (hearer_of c) a))
