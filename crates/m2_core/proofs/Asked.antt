-- An ask is composed: the core and the replay go on alike.
use Rattle.std.proofs.Common.{◌≡◌, ℕ, ◌<◌, ◌≤◌, Bool, true, false, ◌&&◌, List, [], ◌∷◌, ◌++◌, length, Option, Some, None, refl, sym, ap, subst, ◌∙◌, arith, zero, suc}
use Rattle.std.specs.Prelude.{◌==◌}
use Rattle.m2_control.specs.declared.control.Control.{Control}
use Rattle.m2_journal.specs.SideFacts.{SideFacts}
use Rattle.std.specs.List.{AllByRecursion}
use Rattle.std.proofs.lemmas.List.{append-nil}
use Rattle.m2_control.specs.declared.fields.TheConstants.{GREATEST_NUMBER}
use Rattle.m2_feed.specs.Calls as feed
use Rattle.m2_feed.specs.Calls.{Rests}
use Rattle.m2_feed.specs.FeedNow.{FeedNow, Reading, framing, shaking, is_framing}
use Rattle.m2_feed.specs.FeedLaws.{ChangesBeside, ComposesBeside, StaysBeside}
use Rattle.m2_feed.specs.Stands.{ReadsAs, is_ready, passes_over}
use Rattle.m2_frame.specs.Reading.{Front, Item, judge, start}
use Rattle.m2_handshake.specs.Texts.{frame_text}
use Rattle.m2_journal.specs.Items as item
use Rattle.m2_journal.specs.Lawful.{MayAsk, OnFeedAt}
use Rattle.m2_journal.specs.OutFrames as out
use Rattle.m2_journal.specs.Feeds.{is_passed}
use Rattle.m2_journal.specs.Said.{said, split, split_by}
use Rattle.m2_journal.specs.SideFacts.{cookie_of}
use Rattle.m2_journal.specs.State.{Feed, State}
use Rattle.m2_journal.specs.Steps.{after}
use Rattle.m2_session.specs.declared.session.Phase.TheVariants.{Connecting}
use Rattle.m2_session.specs.declared.session.Session.{Session}
use Rattle.m2_feed.specs.declared.writing.Writing.TheVariants as writing
use Rattle.m2_session.specs.declared.event.Event.{Event}
use Rattle.m2_session.specs.Steps.{step_of}
use Rattle.m2_shared.specs.declared.peer_grants.PeerGrants.{PeerGrants}
use Rattle.m2_core.specs.LiveNow.{LiveNow, OnFeedNow}
use Rattle.m2_core.specs.OnFeed.{CanAsk, ChangesRoom, ComposesAsk}
use Rattle.m2_core.specs.LiveAsking.{AsksNow, IsAsk, ask_len, asked_event, filled}
use Rattle.m2_core.proofs.Agreeing.{IsResumed, agreed, core_of}
use Rattle.m2_core.proofs.Numbered.{has_text, room_on}
use Rattle.m2_core.specs.declared.asking.CoreAsk.TheVariants as ask
use Rattle.m2_core.specs.Agrees.{Agrees, FeedsAgree, LeadsOn, MayCome, Stays}
use Rattle.m2_core.specs.Asking.{AsksWith, HasAsked, MayAskNow, ask_of}
use Rattle.m2_core.specs.Calls.{ask_event, ask_frame, asks_ident}
use Rattle.m2_core.specs.CoreNow.{CoreNow}
use Rattle.m2_session.proofs.Phases.{connecting_isnt_ready}

pub is_ask : (f : SideFacts) (l : LiveNow) (b : Bool) → IsAsk (ask_len b) (ask_of f l b 0 0)
is_ask f l true = record { writable = λ k n. tt; size = λ k n. refl; short = omega arith }
is_ask f l false = record { writable = λ k n. tt; size = λ k n. refl; short = omega arith }

-- ---- an opener that rests in Connecting

starts_empty : (n : ℕ) (rest : List ℕ) → (split_by n rest start).items ≡ []
starts_empty zero rest = refl
starts_empty (suc n) rest = refl

nothing_split : (rest : List ℕ) → judge rest ≡ start → (split rest).items ≡ []
nothing_split rest e = subst (λ (z : Front). (split_by (length rest) rest z).items ≡ []) (sym e) (starts_empty (length rest) rest)

nothing_passed : (s : State) (items : List Item) → is_ready s ≡ false → AllByRecursion (λ i. passes_over s i ≡ true) items → items ≡ []
nothing_passed s [] e h = refl
nothing_passed s (i ∷ is) e h = absurd (apart (subst (λ (b : Bool). (b && is_passed s.last (said i)) ≡ true) e h.0))
  where
    apart : false ≡ true → ⊥
    apart z = absurd cc

quiet : (f : SideFacts) (s : State) (v : FeedNow) (d : Feed) (r : Reading) → ReadsAs r f s v d → is_framing r ≡ true → Rests r → is_ready s ≡ false →
    (d.hand ≡ None) × (length d.got ≡ d.taken)
quiet f s v d (framing rest g) x e rests nr =
    let left : x.left ≡ [] = sym (ap (λ z. z.items) x.splits) ∙ nothing_split rest rests.1 in
    let passed : x.passed ≡ [] = nothing_passed s x.passed nr x.passes in
    (x.hand, rw (x.got, passed, left, x.taken) (ap length (append-nil (x.before ++ []) ∙ append-nil x.before)))
quiet f s v d (shaking h) x e rests nr = absurd cc

-- ---- the entry

may_on : ComposesBeside → (f : SideFacts) (s : State) (b : Bool) (number : ℕ) (v : FeedNow) (y : Option Feed) → CanAsk v → s.session.phase ≡ Connecting →
    b ≡ (s.session.server_cookie == 0) → s.session.connect ≤ GREATEST_NUMBER → s.top < number → number ≤ GREATEST_NUMBER → FeedsAgree f s (Some v) y →
    OnFeedAt y (MayAsk s b number)
may_on composes f s b number v (Some d) can p kind fits from to st =
    let q = quiet f s v d v.reading st.reads can.write.signed can.rests (connecting_isnt_ready s.session.phase p) in
    record {
      phase = p;
      signed = q.0;
      heard_nothing = q.1;
      put = composes.all_put f s v d st can.write.signed can.write.put;
      of_kind = kind;
      fits = fits;
      unused = record { from = from; to = to };
    }
may_on composes f s b number v None can p kind fits from to st = absurd st

-- the core that has asked
abbrev asked_core : Bool → ℕ → FeedNow → CoreNow → CoreNow
asked_core b number new c = record c {
  live = record c.live { session = (step_of c.live.session (asked_event b (cookie_of c.facts number))).session; feed = Some new };
  top = number;
}

module _ (composes : ComposesBeside) (changes : ChangesBeside) (number : ℕ) (v new : FeedNow) (can : CanAsk v) where
  landed : (b : Bool) (f : SideFacts) (s : State) (n r : ℕ) (g : PeerGrants) (y : Option Feed) → s.session.phase ≡ Connecting →
      ComposesAsk (frame_text (filled (step_of s.session (asked_event b (cookie_of f number))).session.client_cookie number
      (ask_of f (core_of f (record s { feed = y }) n r (Some v) g).live b 0 0))) (Some v) (Some new) →
      FeedsAgree f (record s { feed = y }) (Some v) y → IsResumed r y →
      Agrees (asked_core b number new (core_of f (record s { feed = y }) n r (Some v) g)) (after f (item.asked b number) (record s { feed = y }))
  landed true f s n r g (Some d) p w st told =
      let t : State = record s { feed = Some d } in
      let u : State = record t { session = (step_of s.session (asked_event true (cookie_of f number))).session; top = number } in
      record {
        session = refl;
        queue = refl;
        last = refl;
        life = refl;
        owes = refl;
        dials = refl;
        top = refl;
        feed = composes.named f _ (out.ident u.session.client_cookie number) v new d
            (changes.idle f t _ v d d.floor d.owed st (connecting_isnt_ready s.session.phase p)) can.write.signed refl (has_text _) w;
        resumed = told;
      }
  landed false f s n r g (Some d) p w st told =
      let t : State = record s { feed = Some d } in
      record {
        session = refl;
        queue = refl;
        last = refl;
        life = refl;
        owes = refl;
        dials = refl;
        top = refl;
        feed = composes.named f _ (out.reconnect s.session.client_cookie s.session.server_cookie number s.session.connect s.last) v new d
            (changes.idle f t _ v d d.floor d.owed st (connecting_isnt_ready s.session.phase p)) can.write.signed refl (has_text _) w;
        resumed = told;
      }
  landed true f s n r g None p w st told = absurd st
  landed false f s n r g None p w st told = absurd st

asked_on : ComposesBeside → ChangesBeside → (c : CoreNow) (b : Bool) (number : ℕ) (x z : Option FeedNow) → c.live.session.phase ≡ Connecting → OnFeedNow x CanAsk →
    ComposesAsk (frame_text (filled (step_of c.live.session (asked_event b (cookie_of c.facts number))).session.client_cookie number
    (ask_of c.facts (record c.live { feed = x }) b 0 0))) x z →
    LeadsOn (item.asked b number) (record c { live = record c.live { feed = x } })
    (record c { live = record c.live { session = (step_of c.live.session (asked_event b (cookie_of c.facts number))).session; feed = z }; top = number })
asked_on composes changes c b number (Some v) (Some new) p can w s a =
    let c1 : CoreNow = record c { live = record c.live { feed = Some v } } in
    subst (λ (u : CoreNow). Agrees (asked_core b number new u) (after c.facts (item.asked b number) s)) (agreed c1 s a)
    (landed composes changes number v new can b c.facts s c.live.out.spare c.live.resumed c.live.granted s.feed (sym (ap (λ x. x.phase) a.session) ∙ p)
    (subst (λ (u : CoreNow). ComposesAsk (frame_text (filled (step_of u.live.session (asked_event b (cookie_of u.facts number))).session.client_cookie number
    (ask_of u.facts u.live b 0 0))) (Some v) (Some new)) (sym (agreed c1 s a)) w)
    a.feed a.resumed)
asked_on composes changes c b number None z p can w s a = absurd can
asked_on composes changes c b number (Some v) None p can w s a = absurd w

ask_same : (f : SideFacts) (l : LiveNow) (b : Bool) (x : Option FeedNow) → ask_of f l b 0 0 ≡ ask_of f (record l { feed = x }) b 0 0
ask_same f l true x = refl
ask_same f l false x = refl

pub stays_so : StaysBeside → (c : CoreNow) (mid : LiveNow) → ChangesRoom c.live.feed mid.feed → mid ≡ record c.live { feed = mid.feed } → Stays c (record c { live = mid })
stays_so moves c mid w e s a = subst (λ (l : LiveNow). Agrees (record c { live = l }) s) (sym e) (record {
  session = a.session;
  queue = a.queue;
  last = a.last;
  life = a.life;
  owes = a.owes;
  dials = a.dials;
  top = a.top;
  feed = room_on moves c.facts s c.live.feed mid.feed s.feed w a.feed;
  resumed = a.resumed;
})

can_on : (x y : Option FeedNow) → ChangesRoom x y → OnFeedNow y CanAsk → OnFeedNow x CanAsk
can_on (Some v) (Some new) w h = record { write = record { signed = sym (ap (λ z. is_framing z.reading) w) ∙ h.write.signed; put = sym (ap (λ z. feed.is_empty z.composed) w) ∙ h.write.put }; rests = subst Rests (ap (λ z. z.reading) w) h.rests }
can_on None y w h = absurd w
can_on (Some v) None w h = absurd w

may_ask : ComposesBeside → (c : CoreNow) (b : Bool) (number : ℕ) (x : Option FeedNow) → c.live.session.phase ≡ Connecting → c.live.session.connect ≤ GREATEST_NUMBER → OnFeedNow x CanAsk →
    b ≡ asks_ident c.live → c.top < number → number ≤ GREATEST_NUMBER → MayCome (item.asked b number) (record c { live = record c.live { feed = x } })
may_ask composes c b number (Some v) p fits can kind from to s a = may_on composes c.facts s b number v s.feed can (sym (ap (λ x. x.phase) a.session) ∙ p)
    (kind ∙ ap (λ x. x.server_cookie == 0) a.session) (subst (λ (t : Session). t.connect ≤ GREATEST_NUMBER) a.session fits) (subst (λ (n : ℕ). n < number) a.top from) to a.feed
may_ask composes c b number None p fits can kind from to s a = absurd can

pub has_asked : ComposesBeside → ChangesBeside → StaysBeside → (c : CoreNow) (mid l : LiveNow) (b : Bool) (cookie number : ℕ) (a : Control) → MayAskNow c →
    ChangesRoom c.live.feed mid.feed → OnFeedNow mid.feed CanAsk → mid ≡ record c.live { feed = mid.feed } → b ≡ asks_ident c.live → cookie ≡ cookie_of c.facts number →
    a ≡ ask_of c.facts c.live b 0 0 → AsksNow b cookie number a mid l → c.top < number → number ≤ GREATEST_NUMBER →
    HasAsked (ask.Asked b number) c (record c { live = l; top = number })
has_asked composes changes moves c mid l b cookie number a may room can e kind k is w from to =
    let same : mid.session ≡ c.live.session = ap (λ (z : LiveNow). z.session) e in
    let session : l.session ≡ (step_of c.live.session (asked_event b (cookie_of c.facts number))).session =
    w.session ∙ ap (λ (z : Session). (step_of z (asked_event b cookie)).session) same ∙ ap (λ (z : ℕ). (step_of c.live.session (asked_event b z)).session) k in
    let text = subst (λ (z : Session). ComposesAsk (frame_text (filled z.client_cookie number (ask_of c.facts (record c.live { feed = mid.feed }) b 0 0))) mid.feed l.feed) session
    (subst (λ (z : Control). ComposesAsk (frame_text (filled l.session.client_cookie number z)) mid.feed l.feed) (is ∙ ask_same c.facts c.live b mid.feed) w.feed) in
    let whole : l ≡ record c.live { session = (step_of c.live.session (asked_event b (cookie_of c.facts number))).session; feed = l.feed } =
    w.only ∙ ap (λ (z : LiveNow). record z { session = l.session; feed = l.feed }) e ∙ ap (λ (z : Session). record c.live { session = z; feed = l.feed }) session in (
      kind,
      may_ask composes c b number c.live.feed may.phase may.fits may.feed kind from to,
      λ s h. subst (λ (z : LiveNow). Agrees (record c { live = z; top = number }) (after c.facts (item.asked b number) s)) (sym whole)
          (asked_on composes changes c b number mid.feed l.feed may.phase can text s
          (subst (λ (z : LiveNow). Agrees (record c { live = z }) s) e (stays_so moves c mid room e s h))),
    )

-- ---- what is left of the core

-- the event of an ask, and its text, by its kind
event_by : (f : SideFacts) (b : Bool) (number : ℕ) → asked_event b (cookie_of f number) ≡ ask_event f b number
event_by f true number = refl
event_by f false number = refl

text_by : (f : SideFacts) (l m : LiveNow) (b : Bool) (number cookie : ℕ) → m.session ≡ (step_of l.session (asked_event b cookie)).session → m.last ≡ l.last →
    frame_text (filled m.session.client_cookie number (ask_of f l b 0 0)) ≡ out.text_of f (ask_frame b number m)
text_by f l m true number cookie e last = refl
text_by f l m false number cookie e last = rw (e, last) refl

composed_as : (t u : List ℕ) (x z : Option FeedNow) → t ≡ u → ComposesAsk t x z → ComposesAsk u x z
composed_as t u x z e h = subst (λ (y : List ℕ). ComposesAsk y x z) e h

from_room : (t : List ℕ) (x y z : Option FeedNow) → ChangesRoom x y → ComposesAsk t y z → ComposesAsk t x z
from_room t (Some v) (Some w) (Some new) e h = h ∙ ap (λ (q : FeedNow). record q { composed = t; writing = writing.Named false; room = new.room }) e
from_room t (Some v) (Some w) None e h = h
from_room t (Some v) None z e h = absurd e
from_room t None y z e h = absurd e

pub asks_with : (c : CoreNow) (mid l : LiveNow) (b : Bool) (cookie number : ℕ) (a : Control) →
    ChangesRoom c.live.feed mid.feed → mid ≡ record c.live { feed = mid.feed } → b ≡ asks_ident c.live → cookie ≡ cookie_of c.facts number →
    a ≡ ask_of c.facts c.live b 0 0 → AsksNow b cookie number a mid l → AsksWith number c (record c { live = l; top = number })
asks_with c mid l b cookie number a room e kind k is w =
    let same : mid.session ≡ c.live.session = ap (λ (z : LiveNow). z.session) e in
    let session : l.session ≡ (step_of c.live.session (asked_event b (cookie_of c.facts number))).session =
    w.session ∙ ap (λ (z : Session). (step_of z (asked_event b cookie)).session) same ∙ ap (λ (z : ℕ). (step_of c.live.session (asked_event b z)).session) k in
    let last : l.last ≡ c.live.last = ap (λ (z : LiveNow). z.last) w.only ∙ ap (λ (z : LiveNow). z.last) e in
    record {
      event = session ∙ ap (λ (v : Event). (step_of c.live.session v).session) (event_by c.facts b number ∙ ap (λ (z : Bool). ask_event c.facts z number) kind);
      text = composed_as _ _ c.live.feed l.feed (text_by c.facts c.live l b number (cookie_of c.facts number) session last ∙ ap (λ (z : Bool). out.text_of c.facts (ask_frame z number l)) kind)
          (from_room _ c.live.feed mid.feed l.feed room (composed_as _ _ mid.feed l.feed (ap (λ (z : Control). frame_text (filled l.session.client_cookie number z)) is) w.feed));
      only = ap (λ (z : LiveNow). record c { live = z; top = number }) (w.only ∙ ap (λ (z : LiveNow). record z { session = l.session; feed = l.feed }) e);
    }

-- said of the same core
pub asks_as : (number : ℕ) (c old new : CoreNow) → c ≡ old → AsksWith number c new → AsksWith number old new
asks_as number c old new e h = subst (λ (v : CoreNow). AsksWith number v new) e h

pub ask_as : (a : Control) (c old : CoreNow) (b : Bool) → c ≡ old → a ≡ ask_of old.facts old.live b 0 0 → a ≡ ask_of c.facts c.live b 0 0
ask_as a c old b e h = subst (λ (v : CoreNow). a ≡ ask_of v.facts v.live b 0 0) (sym e) h
