-- What is held for a feed, behind each call of a core.
use Rattle.std.proofs.Common.{◌≡◌, ◌++◌, ℕ, if◌then◌else◌, List, take, Bool, true, false, Option, None, Some, refl, sym, subst, ◌∙◌, ap, inl, inr}
use Rattle.std.specs.Option.{is_some}
use Rattle.m2_dispatch.specs.m2_shared.Gates.{nothing_held}
use Rattle.m2_dispatch.specs.m2_shared.declared.peer_grants.PeerGrants.{PeerGrants}
use Rattle.m2_dispatch.specs.m2_shared.declared.peer_type.PeerType.{PeerType}
use Rattle.m2_fabric.specs.declared.end.EndRead.{EndRead}
use Rattle.m2_fabric.specs.declared.end.EndRead.TheVariants as read
use Rattle.m2_script.proofs.m2_center.m2_turn.m2_core.HeardBytes.{size_stays}
use Rattle.m2_script.specs.m2_center.m2_core.CoreNow.{CoreNow}
use Rattle.m2_script.specs.m2_center.m2_core.Effects.{closes, discards, has_effects, requeues, sets_back, tells, where_true}
use Rattle.m2_script.specs.m2_center.m2_core.Front as front
use Rattle.m2_script.specs.m2_center.m2_core.Front.{FrontHeard, before_front, front_in, front_of, heard_by, hearer_of, resumption_at}
use Rattle.m2_script.specs.m2_center.m2_core.Hearing as hearing
use Rattle.m2_script.specs.m2_center.m2_core.LiveCalls.{tells_if}
use Rattle.m2_script.specs.m2_center.m2_core.LiveNow.{HoldsNothing, LiveNow, asked_in, asked_on, is_ready}
use Rattle.m2_script.specs.m2_center.m2_core.OnFeed.{GreetsFeed, ReadsFeed, WritesFeed}
use Rattle.m2_script.specs.m2_center.m2_feed.Calls.{heard_of, with_grant}
use Rattle.m2_script.specs.m2_center.m2_feed.FeedNow.{FeedNow, Reading, framing, shaking}
use Rattle.m2_script.specs.m2_center.m2_feed.declared.answers.FeedWrite.{FeedWrite}
use Rattle.m2_script.specs.m2_center.m2_feed.declared.answers.FeedWrite.TheVariants as put
use Rattle.m2_script.specs.m2_center.m2_feed.declared.hearer.Hearer.{Hearer}
use Rattle.m2_script.specs.m2_center.m2_feed.declared.heard.Heard.{Heard}
use Rattle.m2_script.specs.m2_center.m2_feed.m2_journal.Laws.{SessionIsSound}
use Rattle.m2_script.specs.m2_center.m2_feed.m2_journal.SideFacts.{SideFacts}
use Rattle.m2_script.specs.m2_center.m2_feed.m2_session.Phases as phases
use Rattle.m2_script.specs.m2_center.m2_feed.m2_session.Steps.{step_of}
use Rattle.m2_script.specs.m2_center.m2_feed.m2_session.declared.event.Effects.{Effects}
use Rattle.m2_script.specs.m2_center.m2_feed.m2_session.declared.event.Event.{Event}
use Rattle.m2_script.specs.m2_center.m2_feed.m2_session.declared.event.Event.TheVariants as event
use Rattle.m2_script.specs.m2_center.m2_feed.m2_session.declared.session.Phase.TheVariants as phase
use Rattle.m2_script.specs.m2_center.m2_feed.m2_session.declared.session.Session.{Session}
use Rattle.m2_script.specs.m2_center.m2_turn.m2_handshake.declared.answer.HalfStep.{HalfStep}
use Rattle.m2_script.specs.m2_center.m2_turn.m2_handshake.declared.answer.HalfStep.TheVariants as half
use Rattle.m2_script.specs.m2_center.m2_turn.m2_handshake.m2_frame.Reading.{Front, bad, size_of, start, text}
use Rattle.m2_exact.specs.Holding.{IsHeldRightly}

-- ---- words

pub none_of : (g : PeerGrants) (peer : PeerType) → g ≡ nothing_held peer → HoldsNothing g
none_of g peer e = subst HoldsNothing (sym e) refl

pub none_right : (f : SideFacts) (l : LiveNow) → HoldsNothing l.granted → IsHeldRightly f l
none_right f l e = inl e

-- outside Ready nothing is held
pub idle : (f : SideFacts) (l : LiveNow) → IsHeldRightly f l → is_ready l ≡ false → HoldsNothing l.granted
idle f l (inl none) e = none
idle f l (inr m) e = absurd (cc (m.ready, e))

-- where the session is the same, a size is asked for as before, and the same is held
pub kept : (f : SideFacts) (l k : LiveNow) → k.granted ≡ l.granted → k.session ≡ l.session → (is_some (asked_on l.feed) ≡ true → is_some (asked_on k.feed) ≡ true) → IsHeldRightly f l →
    IsHeldRightly f k
kept f l k g s asked (inl none) = inl (subst HoldsNothing (sym g) none)
kept f l k g s asked (inr m) = inr (record {
  ready = ap (λ (s : Session). phases.is s.phase phase.Ready) s ∙ m.ready;
  asked = asked m.asked;
  session = subst (SessionIsSound f) (sym s) m.session;
})

-- ---- a step of the session

where_held : (b : Bool) (change : LiveNow → LiveNow) (l : LiveNow) → (change l).granted ≡ l.granted → (where_true b change l).granted ≡ l.granted
where_held true change l e = e
where_held false change l e = refl

-- a step leaves what is held, or it goes with the feed
told_granted : (e : Event) (l : LiveNow) → (tells e l).granted ≡ (where_true (step_of l.session e).effects.close closes l).granted
told_granted e l = by (step_of l.session e).effects (record l { session = (step_of l.session e).session }) ∙ end (step_of l.session e).effects.close
  where
    by : (f : Effects) (k : LiveNow) → (has_effects f k).granted ≡ (where_true f.close closes k).granted
    by f k =
        let closed = where_true f.close closes k in
        let requeued = where_true f.requeue requeues closed in
        let back = where_true f.set_back sets_back requeued in
        where_held f.discard discards back refl ∙ where_held f.set_back sets_back requeued refl ∙ where_held f.requeue requeues closed refl

    end : (b : Bool) → (where_true b closes (record l { session = (step_of l.session e).session })).granted ≡ (where_true b closes l).granted
    end true = refl
    end false = refl

pub closed : (e : Event) (l : LiveNow) → (step_of l.session e).effects.close ≡ true → (tells e l).granted ≡ nothing_held l.granted.peer
closed e l is = told_granted e l ∙ ap (λ (b : Bool). (where_true b closes l).granted) is

pub none_still : (e : Event) (l : LiveNow) → HoldsNothing l.granted → (tells e l).granted ≡ l.granted
none_still e l none = told_granted e l ∙ by (step_of l.session e).effects.close
  where
    by : (b : Bool) → (where_true b closes l).granted ≡ l.granted
    by true = sym none
    by false = refl

pub none_told : (e : Option Event) (l : LiveNow) → HoldsNothing l.granted → (tells_if e l).granted ≡ l.granted
none_told (Some e) l none = none_still e l none
none_told None l none = refl

pub down_drops : (l : LiveNow) → (tells event.MarkedDown l).granted ≡ nothing_held l.granted.peer
down_drops l = closed event.MarkedDown l refl

-- ---- what is asked for

pub written : (a : FeedWrite) (x y : Option FeedNow) → WritesFeed a x y → asked_on y ≡ asked_on x
written (put.Put n b) (Some v) (Some w) h = ap (λ (z : FeedNow). asked_in z.reading) h.2
written put.NotYet (Some v) (Some w) h = ap (λ (z : FeedNow). asked_in z.reading) h.1
written put.Failed (Some v) (Some w) h = ap (λ (z : FeedNow). asked_in z.reading) h.1
written put.NoMemory (Some v) (Some w) h = ap (λ (z : FeedNow). asked_in z.reading) h
written a (Some v) None h = absurd h
written a None y h = absurd h

-- more bytes leave a size that was told
heard_asked : (a : EndRead) (piece : List ℕ) (r : Reading) → is_some (asked_in r) ≡ true → is_some (asked_in (heard_of a piece r)) ≡ true
heard_asked (read.Got n) piece (shaking s) e = e
heard_asked (read.Got n) piece (framing rest granted) e = by (size_of rest) refl e
  where
    by : (o : Option ℕ) → size_of rest ≡ o → is_some o ≡ true → is_some (size_of (rest ++ take n piece)) ≡ true
    by (Some size) is e = ap is_some (size_stays rest (take n piece) size is ∙ is)
    by None is e = absurd (cc e)
heard_asked read.NotYet piece r e = e
heard_asked read.Ended piece r e = e
heard_asked read.Failed piece r e = e
heard_asked read.NoMemory piece r e = e

asked_so : (a : EndRead) (piece : List ℕ) (r now : Reading) → now ≡ heard_of a piece r → is_some (asked_in r) ≡ true → is_some (asked_in now) ≡ true
asked_so a piece r now is e = ap (λ (z : Reading). is_some (asked_in z)) is ∙ heard_asked a piece r e

pub reads : (a : EndRead) (x y : Option FeedNow) → ReadsFeed a x y → is_some (asked_on x) ≡ true → is_some (asked_on y) ≡ true
reads (read.Got n) (Some v) (Some w) h e = asked_so (read.Got n) h.hears.piece v.reading w.reading h.hears.heard e
reads read.NotYet (Some v) (Some w) h e = asked_so read.NotYet h.hears.piece v.reading w.reading h.hears.heard e
reads read.Ended (Some v) (Some w) h e = asked_so read.Ended h.hears.piece v.reading w.reading h.hears.heard e
reads read.Failed (Some v) (Some w) h e = asked_so read.Failed h.hears.piece v.reading w.reading h.hears.heard e
reads read.NoMemory (Some v) (Some w) h e = ap (λ (z : FeedNow). is_some (asked_in z.reading)) h ∙ e
reads a (Some v) None h e = absurd h
reads a None y h e = absurd h

pub greets : (a : HalfStep) (x y : Option FeedNow) → GreetsFeed a x y → is_some (asked_on x) ≡ true → is_some (asked_on y) ≡ true
greets a (Some v) y g e = absurd (none_asked a v y g e)
  where
    none_asked : (a : HalfStep) (v : FeedNow) (y : Option FeedNow) → GreetsFeed a (Some v) y → is_some (asked_in v.reading) ≡ true → ⊥
    none_asked half.Authed v (Some w) g e = let none = ap (λ (z : Reading). is_some (asked_in z)) g.stood in cc (none, e)
    none_asked half.NotYet v (Some w) g e = let none = ap (λ (z : Reading). is_some (asked_in z)) g.stood in cc (none, e)
    none_asked half.Wrote v (Some w) g e = let none = ap (λ (z : Reading). is_some (asked_in z)) g.stood in cc (none, e)
    none_asked half.NoMemory v (Some w) g e = let none = ap (λ (z : Reading). is_some (asked_in z)) g.stood in cc (none, e)
    none_asked (half.Fault f) v (Some w) g e = let none = ap (λ (z : Reading). is_some (asked_in z)) g.stood in cc (none, e)
    none_asked a v None g e = absurd g
greets a None y g e = absurd g

-- ---- a size that is asked for

-- in Ready, by what was read
pub record AsksSize (c : CoreNow) (r : Reading) : Type 0 where
  pub ready : is_ready c.live ≡ true
  pub asked : is_some (asked_in r) ≡ true
  pub telling : asked_in (with_grant r) ≡ asked_in r

pub asks_size : (c : CoreNow) (r : Reading) (n : ℕ) → heard_by c r ≡ front.asks n → AsksSize c r
asks_size c r n e = by (resumption_at c) e
  where
    size : (b : Bool) (m : ℕ) (x : FrontHeard) → (front.asks n ≡ x → ⊥) → (if b then front.asks m else x) ≡ front.asks n → b ≡ true
    size true m x never e = refl
    size false m x never e = absurd (never (sym e))

    rests_not : front.rests ≡ front.asks n → ⊥
    rests_not e = cc e

    none : (h : Hearer) (f : Front) → front_in h None f ≡ front.asks n → ⊥
    none h start e = cc e
    none h (bad f) e = cc e
    none h (text item len) e = cc e

    owed : (rest : List ℕ) (o : Option ℕ) (f : Front) → front_in (hearer_of c) o f ≡ front.asks n → (is_ready c.live ≡ true) × (is_some o ≡ true)
    owed rest (Some m) f e = (size (phases.is c.live.session.phase phase.Ready) m _ (λ z. cc z) e, refl)
    owed rest None f e = absurd (none (hearer_of c) f e)

    on : (r : Reading) → front_of (hearer_of c) r ≡ front.asks n → AsksSize c r
    on (shaking s) e = absurd (rests_not e)
    on (framing rest true) e = absurd (none (hearer_of c) _ e)
    on (framing rest false) e = let is = owed rest (size_of rest) _ e in record { ready = is.0; asked = is.1; telling = refl }

    by : (o : Option _) → before_front o (front_of (hearer_of c) r) ≡ front.asks n → AsksSize c r
    by (Some says) e = absurd (cc e)
    by None e = on r e

-- ---- what is heard outside Ready

pub heard_idle : (a : EndRead) (f : SideFacts) (l : LiveNow) (h : Heard) → hearing.heard_after a f l ≡ Some h → is_ready l ≡ false
heard_idle (read.Got n) f l h e = hearing_idle f l h e
  where
    chosen : {X : Type 0} (b : Bool) (o : Option X) (x : X) → (if b then None else o) ≡ Some x → b ≡ false
    chosen true o x e = absurd (cc e)
    chosen false o x e = refl

    hearing_idle : (f : SideFacts) (l : LiveNow) (h : Heard) → hearing.hearing f l ≡ Some h → is_ready l ≡ false
    hearing_idle f l h e = chosen (is_ready l) _ h e
heard_idle read.NotYet f l h e = absurd (cc e)
heard_idle read.Ended f l h e = absurd (cc e)
heard_idle read.Failed f l h e = absurd (cc e)
heard_idle read.NoMemory f l h e = absurd (cc e)
