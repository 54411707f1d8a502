-- What stands at a core's front, and what taking it keeps.
use Rattle.std.proofs.Common.{◌≡◌, ℕ, ◌+◌, ◌≤◌, Bool, true, false, length, Option, Some, None, refl, sym, ap, subst, ◌∙◌, arith}
use Rattle.std.specs.Prelude.{IfSome, IsTrue, if◌then◌else◌, option_map}
use Rattle.m2_addr.specs.declared.addr.Addr.{Addr}
use Rattle.m2_control.specs.declared.fields.TheConstants.{GREATEST_NUMBER}
use Rattle.m2_feed.specs.Calls.{HasFrame, IsFront, PassesFrame}
use Rattle.m2_feed.specs.FeedNow.{FeedNow, Reading, framing, shaking, is_framing}
use Rattle.m2_feed.specs.FeedLaws.{FindsFaults}
use Rattle.m2_frame.specs.Frame.{Parts}
use Rattle.m2_frame.specs.Reading.{Front, whole, dropped, start, bad, text, judge, owed_at}
use Rattle.m2_feed.specs.declared.answer_fault.AnswerFault.{AnswerFault}
use Rattle.m2_feed.specs.declared.heard.Heard.{Heard}
use Rattle.m2_feed.specs.declared.heard.Heard.TheVariants as heard
use Rattle.m2_feed.specs.Front.{frame_at, frame_of, heard_at}
use Rattle.m2_feed.specs.Heard.{IsBounded, event_of, heard_in}
use Rattle.m2_feed.specs.AnswerLaws.{FramesAreHeard, IsHeard}
use Rattle.m2_journal.specs.Lawful.{OnFeedAt, is_broken}
use Rattle.m2_journal.specs.Said.{said}
use Rattle.m2_journal.specs.SideFacts.{SideFacts}
use Rattle.m2_journal.specs.State.{Feed, State}
use Rattle.m2_policy.specs.declared.policy.Policy.{Policy}
use Rattle.m2_queues.specs.OutQueues.{Queue, last_number}
use Rattle.m2_session.specs.declared.event.Event.{Event}
use Rattle.m2_session.specs.declared.event.Event.TheVariants as event
use Rattle.m2_session.specs.declared.session.Phase.{Phase}
use Rattle.m2_session.specs.declared.session.Phase.TheVariants.{Ready}
use Rattle.m2_session.specs.declared.session.Session.{Session}
use Rattle.m2_session.specs.Phases as phase
use Rattle.m2_session.specs.Steps.{HasFollower, is_lawful, step_of}
use Rattle.m2_core.specs.LiveNow.{AreFor, HoldsNothing, LiveNow, OnFeedNow, asked_in, is_granted_in, is_ready}
use Rattle.m2_shared.specs.Gates.{is_whole}
use Rattle.m2_core.proofs.Holding.{none_for, none_whole}
use Rattle.m2_core.specs.Effects.{tells}
use Rattle.m2_core.specs.OnFeed.{PassesFeed}
use Rattle.m2_core.specs.LiveCalls.{live_with}
use Rattle.m2_core.specs.LiveHearing.{TakesAnswer, after_answer, heard_on}
use Rattle.m2_core.specs.Agrees.{FeedsAgree, IsBroken}
use Rattle.m2_core.specs.CoreNow.{CoreNow, Holds, IsSound}
use Rattle.m2_core.specs.Hearing.{Heeds, IsFaultHeard, effects_heard, hearing}

-- ---- what is heard is a frame at the front

none_isnt_some : (h : Heard) → None ≡ Some h → ⊥
none_isnt_some h e = cc

pub none_isnt_event : (e : Event) → None ≡ Some e → ⊥
none_isnt_event e q = cc

abbrev heard_or : Heard → Option Heard → Heard
heard_or h (Some x) = x
heard_or h None = h

pub is_front : (r : Reading) (x : Parts) → frame_of r ≡ Some x → (len : ℕ) × IsFront r (whole x) len
is_front (framing rest granted) x e = at (owed_at rest granted) refl (judge rest) refl e
  where
    same_frame : (y : Parts) (len : ℕ) → Some y ≡ Some x → text (whole y) len ≡ text (whole x) len
    same_frame y len q = ap (λ o. text (whole (elim o as (λ _. Parts) [ Some z ↦ z | None ↦ x ])) len) q

    none_frame : None ≡ Some x → ⊥
    none_frame q = cc

    at : (o : Option ℕ) → owed_at rest granted ≡ o → (front : Front) → judge rest ≡ front → frame_at o front ≡ Some x →
        (len : ℕ) × IsFront (framing rest granted) (whole x) len
    at None owed (text (whole y) len) j q = (len, (owed, j ∙ same_frame y len q))
    at None owed (text (dropped t) len) j q = absurd (none_frame q)
    at None owed start j q = absurd (none_frame q)
    at None owed (bad g) j q = absurd (none_frame q)
    at (Some n) owed front j q = absurd (none_frame q)
is_front (shaking s) x e = absurd (none_frame e)
  where
    none_frame : None ≡ Some x → ⊥
    none_frame q = cc

-- where something is heard: before Ready, a whole frame at the front, which says it
pub record Fronted (peer : Addr) (policy : Policy) (p : Phase) (v : FeedNow) (h : Heard) : Type 0 where
  pub before : phase.is p Ready ≡ false
  pub frame : Parts
  pub len : ℕ
  pub front : IsFront v.reading (whole frame) len
  pub says : h ≡ heard_in peer policy p frame

pub fronted_at : (peer : Addr) (policy : Policy) (p : Phase) (v : FeedNow) (h : Heard) → phase.is p Ready ≡ false → heard_at peer policy p v.reading ≡ Some h →
    Fronted peer policy p v h
fronted_at peer policy p v h q e = at (frame_of v.reading) refl e
  where
    at : (o : Option Parts) → frame_of v.reading ≡ o → option_map (heard_in peer policy p) o ≡ Some h → Fronted peer policy p v h
    at (Some x) is g =
        let f = is_front v.reading x is in
        record { before = q; frame = x; len = f.0; front = f.1; says = ap (heard_or h) (sym g) }
    at None is g = absurd (none_isnt_some h g)

abbrev pub IsFronted : SideFacts → Phase → Option FeedNow → Heard → Type 0
IsFronted f p (Some v) h = Fronted f.peer f.policy p v h
IsFronted f p None h = ⊥

pub fronted_by : (f : SideFacts) (p : Phase) (x : Option FeedNow) (h : Heard) (b : Bool) → phase.is p Ready ≡ b → (if b then None else heard_on f.peer f.policy p x) ≡ Some h →
    IsFronted f p x h
fronted_by f p (Some v) h false q e = fronted_at f.peer f.policy p v h q e
fronted_by f p None h false q e = none_isnt_some h e
fronted_by f p x h true q e = absurd (none_isnt_some h e)

pub fronted : (f : SideFacts) (l : LiveNow) (h : Heard) → hearing f l ≡ Some h → IsFronted f l.session.phase l.feed h
fronted f l h e = fronted_by f l.session.phase l.feed h (phase.is l.session.phase Ready) refl e

pub before_ready : (f : SideFacts) (l : LiveNow) (h : Heard) → hearing f l ≡ Some h → is_ready l ≡ false
before_ready f l h e = at (is_ready l) refl e
  where
    at : (b : Bool) → is_ready l ≡ b → (if b then None else heard_on f.peer f.policy l.session.phase l.feed) ≡ Some h → is_ready l ≡ false
    at false q g = q
    at true q g = absurd (none_isnt_some h g)

frame_on : (f : SideFacts) (p : Phase) (x : Option FeedNow) (h : Heard) → IsFronted f p x h → OnFeedNow x (λ v. HasFrame v.reading)
frame_on f p (Some v) h k = (k.frame, k.len, k.front)
frame_on f p None h k = k

pub has_front : (f : SideFacts) (l : LiveNow) (h : Heard) → hearing f l ≡ Some h → OnFeedNow l.feed (λ v. HasFrame v.reading)
has_front f l h e = frame_on f l.session.phase l.feed h (fronted f l h e)

law_on : FramesAreHeard → (f : SideFacts) (p : Phase) (x : Option FeedNow) (h : Heard) → IsFronted f p x h → (y : Parts) × IsHeard f p (said (whole y)) h
law_on law f p (Some v) h k = (k.frame, subst (λ z. IsHeard f p (said (whole k.frame)) z) (sym k.says) (law f p k.frame))
law_on law f p None h k = absurd k

pub may_tell : FramesAreHeard → (f : SideFacts) (l : LiveNow) (h : Heard) (e : Event) → hearing f l ≡ Some h → event_of h ≡ Some e → IsTrue (is_lawful l.session e)
may_tell law f l h e is q = (law_on law f l.session.phase l.feed h (fronted f l h is)).1.lawful l.session e q refl

abbrev event_or : Event → Option Event → Event
event_or e (Some v) = v
event_or e None = e

follows : (h : Heard) (e v : Event) → IsBounded h → event_of h ≡ Some v → v ≡ e → HasFollower v
follows (heard.ServerIdent cookie global) e v b q s = subst HasFollower (ap (event_or v) q) tt
follows (heard.ReconnectOk seen) e v b q s = subst HasFollower (ap (event_or v) q) tt
follows (heard.Retry number) e v b q s = subst HasFollower (ap (event_or v) q) (let n : number ≤ GREATEST_NUMBER = b in omega (arith, n))
follows (heard.RetryGlobal number) e v b q s = subst HasFollower (ap (event_or v) q) tt
follows heard.Wait e v b q s = subst HasFollower (ap (event_or v) q) tt
follows (heard.Reset full) e v b q s = absurd (none_isnt_event v q)
follows (heard.Refused g) e v b q s = absurd (none_isnt_event v q)

pub has_follower : (h : Heard) (e : Event) → IsBounded h → event_of h ≡ Some e → HasFollower e
has_follower h e b q = follows h e e b q refl

pub nothing_granted : (f : SideFacts) (l : LiveNow) (h : Heard) → hearing f l ≡ Some h → IsSound l → HoldsNothing l.granted
nothing_granted f l h e sound = sound.ungranted (before_ready f l h e)

-- no answer throws anything away
pub thrown_away : (l : LiveNow) (h : Heard) (e : Event) → event_of h ≡ Some e → (step_of l.session e).effects ≡ effects_heard (Some h) l.session → ((step_of l.session e).effects.discard ≡ false) × ((step_of l.session e).effects.remote_reset ≡ false)
thrown_away l (heard.ServerIdent cookie global) e q is = (ap (λ z. z.discard) is, ap (λ z. z.remote_reset) is)
thrown_away l (heard.ReconnectOk seen) e q is = (ap (λ z. z.discard) is, ap (λ z. z.remote_reset) is)
thrown_away l (heard.Retry number) e q is = (ap (λ z. z.discard) is, ap (λ z. z.remote_reset) is)
thrown_away l (heard.RetryGlobal number) e q is = (ap (λ z. z.discard) is, ap (λ z. z.remote_reset) is)
thrown_away l heard.Wait e q is = (ap (λ z. z.discard) is, ap (λ z. z.remote_reset) is)
thrown_away l (heard.Reset full) e q is = absurd (none_isnt_event e q)
thrown_away l (heard.Refused g) e q is = absurd (none_isnt_event e q)

-- ---- what is taken is what was heard

pub takes_it : (h : Heard) (e : Event) (old new : LiveNow) → event_of h ≡ Some e → TakesAnswer h old new → Heeds (Some h) old new
takes_it (heard.ServerIdent cookie global) e old new q t = t
takes_it (heard.ReconnectOk seen) e old new q t = t
takes_it (heard.Retry number) e old new q t = t
takes_it (heard.RetryGlobal number) e old new q t = t
takes_it heard.Wait e old new q t = t
takes_it (heard.Reset full) e old new q t = absurd (none_isnt_event e q)
takes_it (heard.Refused g) e old new q t = absurd (none_isnt_event e q)

pub leaves_it : (h : Heard) (old new : LiveNow) → event_of h ≡ None → new ≡ old → Heeds (Some h) old new
leaves_it (heard.ServerIdent cookie global) old new q t = absurd (none_isnt_event _ (sym q))
leaves_it (heard.ReconnectOk seen) old new q t = absurd (none_isnt_event _ (sym q))
leaves_it (heard.Retry number) old new q t = absurd (none_isnt_event _ (sym q))
leaves_it (heard.RetryGlobal number) old new q t = absurd (none_isnt_event _ (sym q))
leaves_it heard.Wait old new q t = absurd (none_isnt_event _ (sym q))
leaves_it (heard.Reset full) old new q t = t
leaves_it (heard.Refused g) old new q t = t

-- ---- what holds of each core

-- a feed on which a frame was passed reads frames, with nothing granted
pub record IsPassed (r : Reading) : Type 0 where
  pub framing : is_framing r ≡ true
  pub told : is_granted_in r ≡ false

pub passed_on : (old new : Reading) → PassesFrame old new → IsPassed new
passed_on (framing rest granted) new p = subst IsPassed (sym p.1.2) (record { framing = refl; told = refl })
passed_on (shaking s) new p = absurd p.1.1

kept_few : (q : Queue) → last_number q ≤ GREATEST_NUMBER → 0 + length q.kept ≤ GREATEST_NUMBER
kept_few q h = omega (arith, h)

-- behind an answer that the session is told of
module _ (l : LiveNow) (v new : FeedNow) (sound : IsSound (live_with (Some v) l)) (ungranted : HoldsNothing l.granted) (p : IsPassed new.reading) where
  size : AreFor (asked_in new.reading) l.granted
  size = none_for (asked_in new.reading) l.granted ungranted

  told : is_whole l.granted ≡ is_granted_in new.reading
  told = none_whole l.granted ungranted ∙ sym p.told

  not_shaking : {X : Type 0} → is_framing new.reading ≡ false → X
  not_shaking {X} e = absurd (apart (sym p.framing ∙ e))
    where
      apart : true ≡ false → ⊥
      apart z = cc

  answered_sound : (h : Heard) (e : Event) → event_of h ≡ Some e → IsBounded h → IsSound (after_answer h (Some new) (live_with (Some v) l))
  answered_sound (heard.ServerIdent cookie global) e q b = record {
    fed = refl;
    asked = not_shaking;
    connect = omega arith;
    numbers = kept_few l.out.queue sound.numbers;
    grant = size;
    told = told;
    ungranted = λ _. ungranted;
  }
  answered_sound (heard.ReconnectOk seen) e q b = record {
    fed = refl;
    asked = not_shaking;
    connect = sound.connect;
    numbers = sound.numbers;
    grant = size;
    told = told;
    ungranted = λ _. ungranted;
  }
  answered_sound (heard.Retry number) e q b = record {
    fed = refl;
    asked = not_shaking;
    connect = (let n : number ≤ GREATEST_NUMBER = b in omega (arith, n));
    numbers = sound.numbers;
    grant = size;
    told = told;
    ungranted = λ _. ungranted;
  }
  answered_sound (heard.RetryGlobal number) e q b = record {
    fed = refl;
    asked = not_shaking;
    connect = sound.connect;
    numbers = sound.numbers;
    grant = size;
    told = told;
    ungranted = λ _. ungranted;
  }
  answered_sound heard.Wait e q b = record {
    fed = refl;
    asked = tt;
    connect = sound.connect;
    numbers = sound.numbers;
    grant = refl;
    told = refl;
    ungranted = λ _. refl;
  }
  answered_sound (heard.Reset full) e q b = absurd (none_isnt_event e q)
  answered_sound (heard.Refused g) e q b = absurd (none_isnt_event e q)

  reset_sound : (full : Bool) → IsSound (tells (event.GotReset full) (live_with (Some new) l))
  reset_sound true = record {
    fed = refl;
    asked = not_shaking;
    connect = omega arith;
    numbers = omega arith;
    grant = size;
    told = told;
    ungranted = λ _. ungranted;
  }
  reset_sound false = record {
    fed = refl;
    asked = not_shaking;
    connect = omega arith;
    numbers = kept_few l.out.queue sound.numbers;
    grant = size;
    told = told;
    ungranted = λ _. ungranted;
  }

answered_by : (l : LiveNow) (x y : Option FeedNow) (h : Heard) (e : Event) → IsSound (live_with x l) → HoldsNothing l.granted → PassesFeed x y → event_of h ≡ Some e → IsBounded h →
    IsSound (after_answer h y (live_with x l))
answered_by l (Some v) (Some new) h e sound none p q b = answered_sound l v new sound none (passed_on v.reading new.reading p.0) h e q b
answered_by l None y h e sound none p q b = absurd p
answered_by l (Some v) None h e sound none p q b = absurd p

reset_by : (l : LiveNow) (x y : Option FeedNow) (full : Bool) → IsSound (live_with x l) → HoldsNothing l.granted → PassesFeed x y → IsSound (tells (event.GotReset full) (live_with y l))
reset_by l (Some v) (Some new) full sound none p = reset_sound l v new sound none (passed_on v.reading new.reading p.0) full
reset_by l None y full sound none p = absurd p
reset_by l (Some v) None full sound none p = absurd p

taken_sound : (l new : LiveNow) (h : Heard) (e : Event) → IsSound l → HoldsNothing l.granted → event_of h ≡ Some e → IsBounded h → TakesAnswer h l new → IsSound new
taken_sound l new h e sound none q b t = subst IsSound (sym t.live) (answered_by l l.feed t.passed h e sound none t.passes q b)

heeded : (l new : LiveNow) (h : Heard) → IsSound l → HoldsNothing l.granted → IsBounded h → Heeds (Some h) l new → IsSound new
heeded l new (heard.ServerIdent cookie global) sound none b t = taken_sound l new _ _ sound none refl b t
heeded l new (heard.ReconnectOk seen) sound none b t = taken_sound l new _ _ sound none refl b t
heeded l new (heard.Retry number) sound none b t = taken_sound l new _ _ sound none refl b t
heeded l new (heard.RetryGlobal number) sound none b t = taken_sound l new _ _ sound none refl b t
heeded l new heard.Wait sound none b t = taken_sound l new _ _ sound none refl b t
heeded l new (heard.Reset full) sound none b t = subst IsSound (sym t) sound
heeded l new (heard.Refused g) sound none b t = subst IsSound (sym t) sound

pub keeps : (c : CoreNow) (o : Option Heard) (l : LiveNow) → Holds c → o ≡ hearing c.facts c.live → IfSome o IsBounded → Heeds o c.live l → Holds (record c { live = l })
keeps c (Some h) l holds is b t = record {
  place = holds.place;
  sound = heeded c.live l h holds.sound (nothing_granted c.facts c.live h (sym is) holds.sound) b t;
}
keeps c None l holds is b t = record { place = holds.place; sound = subst IsSound (sym t) holds.sound }

pub keeps_reset : (c : CoreNow) (full : Bool) (y : Option FeedNow) → Holds c → hearing c.facts c.live ≡ Some (heard.Reset full) → PassesFeed c.live.feed y →
    Holds (record c { live = tells (event.GotReset full) (live_with y c.live) })
keeps_reset c full y holds is p = record {
  place = holds.place;
  sound = reset_by c.live c.live.feed y full holds.sound (nothing_granted c.facts c.live (heard.Reset full) is holds.sound) p;
}

-- ---- the same, as the code comes to it

pub front_at : (c v : CoreNow) (o : Option Heard) (h : Heard) → c ≡ v → o ≡ hearing v.facts v.live → o ≡ Some h → OnFeedNow c.live.feed (λ w. HasFrame w.reading)
front_at c v o h e is some = subst (λ (z : CoreNow). OnFeedNow z.live.feed (λ w. HasFrame w.reading)) (sym e) (has_front v.facts v.live h (sym is ∙ some))

pub keeps_at : (c v : CoreNow) (o : Option Heard) (h : Heard) (e : Event) (l : LiveNow) → Holds c → c ≡ v → o ≡ hearing v.facts v.live → o ≡ Some h → IfSome o IsBounded →
    event_of h ≡ Some e → TakesAnswer h c.live l → Holds (record c { live = l })
keeps_at c v o h e l holds same is some b q t =
    keeps c o l holds (subst (λ (z : CoreNow). o ≡ hearing z.facts z.live) (sym same) is) b (subst (λ z. Heeds z c.live l) (sym some) (takes_it h e c.live l q t))

pub heeds_at : (c v : CoreNow) (o : Option Heard) (h : Heard) (e : Event) (l : LiveNow) → c ≡ v → o ≡ Some h → event_of h ≡ Some e → TakesAnswer h c.live l → Heeds o v.live l
heeds_at c v o h e l same some q t =
    subst (λ (z : CoreNow). Heeds o z.live l) same (subst (λ z. Heeds z c.live l) (sym some) (takes_it h e c.live l q t))

pub heard_front_at : (c v : CoreNow) (h : Heard) → c ≡ v → hearing v.facts v.live ≡ Some h → OnFeedNow c.live.feed (λ w. HasFrame w.reading)
heard_front_at c v h e is = front_at c v (Some h) h e (sym is) refl

pub ungranted_at : (c v : CoreNow) (h : Heard) → Holds c → c ≡ v → hearing v.facts v.live ≡ Some h → HoldsNothing c.live.granted
ungranted_at c v h holds same is = nothing_granted c.facts c.live h (subst (λ (z : CoreNow). hearing z.facts z.live ≡ Some h) (sym same) is) holds.sound

-- ---- a refusal is a fault of the replay

refused_on : FindsFaults → FramesAreHeard → (f : SideFacts) (s : State) (x : Option FeedNow) (y : Option Feed) (e : AnswerFault) → IsFronted f s.session.phase x (heard.Refused e) →
    FeedsAgree f s x y → OnFeedAt y (λ d. is_broken s d ≡ true)
refused_on finds law f s (Some v) (Some d) e k st =
    let is : IsHeard f s.session.phase (said (whole k.frame)) (heard.Refused e) = subst (λ z. IsHeard f s.session.phase (said (whole k.frame)) z) (sym k.says) (law f s.session.phase k.frame) in
    finds.refused f s (whole k.frame) k.len v d st k.front (rw k.before refl) (is.refused s.last e refl k.before)
refused_on finds law f s (Some v) None e k st = absurd st
refused_on finds law f s None y e k st = absurd k

pub is_fault : FindsFaults → FramesAreHeard → (c : CoreNow) (o : Option Heard) → o ≡ hearing c.facts c.live → IsFaultHeard o c
is_fault finds law c (Some (heard.Refused e)) is = λ s a.
    refused_on finds law c.facts s c.live.feed s.feed e
    (subst (λ (t : Session). IsFronted c.facts t.phase c.live.feed (heard.Refused e)) a.session (fronted c.facts c.live (heard.Refused e) (sym is))) a.feed
is_fault finds law c (Some (heard.ServerIdent cookie global)) is = tt
is_fault finds law c (Some (heard.ReconnectOk seen)) is = tt
is_fault finds law c (Some (heard.Retry number)) is = tt
is_fault finds law c (Some (heard.RetryGlobal number)) is = tt
is_fault finds law c (Some heard.Wait) is = tt
is_fault finds law c (Some (heard.Reset full)) is = tt
is_fault finds law c None is = tt

pub fault_at : FindsFaults → FramesAreHeard → (c v : CoreNow) (o : Option Heard) → c ≡ v → o ≡ hearing c.facts c.live → IsFaultHeard o v
fault_at finds law c v o same is = subst (λ (z : CoreNow). IsFaultHeard o z) same (is_fault finds law c o is)

-- the same behind what was heard
pub is_fault_then : FindsFaults → FramesAreHeard → (c : CoreNow) (o : Option Heard) (l : LiveNow) → o ≡ hearing c.facts c.live → Heeds o c.live l → IsFaultHeard o (record c { live = l })
is_fault_then finds law c (Some (heard.Refused e)) l is t = subst (λ (z : LiveNow). IsBroken (record c { live = z })) (sym t) (is_fault finds law c (Some (heard.Refused e)) is)
is_fault_then finds law c (Some (heard.ServerIdent cookie global)) l is t = tt
is_fault_then finds law c (Some (heard.ReconnectOk seen)) l is t = tt
is_fault_then finds law c (Some (heard.Retry number)) l is t = tt
is_fault_then finds law c (Some (heard.RetryGlobal number)) l is t = tt
is_fault_then finds law c (Some heard.Wait) l is t = tt
is_fault_then finds law c (Some (heard.Reset full)) l is t = tt
is_fault_then finds law c None l is t = tt
