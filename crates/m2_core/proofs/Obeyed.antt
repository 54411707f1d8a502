-- A reset is obeyed: the core and the replay go on alike.
use Rattle.std.proofs.Common.{◌≡◌, ℕ, Bool, true, false, [], ◌∷◌, Option, Some, None, refl, sym, subst}
use Rattle.std.specs.Prelude.{IsTrue}
use Rattle.m2_control.specs.declared.control.Control.TheVariants as control
use Rattle.m2_feed.specs.FeedNow.{FeedNow}
use Rattle.m2_feed.specs.FeedLaws.{ChangesBeside, TakesBeside}
use Rattle.m2_feed.specs.Stands.{Stands}
use Rattle.m2_frame.specs.Reading.{whole}
use Rattle.m2_feed.specs.declared.heard.Heard.TheVariants as heard
use Rattle.m2_feed.specs.AnswerLaws.{FramesAreHeard, IsHeard}
use Rattle.m2_journal.specs.Feeds.{stamp_of}
use Rattle.m2_journal.specs.Items as item
use Rattle.m2_journal.specs.Lawful.{IsReset, MayObey, OnFeedAt}
use Rattle.m2_journal.specs.Said.{Said, says, said}
use Rattle.m2_journal.specs.SideFacts.{SideFacts}
use Rattle.m2_journal.specs.State.{Feed, State}
use Rattle.m2_journal.specs.Steps.{after, takes_answer}
use Rattle.m2_session.specs.declared.event.Event.TheVariants as event
use Rattle.m2_session.specs.declared.session.Phase.TheVariants.{ReconnectSent}
use Rattle.m2_session.specs.declared.session.Session.{Session}
use Rattle.m2_session.specs.Phases.{is_among}
use Rattle.m2_session.specs.Steps.{is_lawful}
use Rattle.m2_shared.specs.declared.peer_grants.PeerGrants.{PeerGrants}
use Rattle.m2_core.specs.LiveNow.{LiveNow}
use Rattle.m2_core.specs.Effects.{tells}
use Rattle.m2_core.specs.OnFeed.{PassesFeed}
use Rattle.m2_core.specs.LiveCalls.{live_with}
use Rattle.m2_core.specs.LiveHearing.{ObeysReset}
use Rattle.m2_core.proofs.Agreeing.{IsResumed, core_of, agreed}
use Rattle.m2_core.proofs.Taken.{Fronted, IsFronted, fronted, keeps_reset}
use Rattle.m2_core.specs.Agrees.{Agrees, FeedsAgree, LeadsOn, MayCome}
use Rattle.m2_core.specs.CoreNow.{CoreNow, Holds}
use Rattle.m2_core.specs.Hearing.{HasObeyed, hearing}

reset_stamp : (full : Bool) (y : Said) → IsReset full (Some y) → stamp_of y ≡ None
reset_stamp full (says (control.SessionReset p)) h = refl
reset_stamp full (says (control.Keepalive p)) h = absurd h
reset_stamp full _ h = refl

module _ (takes : TakesBeside) (changes : ChangesBeside) (law : FramesAreHeard) (f : SideFacts) (full : Bool) where
  says_reset : (s : State) (v : FeedNow) (k : Fronted f.peer f.policy s.session.phase v (heard.Reset full)) → IsHeard f s.session.phase (said (whole k.frame)) (heard.Reset full)
  says_reset s v k = subst (λ z. IsHeard f s.session.phase (said (whole k.frame)) z) (sym k.says) (law f s.session.phase k.frame)

  may_on : (s : State) (x : Option FeedNow) (y : Option Feed) → IsFronted f s.session.phase x (heard.Reset full) → FeedsAgree f s x y → OnFeedAt y (MayObey s full)
  may_on s (Some v) (Some d) k st =
      let is = (says_reset s v k).reset full refl in
      record { phase = is.0; next = subst (λ z. IsReset full z) (sym (takes.answer_next f s (whole k.frame) k.len v d st k.before k.front)) is.1 }
  may_on s (Some v) None k st = absurd st
  may_on s None y k st = absurd k

  obeyed_on : (s : State) (n r : ℕ) (g : PeerGrants) (v new : FeedNow) (y : Option Feed) → Fronted f.peer f.policy s.session.phase v (heard.Reset full) →
      PassesFeed (Some v) (Some new) → FeedsAgree f (record s { feed = y }) (Some v) y → IsResumed r y →
      Agrees (record (core_of f (record s { feed = y }) n r (Some v) g)
      { live = tells (event.GotReset full) (live_with (Some new) (core_of f (record s { feed = y }) n r (Some v) g).live) })
      (after f (item.obeyed full) (record s { feed = y }))
  obeyed_on s n r g v new (Some d) k p st resumed = by_mark full refl
    where
      behind : Stands f (record s { feed = Some d }) new (takes_answer d)
      behind = takes.answer f (record s { feed = Some d }) (whole k.frame) v new d st k.before (reset_stamp full (said (whole k.frame)) ((says_reset s v k).reset full refl).1)
          (record { len = k.len; front = k.front; other = whole p.0.0; passes = p.0.1 }) p.1

      by_mark : (b : Bool) → full ≡ b →
          Agrees (record (core_of f (record s { feed = Some d }) n r (Some v) g) { live = tells (event.GotReset b) (live_with (Some new) (core_of f (record s { feed = Some d }) n r (Some v) g).live) }) (after f (item.obeyed b) (record s { feed = Some d }))
      by_mark true e = record {
        session = refl;
        queue = refl;
        last = refl;
        life = refl;
        owes = refl;
        dials = refl;
        top = refl;
        feed = changes.idle f (record s { feed = Some d }) _ new (takes_answer d) 0 s.owes behind k.before;
        resumed = resumed;
      }
      by_mark false e = record {
        session = refl;
        queue = refl;
        last = refl;
        life = refl;
        owes = refl;
        dials = refl;
        top = refl;
        feed = changes.idle f (record s { feed = Some d }) _ new (takes_answer d) 0 s.owes behind k.before;
        resumed = resumed;
      }
  obeyed_on s n r g v new None k p st resumed = absurd st

-- the session may be told of it
pub may_be_told : FramesAreHeard → (f : SideFacts) (l : LiveNow) (full : Bool) → hearing f l ≡ Some (heard.Reset full) → IsTrue (is_lawful l.session (event.GotReset full))
may_be_told law f l full is = by_mark full (phase_on l.feed (fronted f l (heard.Reset full) is))
  where
    phase_on : (x : Option FeedNow) → IsFronted f l.session.phase x (heard.Reset full) → l.session.phase ≡ ReconnectSent
    phase_on (Some v) k =
        let says : IsHeard f l.session.phase (said (whole k.frame)) (heard.Reset full) =
        subst (λ z. IsHeard f l.session.phase (said (whole k.frame)) z) (sym k.says) (law f l.session.phase k.frame) in
        (says.reset full refl).0
    phase_on None k = absurd k

    by_mark : (b : Bool) → l.session.phase ≡ ReconnectSent → IsTrue (is_lawful l.session (event.GotReset b))
    by_mark true e = subst (λ z. IsTrue (is_among z (ReconnectSent ∷ []))) (sym e) refl
    by_mark false e = subst (λ z. IsTrue (is_among z (ReconnectSent ∷ []))) (sym e) refl

may_obey : TakesBeside → ChangesBeside → FramesAreHeard → (c : CoreNow) (full : Bool) → hearing c.facts c.live ≡ Some (heard.Reset full) → MayCome (item.obeyed full) c
may_obey takes changes law c full is s a = may_on takes changes law c.facts full s c.live.feed s.feed
    (subst (λ (z : Session). IsFronted c.facts z.phase c.live.feed (heard.Reset full)) a.session (fronted c.facts c.live (heard.Reset full) is)) a.feed

leads_on : TakesBeside → ChangesBeside → FramesAreHeard → (c : CoreNow) (full : Bool) (x y : Option FeedNow) → IsFronted c.facts c.live.session.phase x (heard.Reset full) →
    PassesFeed x y → LeadsOn (item.obeyed full) (record c { live = live_with x c.live }) (record c { live = tells (event.GotReset full) (live_with y c.live) })
leads_on takes changes law c full (Some v) (Some new) k p s a =
    let old : CoreNow = record c { live = live_with (Some v) c.live } in
    subst (λ (u : CoreNow). Agrees (record u { live = tells (event.GotReset full) (live_with (Some new) u.live) }) (after c.facts (item.obeyed full) s)) (agreed old s a)
    (obeyed_on takes changes law c.facts full s c.live.out.spare c.live.resumed c.live.granted v new s.feed
    (subst (λ (z : Session). Fronted c.facts.peer c.facts.policy z.phase v (heard.Reset full)) a.session k) p a.feed a.resumed)
leads_on takes changes law c full None y k p s a = absurd k
leads_on takes changes law c full (Some v) None k p s a = absurd p

pub has_obeyed : TakesBeside → ChangesBeside → FramesAreHeard → (c : CoreNow) (full : Bool) (l : LiveNow) → hearing c.facts c.live ≡ Some (heard.Reset full) →
    ObeysReset full c.live l → HasObeyed full c (record c { live = l })
has_obeyed takes changes law c full l is o = record {
  obeys = o;
  only = refl;
  may = may_obey takes changes law c full is;
  leads = subst (λ (z : LiveNow). LeadsOn (item.obeyed full) c (record c { live = z })) (sym o.live)
      (leads_on takes changes law c full c.live.feed o.passed (fronted c.facts c.live (heard.Reset full) is) o.passes);
}

-- ---- the same, as the code comes to it

pub told_at : FramesAreHeard → (c v : CoreNow) (full : Bool) → c ≡ v → hearing v.facts v.live ≡ Some (heard.Reset full) → IsTrue (is_lawful c.live.session (event.GotReset full))
told_at law c v full same is = subst (λ (z : CoreNow). IsTrue (is_lawful z.live.session (event.GotReset full))) (sym same) (may_be_told law v.facts v.live full is)

pub keeps_at : (c v : CoreNow) (full : Bool) (l : LiveNow) → Holds c → c ≡ v → hearing v.facts v.live ≡ Some (heard.Reset full) → ObeysReset full c.live l → Holds (record c { live = l })
keeps_at c v full l holds same is o =
    subst (λ (z : LiveNow). Holds (record c { live = z })) (sym o.live)
    (keeps_reset c full o.passed holds (subst (λ (z : CoreNow). hearing z.facts z.live ≡ Some (heard.Reset full)) (sym same) is) o.passes)

pub obeyed_at : TakesBeside → ChangesBeside → FramesAreHeard → (c v : CoreNow) (full : Bool) (l : LiveNow) → c ≡ v → hearing v.facts v.live ≡ Some (heard.Reset full) →
    ObeysReset full c.live l → HasObeyed full v (record c { live = l })
obeyed_at takes changes law c v full l same is o =
    subst (λ (z : CoreNow). HasObeyed full z (record c { live = l })) same
    (has_obeyed takes changes law c full l (subst (λ (z : CoreNow). hearing z.facts z.live ≡ Some (heard.Reset full)) (sym same) is) o)
