-- An answer of the opener's half: the replay has come so far before.
use Rattle.std.proofs.Common.{◌≡◌, ℕ, true, false, Option, Some, None, refl, sym, ap, subst, ◌∙◌}
use Rattle.m2_feed.specs.Calls.{GreetsOn}
use Rattle.m2_feed.specs.FeedNow.{FeedNow, is_framing}
use Rattle.m2_feed.specs.FeedLaws.{FindsFaults, GreetsBeside}
use Rattle.m2_handshake.specs.declared.answer.HalfStep.{HalfStep}
use Rattle.m2_handshake.specs.declared.answer.HalfStep.TheVariants as half
use Rattle.m2_journal.specs.Lawful.{OnFeedAt, is_broken}
use Rattle.m2_journal.specs.SideFacts.{SideFacts}
use Rattle.m2_journal.specs.State.{Feed, State}
use Rattle.m2_core.specs.LiveNow.{AreFor, LiveNow, asked_in, is_granted_in}
use Rattle.m2_core.proofs.Holding.{none_for}
use Rattle.m2_core.specs.OnFeed.{GreetsFeed}
use Rattle.m2_core.specs.LiveCalls.{live_with}
use Rattle.m2_core.specs.Agrees.{FeedsAgree}
use Rattle.m2_core.specs.CoreNow.{CoreNow, Holds, IsSound}
use Rattle.m2_core.specs.Shaken.{HasShaken, IsHalfFault}

greeted : GreetsBeside → (f : SideFacts) (s : State) (answer : HalfStep) (x y : Option FeedNow) (d : Option Feed) → GreetsFeed answer x y →
    FeedsAgree f s x d → FeedsAgree f s y d
greeted law f s answer (Some v) (Some new) (Some d) w st = law f s answer v new d st w
greeted law f s answer (Some v) (Some new) None w st = st
greeted law f s answer None y d w st = absurd w
greeted law f s answer (Some v) None d w st = absurd w

faulted : FindsFaults → (f : SideFacts) (s : State) (answer : HalfStep) (x y : Option FeedNow) (d : Option Feed) → GreetsFeed answer x y →
    FeedsAgree f s x d → (elim answer as (λ _. Type 0) [ half.Fault e ↦ OnFeedAt d (λ z. is_broken s z ≡ true) | half.NotYet ↦ Unit {0} | half.Wrote ↦ Unit {0} | half.Authed ↦ Unit {0} | half.NoMemory ↦ Unit {0} ])
faulted law f s (half.Fault e) (Some v) (Some new) (Some d) w st = rw (law.of_half f s e v new d st w) refl
faulted law f s (half.Fault e) (Some v) (Some new) None w st = absurd st
faulted law f s (half.Fault e) None y d w st = absurd w
faulted law f s (half.Fault e) (Some v) None d w st = absurd w
faulted law f s half.NotYet x y d w st = tt
faulted law f s half.Wrote x y d w st = tt
faulted law f s half.Authed x y d w st = tt
faulted law f s half.NoMemory x y d w st = tt

is_fault : FindsFaults → (answer : HalfStep) (c : CoreNow) (y : Option FeedNow) → GreetsFeed answer c.live.feed y → IsHalfFault answer c
is_fault law (half.Fault e) c y w = λ s a. faulted law c.facts s (half.Fault e) c.live.feed y s.feed w a.feed
is_fault law half.NotYet c y w = tt
is_fault law half.Wrote c y w = tt
is_fault law half.Authed c y w = tt
is_fault law half.NoMemory c y w = tt

pub has_shaken : GreetsBeside → FindsFaults → (answer : HalfStep) (c : CoreNow) (y : Option FeedNow) → GreetsFeed answer c.live.feed y →
    HasShaken answer c (record c { live = live_with y c.live })
has_shaken greets finds answer c y w = record {
  greets = w;
  only = refl;
  stays = λ s a. record {
    session = a.session;
    queue = a.queue;
    last = a.last;
    life = a.life;
    owes = a.owes;
    dials = a.dials;
    top = a.top;
    feed = greeted greets c.facts s answer c.live.feed y s.feed w a.feed;
    resumed = a.resumed;
  };
  broken = is_fault finds answer c y w;
}

-- ---- what holds of each core

-- nothing is granted for a half, nor for a decoder that a half leaves
untold : (answer : HalfStep) (v new : FeedNow) → GreetsOn answer v new → (is_granted_in v.reading ≡ false) × (is_granted_in new.reading ≡ false)
untold half.Authed v new w = (ap is_granted_in w.stood, ap (λ x. is_granted_in x.reading) w.leaves)
untold half.NotYet v new w = (ap is_granted_in w.stood, ap (λ x. is_granted_in x.reading) w.leaves)
untold half.Wrote v new w = (ap is_granted_in w.stood, ap (λ x. is_granted_in x.reading) w.leaves)
untold (half.Fault e) v new w = (ap is_granted_in w.stood, ap (λ x. is_granted_in x.reading) w.leaves)
untold half.NoMemory v new w = (ap is_granted_in w.stood, ap (λ x. is_granted_in x.reading) w.leaves)

sound_on : (answer : HalfStep) (l : LiveNow) (x y : Option FeedNow) → GreetsFeed answer x y → IsSound (live_with x l) → IsSound (live_with y l)
sound_on answer l (Some v) (Some new) w h =
    let silent = untold answer v new w in
    record {
      fed = h.fed;
      asked = λ e. h.asked (ap is_framing w.stood);
      connect = h.connect;
      numbers = h.numbers;
      grant = none_for (asked_in new.reading) l.granted (subst (λ (o : Option ℕ). AreFor o l.granted) (ap asked_in w.stood) h.grant);
      told = h.told ∙ silent.0 ∙ sym silent.1;
      ungranted = h.ungranted;
    }
sound_on answer l None y w h = absurd w
sound_on answer l (Some v) None w h = absurd w

pub keeps : (answer : HalfStep) (c : CoreNow) (y : Option FeedNow) → Holds c → GreetsFeed answer c.live.feed y → Holds (record c { live = live_with y c.live })
keeps answer c y h w = record { place = h.place; sound = sound_on answer c.live c.live.feed y w h.sound }
