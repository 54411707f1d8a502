-- An acknowledgement is counted: the core and the replay go on alike.
use Rattle.std.proofs.Common.{◌≡◌, ℕ, ◌-◌, ◌<◌, ◌≤◌, true, Option, Some, None, refl, sym, ap, subst, ◌∙◌, arith}
use Rattle.std.specs.Prelude.{nat_le}
use Rattle.std.proofs.lemmas.Bool.{le-leb}
use Rattle.std.proofs.lemmas.List.{length-drop}
use Rattle.m2_feed.specs.FeedLaws.{ChangesBeside}
use Rattle.m2_journal.specs.Items as item
use Rattle.m2_journal.specs.Lawful.{MayAcknowledge, OnFeedAt}
use Rattle.m2_journal.specs.State.{Feed, State}
use Rattle.m2_journal.specs.Steps.{after}
use Rattle.m2_queues.specs.OutQueues.{IsNumbered, Queue, after_acked, last_number}
use Rattle.m2_session.specs.declared.session.Phase.TheVariants.{Ready}
use Rattle.m2_session.specs.Phases as phase
use Rattle.m2_core.specs.LiveNow.{LiveNow, is_ready}
use Rattle.m2_core.specs.LiveCalls.{after_counted}
use Rattle.m2_core.proofs.Agreeing.{feeds_as}
use Rattle.m2_core.specs.Agrees.{IsTold, IsToldTo, LeadsOn, MayCome}
use Rattle.m2_core.specs.CoreNow.{CoreNow, Holds}
use Rattle.m2_feed.proofs.Heeding.{is_ready as is_the_phase}

pub counted : ChangesBeside → (c : CoreNow) (number : ℕ) → number ≤ c.live.out.queue.written →
    LeadsOn (item.acked number) c (record c { live = after_counted number c.live })
counted changes c number w s a =
    let there : number ≤ s.out.queue.written = subst (λ (q : Queue). number ≤ q.written) a.queue w in
    let so : nat_le number s.out.queue.written ≡ true = le-leb number s.out.queue.written there in
    record {
      session = a.session;
      queue = rw (so, a.queue) refl;
      last = a.last;
      life = a.life;
      owes = a.owes;
      dials = a.dials;
      top = a.top;
      feed = feeds_as changes c.facts s (after c.facts (item.acked number) s) c.live.feed s.feed refl refl refl a.feed;
      resumed = a.resumed;
    }

told_on : (y : Option Feed) (s : State) (number : ℕ) → s.session.phase ≡ Ready → IsTold number y → s.out.queue.base < number → number ≤ s.out.queue.written →
    OnFeedAt y (MayAcknowledge s number)
told_on (Some d) s number p t above w = record { phase = p; told = t; above = above; written = w }
told_on None s number p t above w = absurd t

pub may_count : (c : CoreNow) (number : ℕ) → is_ready c.live ≡ true → IsToldTo number c → c.live.out.queue.base < number → number ≤ c.live.out.queue.written →
    MayCome (item.acked number) c
may_count c number ready told above w s a = told_on s.feed s number (sym (ap (λ x. x.phase) a.session) ∙ is_the_phase c.live.session.phase ready) (told s a)
    (subst (λ (q : Queue). q.base < number) a.queue above) (subst (λ (q : Queue). number ≤ q.written) a.queue w)

-- no number is given
gone : (q : Queue) (number : ℕ) → IsNumbered q → number ≤ q.written → last_number (after_acked q number) ≤ last_number q
gone q number h w = omega (arith, length-drop (number - q.base) q.kept, h.sent, h.given, w)

pub sound : (c : CoreNow) (number : ℕ) (l : LiveNow) → Holds c → IsNumbered c.live.out.queue → number ≤ c.live.out.queue.written → l ≡ after_counted number c.live →
    Holds (record c { live = l })
sound c number l h numbers w e = rw e (record {
  place = h.place;
  sound = record {
    fed = h.sound.fed;
    asked = h.sound.asked;
    connect = h.sound.connect;
    numbers = (let a = gone c.live.out.queue number numbers w in let b = h.sound.numbers in omega (arith, a, b));
    grant = h.sound.grant;
    told = h.sound.told;
    ungranted = h.sound.ungranted;
  };
})
