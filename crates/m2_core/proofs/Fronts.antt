-- What stands at the front of a feed, beside its replay.
use Rattle.std.proofs.Common.{◌≡◌, ℕ, refl, subst}
use Rattle.m2_frame.specs.Reading.{Item}
use Rattle.m2_feed.specs.declared.frame_heard.FrameHeard.{FrameHeard}
use Rattle.m2_feed.specs.declared.hearer.Hearer.{Hearer}
use Rattle.m2_feed.specs.FrameHeard.{heard_of}
use Rattle.m2_feed.specs.FrameLaws.{IsAsReplayed, IsHeardAsReplayed}
use Rattle.m2_journal.specs.SideFacts.{SideFacts}
use Rattle.m2_journal.specs.Said.{said}
use Rattle.m2_journal.specs.State.{State}
use Rattle.m2_queues.specs.OutQueues.{Queue}
use Rattle.m2_session.specs.declared.session.Session.{Session}
use Rattle.m2_core.specs.Agrees.{Agrees}
use Rattle.m2_core.specs.CoreNow.{CoreNow}
use Rattle.m2_core.specs.Front.{hearer_at, hearer_of, hearer_with}

same_hearer : (f : SideFacts) (s t : Session) (q p : Queue) (l m : ℕ) → s ≡ t → q ≡ p → l ≡ m → hearer_with f s q l ≡ hearer_with f t p m
same_hearer f s t q p l m e1 e2 e3 = rw (e1, e2, e3) refl

-- who hears is who hears where the journal leads
pub hearer_agrees : (c : CoreNow) (s : State) → Agrees c s → hearer_of c ≡ hearer_at c.facts s
hearer_agrees c s a = same_hearer c.facts c.live.session s.session c.live.out.queue s.out.queue c.live.last s.last a.session a.queue a.last

-- what an item says to the core is what it says where the journal leads
pub as_replayed : IsHeardAsReplayed → (c : CoreNow) (s : State) → Agrees c s → (item : Item) (heard : FrameHeard) → heard_of (hearer_of c) item ≡ heard →
    IsAsReplayed heard (hearer_at c.facts s) (said item)
as_replayed law c s a item heard e =
    subst (λ (h : Hearer). IsAsReplayed heard h (said item)) (hearer_agrees c s a) (subst (λ (x : FrameHeard). IsAsReplayed x (hearer_of c) (said item)) e (law (hearer_of c) item))
