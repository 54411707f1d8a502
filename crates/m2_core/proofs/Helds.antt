-- What is held for the feed behind an answer, and the words of throttles that are alone.
use Rattle.std.proofs.Common.{◌≡◌, ℕ, Bool, true, false, ◌&&◌, ◌||◌, not, Option, Some, None, refl, sym, ap, subst, ◌∙◌}
use Rattle.m2_feed.specs.Calls.{IsBad, Owes}
use Rattle.m2_feed.specs.FeedNow.{FeedNow}
use Rattle.m2_frame.specs.declared.fault.FrameFault.{FrameFault}
use Rattle.m2_feed.specs.declared.frame_heard.FrameHeard.TheVariants as heard
use Rattle.m2_session.specs.declared.session.Phase.TheVariants.{Ready}
use Rattle.m2_session.specs.Phases as phase
use Rattle.m2_shared.specs.declared.peer_grants.PeerGrants.{PeerGrants}
use Rattle.m2_shared.specs.Gates.{AreHeld, Keep, held, nothing_held, places}
use Rattle.m2_shared.specs.declared.more.More.{More}
use Rattle.m2_shared.specs.declared.more.More.TheVariants as more
use Rattle.m2_shared.specs.declared.peer_type.PeerType.{PeerType}
use Rattle.m2_shared.specs.declared.throttles.TakePasses.{TakePasses}
use Rattle.m2_shared.specs.declared.throttles.Throttles.{Throttles}
use Rattle.m2_shared.proofs.Asking.{asks_held}
use Rattle.m2_core.specs.LiveNow.{LiveNow, OnFeedNow, is_waiting}
use Rattle.m2_core.specs.Effects.{has_effects}
use Rattle.m2_core.specs.LiveCalls.{after_fault}
use Rattle.m2_core.specs.declared.next.CoreNext.{CoreNext}
use Rattle.m2_core.specs.declared.next.CoreNext.TheVariants as next
use Rattle.m2_core.specs.declared.resting.CoreRest.TheVariants as rest
use Rattle.m2_core.specs.CoreNow.{CoreNow}
use Rattle.m2_core.specs.Front.{FrontHeard, asks, front_of, heard_by, hearer_of, rests, tells}
use Rattle.m2_core.specs.Granting.{Throttled}
use Rattle.m2_core.specs.Next.{IsNext, RestSays, WordsNext, granted_next}
use Rattle.m2_core.proofs.Holding.{nothing_owned}
use Rattle.m2_core.proofs.Sound.{fault_by}

-- nothing is held behind a fault
fault_drops : (lossy server idle lost : Bool) (l : LiveNow) →
    (has_effects (fault_by lossy server idle l.session).1 (record l { session = record (fault_by lossy server idle l.session).0 { lost_ready = lost } })).granted ≡ nothing_held l.granted.peer
fault_drops true server idle lost l = refl
fault_drops false true idle lost l = refl
fault_drops false false true lost l = refl
fault_drops false false false lost l = refl

pub drops : (l : LiveNow) → (after_fault l).granted ≡ nothing_held l.granted.peer
drops l = fault_drops l.session.policy.lossy l.session.policy.server (l.session.policy.standby && not (is_waiting l)) (phase.is l.session.phase Ready || l.session.lost_ready) l

-- ---- what is held was drawn from the throttles

owned_to : (t : Throttled) (new : CoreNow) (g : PeerGrants) → new.live.granted ≡ g → AreHeld (places t.throttles) g → AreHeld (places t.throttles) new.live.granted
owned_to t new g e o = subst (λ (k : PeerGrants). AreHeld (places t.throttles) k) (sym e) o

owned_same : (t : Throttled) (c new : CoreNow) → new ≡ c → AreHeld (places t.throttles) c.live.granted → AreHeld (places t.throttles) new.live.granted
owned_same t c new e o = owned_to t new c.live.granted (ap (λ (k : CoreNow). k.live.granted) e) o

owned_none : (t : Throttled) (new : CoreNow) (p : PeerType) → new.live.granted ≡ nothing_held p → AreHeld (places t.throttles) new.live.granted
owned_none t new p e = owned_to t new (nothing_held p) e (nothing_owned (places t.throttles) p)

owned_next : (t : Throttled) (a : CoreNext) (front : FrontHeard) (c new : CoreNow) → AreHeld (places t.throttles) c.live.granted → IsNext t a front c new → AreHeld (places t.throttles) new.live.granted
owned_next t next.Rests rests c new o h = owned_same t c new h o
owned_next t next.Granted (asks n) c new o h = asks_held more.Whole n t.throttles t.before t.behind c.live.granted new.live.granted h.asks o
owned_next t (next.Full stage out) (asks n) c new o h = asks_held (more.Full stage out) n t.throttles t.before t.behind c.live.granted new.live.granted h.asks o
owned_next t (next.Again stage seen now) (asks n) c new o h = asks_held (more.Again stage seen now) n t.throttles t.before t.behind c.live.granted new.live.granted h.asks o
owned_next t next.Passed (tells heard.Nothing) c new o h = owned_none t new c.live.granted.peer (ap (λ (k : CoreNow). k.live.granted) h.only)
owned_next t next.Passed (tells (heard.Stamp k)) c new o h = owned_none t new c.live.granted.peer (ap (λ (k : CoreNow). k.live.granted) h.only)
owned_next t next.NoMemory (tells (heard.Stamp k)) c new o h = owned_same t c new h o
owned_next t (next.Acked number) (tells (heard.Acknowledges n)) c new o h = owned_to t new c.live.granted (ap (λ (k : CoreNow). k.live.granted) h.1.only) o
owned_next t (next.Accepted a) (tells (heard.Brings n)) c new o h = owned_none t new c.live.granted.peer (ap (λ (k : CoreNow). k.live.granted) h.1.only)
owned_next t next.NoMemory (tells (heard.Brings n)) c new o h = owned_same t c new h o
owned_next t (next.Resets full) (tells (heard.Resets mark)) c new o h = owned_same t c new h.2 o
owned_next t (next.Fault cause) (tells (heard.Fault why)) c new o h = owned_none t new c.live.granted.peer (ap (λ (k : CoreNow). k.live.granted) h.1.only ∙ drops c.live)
owned_next t a front c new o h = absurd h

pub owned_on : (t : Throttled) (a : CoreNext) (c new : CoreNow) → AreHeld (places t.throttles) c.live.granted → OnFeedNow c.live.feed (λ v. IsNext t a (heard_by c v.reading) c new) →
    AreHeld (places t.throttles) new.live.granted
owned_on t a c new o h = at c.live.feed h
  where
    at : (x : Option FeedNow) → OnFeedNow x (λ v. IsNext t a (heard_by c v.reading) c new) → AreHeld (places t.throttles) new.live.granted
    at (Some v) k = owned_next t a (heard_by c v.reading) c new o k
    at None k = absurd k

pub owned_text : (t : Throttled) (a : CoreNext) (c new : CoreNow) → AreHeld (places t.throttles) c.live.granted → OnFeedNow c.live.feed (λ v. IsNext t a (front_of (hearer_of c) v.reading) c new) →
    AreHeld (places t.throttles) new.live.granted
owned_text t a c new o h = at c.live.feed h
  where
    at : (x : Option FeedNow) → OnFeedNow x (λ v. IsNext t a (front_of (hearer_of c) v.reading) c new) → AreHeld (places t.throttles) new.live.granted
    at (Some v) k = owned_next t a (front_of (hearer_of c) v.reading) c new o k
    at None k = absurd k

-- ---- the words of throttles that are alone

pub word_granted : (t : Throttled) (g : More) (c new : CoreNow) → Keep (held c.live.granted) (held new.live.granted) t.throttles t.before t.behind →
    WordsNext (granted_next g) t (held c.live.granted) (held new.live.granted)
word_granted t more.Whole c new k = k
word_granted t (more.Full stage out) c new k = k
word_granted t (more.Again stage seen now) c new k = k

-- where the core was left as it was before
pub same_mid : (c mid : CoreNow) (x : Option FeedNow) (P : FeedNow → Type 0) → OnFeedNow x (λ v. P v × (mid ≡ c)) → mid ≡ c
same_mid c mid (Some v) P r = r.1
same_mid c mid None P r = absurd r

abbrev pub with_passes : Throttles → (before behind : TakePasses) → Throttled
with_passes t before behind = record { throttles = t; before = before; behind = behind }

word_from : (p : Throttles) (u m w : TakePasses) (a : CoreNext) (c mid new : CoreNow) → mid ≡ c → m ≡ u → WordsNext a (with_passes p m w) (held mid.live.granted) (held new.live.granted) →
    WordsNext a (with_passes p u w) (held c.live.granted) (held new.live.granted)
word_from p u m w a c mid new e s h = subst (λ (k : CoreNow). WordsNext a (with_passes p u w) (held k.live.granted) (held new.live.granted)) e
    (subst (λ (k : TakePasses). WordsNext a (with_passes p k w) (held mid.live.granted) (held new.live.granted)) s h)

pub word_faulted : (p : Throttles) (u m w : TakePasses) (a : CoreNext) (c mid new : CoreNow) (f : FrameFault) → OnFeedNow c.live.feed (λ v. RestSays (rest.Fault f) v.reading c mid) → m ≡ u →
    WordsNext a (with_passes p m w) (held mid.live.granted) (held new.live.granted) → WordsNext a (with_passes p u w) (held c.live.granted) (held new.live.granted)
word_faulted p u m w a c mid new f r s h = word_from p u m w a c mid new (same_mid c mid c.live.feed (λ v. IsBad v.reading f) r) s h

pub word_sized : (p : Throttles) (u m w : TakePasses) (a : CoreNext) (c mid new : CoreNow) (n : ℕ) → OnFeedNow c.live.feed (λ v. RestSays (rest.Asks n) v.reading c mid) → m ≡ u →
    WordsNext a (with_passes p m w) (held mid.live.granted) (held new.live.granted) → WordsNext a (with_passes p u w) (held c.live.granted) (held new.live.granted)
word_sized p u m w a c mid new n r s h = word_from p u m w a c mid new (same_mid c mid c.live.feed (λ v. Owes v.reading n) r) s h
