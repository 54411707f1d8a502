-- What is done with the front of a feed, by what stands there.
use Rattle.std.proofs.Common.{◌≡◌, ℕ, ◌≤◌, Bool, true, false, Option, Some, None, refl, sym, ap, subst, ◌∙◌, arith}
use Rattle.std.specs.Prelude.{nat_lt, if◌then◌else◌}
use Rattle.std.specs.Option.{is_some}
use Rattle.std.proofs.lemmas.Bool.{ltb-true}
use Rattle.m2_feed.specs.Calls.{IsBad, IsFront, Owes, Rests}
use Rattle.m2_feed.specs.FeedNow.{FeedNow, Reading, framing, shaking, is_framing}
use Rattle.m2_feed.specs.FeedLaws.{FindsFaults}
use Rattle.m2_frame.specs.declared.fault.FrameFault.{FrameFault}
use Rattle.m2_frame.specs.Frame.{message_tag}
use Rattle.m2_frame.specs.Reading.{Item, judge, whole}
use Rattle.m2_feed.specs.declared.wire_fault.WireFault.TheVariants as fault
use Rattle.m2_feed.specs.declared.frame_heard.FrameHeard.{FrameHeard}
use Rattle.m2_feed.specs.declared.frame_heard.FrameHeard.TheVariants.{Nothing, Fault, Resets}
use Rattle.m2_feed.specs.declared.hearer.Hearer.{Hearer}
use Rattle.m2_feed.specs.FrameHeard.{heard_of}
use Rattle.m2_feed.specs.FrameLaws.{AsksForItsSize}
use Rattle.m2_journal.specs.Items as item
use Rattle.m2_session.specs.declared.session.Phase.TheVariants.{Ready}
use Rattle.m2_session.specs.Phases as phase
use Rattle.m2_shared.specs.declared.limits.TheConstants.{MOST_TAKEN}
use Rattle.m2_core.specs.LiveNow.{OnFeedNow, is_ready}
use Rattle.m2_core.specs.OnFeed.{Hears, PassesItem}
use Rattle.m2_core.specs.LiveCalls.{after_fault}
use Rattle.m2_shared.specs.declared.more.More.{More}
use Rattle.m2_shared.specs.declared.more.More.TheVariants as more
use Rattle.m2_shared.specs.declared.throttles.TakePasses.{TakePasses}
use Rattle.m2_shared.specs.declared.throttles.Throttles.{Throttles}
use Rattle.m2_core.specs.declared.next.CoreNext.{CoreNext}
use Rattle.m2_core.specs.declared.next.CoreNext.TheVariants as next
use Rattle.m2_core.specs.declared.resting.CoreRest.TheVariants as rest
use Rattle.m2_core.specs.Agrees.{IsBroken, LeadsOn}
use Rattle.m2_core.specs.CoreNow.{CoreNow}
use Rattle.m2_core.specs.Front.{FrontHeard, HearsOn, asks, before_front, front_in, front_of, heard_by, hearer_of, rests, resumption_at, resumption_of, tells}
use Rattle.m2_core.specs.Granting.{HasAsked, Throttled}
use Rattle.m2_core.specs.Next.{CanHeed, Closes, IsNext, IsResetHeard, MayObeyIfReset, RestSays, granted_next, size_front}
use Rattle.m2_core.specs.Passing.{HasPassed, PassesHeard}
use Rattle.m2_core.proofs.Heeded.{bad_breaks, may_close, resumed_breaks}
use Rattle.m2_bytes.proofs.m2_lemmas.Options.{none_isnt_some}
use Rattle.m2_core.proofs.Helds.{same_mid, with_passes}

pub is_fed : (x : Option FeedNow) → OnFeedNow x (λ v. is_framing v.reading ≡ true) → is_some x ≡ true
is_fed (Some v) h = refl
is_fed None h = absurd h

map_on : (x : Option FeedNow) (P Q : FeedNow → Type 0) → ((v : FeedNow) → P v → Q v) → OnFeedNow x P → OnFeedNow x Q
map_on (Some v) P Q f p = f v p
map_on None P Q f p = absurd p

-- ---- what the front says

item_front : (h : Hearer) (r : Reading) (i : Item) (len : ℕ) → IsFront r i len → front_of h r ≡ tells (heard_of h i)
item_front h (framing rest granted) i len f = ap (λ (o : Option ℕ). front_in h o (judge rest)) f.0 ∙ ap (front_in h None) f.1
item_front h (shaking s) i len f = absurd f

start_front : (h : Hearer) (r : Reading) → is_framing r ≡ true → Rests r → front_of h r ≡ rests
start_front h (framing rest granted) q f = ap (λ (o : Option ℕ). front_in h o (judge rest)) f.0 ∙ ap (front_in h None) f.1
start_front h (shaking s) q f = cc

bad_front : (h : Hearer) (r : Reading) (e : FrameFault) → IsBad r e → front_of h r ≡ tells (Fault (fault.Frame e))
bad_front h (framing rest granted) e f = ap (λ (o : Option ℕ). front_in h o (judge rest)) f.0 ∙ ap (front_in h None) f.1
bad_front h (shaking s) e f = absurd f

size_heard : (h : Hearer) (n : ℕ) (b : Bool) → (if b then asks n else tells (Fault (fault.Unexpected message_tag))) ≡ size_front b n
size_heard h n true = refl
size_heard h n false = refl

owed_front : (h : Hearer) (r : Reading) (n : ℕ) → Owes r n → front_of h r ≡ size_front (phase.is h.phase Ready) n
owed_front h (framing rest granted) n f = ap (λ (o : Option ℕ). front_in h o (judge rest)) f ∙ size_heard h n (phase.is h.phase Ready)
owed_front h (shaking s) n f = absurd f

-- ---- the whole frame at the front

pub next_heard : (t : Throttled) (a : CoreNext) (c new : CoreNow) (heard : FrameHeard) → HearsOn c heard → IsNext t a (tells heard) c new →
    OnFeedNow c.live.feed (λ v. IsNext t a (front_of (hearer_of c) v.reading) c new)
next_heard t a c new heard h n =
    map_on c.live.feed (λ v. Hears (hearer_of c) heard v.reading) (λ v. IsNext t a (front_of (hearer_of c) v.reading) c new)
    (λ v k. subst (λ (x : FrontHeard). IsNext t a x c new) (sym (item_front (hearer_of c) v.reading (whole k.frame) k.len k.front ∙ ap (λ (y : FrameHeard). tells y) k.says)) n) h

-- ---- a resumption

resumed_may : (c : CoreNow) (heard : FrameHeard) (b : Bool) → nat_lt c.live.out.queue.written c.live.resumed ≡ b →
    (if b then Some (Fault (fault.BadAck c.live.out.queue.written c.live.resumed)) else None) ≡ Some heard → CanHeed heard c
resumed_may c heard true p e =
    let same : Fault (fault.BadAck c.live.out.queue.written c.live.resumed) ≡ heard = cc in
    subst (λ (x : FrameHeard). CanHeed x c) same (resumed_breaks c (ltb-true c.live.out.queue.written c.live.resumed p))
resumed_may c heard false p e = let never : ⊥ = cc in absurd never

pub resumed_can : (c : CoreNow) (heard : FrameHeard) → Some heard ≡ resumption_at c → CanHeed heard c
resumed_can c heard e = at (is_ready c.live) refl (sym e)
  where
    at : (b : Bool) → is_ready c.live ≡ b → (if b then resumption_of (hearer_of c) c.live.resumed else None) ≡ Some heard → CanHeed heard c
    at true q h = resumed_may c heard (nat_lt c.live.out.queue.written c.live.resumed) refl h
    at false q h = let never : ⊥ = cc in absurd never

pub next_resumed : (t : Throttled) (a : CoreNext) (c new : CoreNow) (heard : FrameHeard) → OnFeedNow c.live.feed (λ v. is_framing v.reading ≡ true) → Some heard ≡ resumption_at c → IsNext t a (tells heard) c new →
    OnFeedNow c.live.feed (λ v. IsNext t a (heard_by c v.reading) c new)
next_resumed t a c new heard s e n =
    map_on c.live.feed (λ v. is_framing v.reading ≡ true) (λ v. IsNext t a (heard_by c v.reading) c new)
    (λ v k. subst (λ (o : Option FrameHeard). IsNext t a (before_front o (front_of (hearer_of c) v.reading)) c new) e n) s

pub next_front : (t : Throttled) (a : CoreNext) (c new : CoreNow) → None ≡ resumption_at c → OnFeedNow c.live.feed (λ v. IsNext t a (front_of (hearer_of c) v.reading) c new) →
    OnFeedNow c.live.feed (λ v. IsNext t a (heard_by c v.reading) c new)
next_front t a c new e n =
    map_on c.live.feed (λ v. IsNext t a (front_of (hearer_of c) v.reading) c new) (λ v. IsNext t a (heard_by c v.reading) c new)
    (λ v k. subst (λ (o : Option FrameHeard). IsNext t a (before_front o (front_of (hearer_of c) v.reading)) c new) e k) n

-- ---- a reset

reset_next : (t : Throttled) (a : CoreNext) (front : FrontHeard) (c new : CoreNow) → IsNext t a front c new → MayObeyIfReset a new
reset_next t (next.Resets full) (tells (Resets mark)) c new h = subst (λ (k : CoreNow). IsResetHeard full k) (sym h.2) h.1
reset_next t (next.Resets full) front c new h = absurd h
reset_next t a front c new h = tt

pub reset_on : (t : Throttled) (a : CoreNext) (c new : CoreNow) → OnFeedNow c.live.feed (λ v. IsNext t a (heard_by c v.reading) c new) → MayObeyIfReset a new
reset_on t a c new h = at c.live.feed h
  where
    at : (x : Option FeedNow) → OnFeedNow x (λ v. IsNext t a (heard_by c v.reading) c new) → MayObeyIfReset a new
    at (Some v) k = reset_next t a (heard_by c v.reading) c new k
    at None k = absurd k

pub reset_text : (t : Throttled) (a : CoreNext) (c new : CoreNow) → OnFeedNow c.live.feed (λ v. IsNext t a (front_of (hearer_of c) v.reading) c new) → MayObeyIfReset a new
reset_text t a c new h = at c.live.feed h
  where
    at : (x : Option FeedNow) → OnFeedNow x (λ v. IsNext t a (front_of (hearer_of c) v.reading) c new) → MayObeyIfReset a new
    at (Some v) k = reset_next t a (front_of (hearer_of c) v.reading) c new k
    at None k = absurd k

-- ---- a fault

pub closes : (c new : CoreNow) → is_some c.live.feed ≡ true → IsBroken c → new ≡ record c { live = after_fault c.live } →
    OnFeedNow c.live.feed (λ v. (broken : Bool) → LeadsOn (item.closed v.end.id broken) c new) → Closes c new
closes c new some b e leads = record { broken = b; only = e; may = may_close c some b; leads = leads }

-- ---- where no whole frame stands

and_on : (x : Option FeedNow) (P Q : FeedNow → Type 0) → OnFeedNow x P → OnFeedNow x Q → OnFeedNow x (λ v. P v × Q v)
and_on (Some v) P Q p q = (p, q)
and_on None P Q p q = absurd p

pub next_rests : (t : Throttled) (c new : CoreNow) → OnFeedNow c.live.feed (λ v. is_framing v.reading ≡ true) → OnFeedNow c.live.feed (λ v. RestSays rest.Rests v.reading c new) →
    OnFeedNow c.live.feed (λ v. IsNext t next.Rests (front_of (hearer_of c) v.reading) c new)
next_rests t c new s r =
    map_on c.live.feed (λ v. (is_framing v.reading ≡ true) × RestSays rest.Rests v.reading c new) (λ v. IsNext t next.Rests (front_of (hearer_of c) v.reading) c new)
    (λ v k. subst (λ (x : FrontHeard). IsNext t next.Rests x c new) (sym (start_front (hearer_of c) v.reading k.0 k.1.0)) k.1.1)
    (and_on c.live.feed (λ v. is_framing v.reading ≡ true) (λ v. RestSays rest.Rests v.reading c new) s r)

passed_front : (h : Hearer) (i : Item) (v : FeedNow) (y : Option FeedNow) → heard_of h i ≡ Nothing → PassesItem i (Some v) y → front_of h v.reading ≡ tells Nothing
passed_front h i v (Some new) e p = item_front h v.reading i p.0.len p.0.front ∙ ap (λ (x : FrameHeard). tells x) e
passed_front h i v None e p = absurd p

passed_on : (t : Throttled) (c new : CoreNow) (x : Option FeedNow) → PassesHeard (hearer_of c) Nothing x new.live.feed → HasPassed c new →
    OnFeedNow x (λ v. IsNext t next.Passed (front_of (hearer_of c) v.reading) c new)
passed_on t c new (Some v) k p = subst (λ (x : FrontHeard). IsNext t next.Passed x c new) (sym (passed_front (hearer_of c) k.item v new.live.feed k.says k.passes)) p
passed_on t c new None k p = absurd k.passes

the_passed : (c new : CoreNow) (x : Option FeedNow) → OnFeedNow x (λ v. RestSays rest.Passed v.reading c new) → HasPassed c new
the_passed c new (Some v) r = r
the_passed c new None r = absurd r

pub next_passed : (t : Throttled) (c new : CoreNow) → OnFeedNow c.live.feed (λ v. RestSays rest.Passed v.reading c new) →
    OnFeedNow c.live.feed (λ v. IsNext t next.Passed (front_of (hearer_of c) v.reading) c new)
next_passed t c new r = let p = the_passed c new c.live.feed r in passed_on t c new c.live.feed p.passes p

first_on : (c mid : CoreNow) (x : Option FeedNow) (P : FeedNow → Type 0) → OnFeedNow x (λ v. P v × (mid ≡ c)) → OnFeedNow x P
first_on c mid (Some v) P r = r.0
first_on c mid None P r = absurd r

pub rest_breaks : FindsFaults → (c mid : CoreNow) (e : FrameFault) → OnFeedNow c.live.feed (λ v. RestSays (rest.Fault e) v.reading c mid) → IsBroken mid
rest_breaks law c mid e r =
    subst (λ (k : CoreNow). IsBroken k) (sym (same_mid c mid c.live.feed (λ v. IsBad v.reading e) r)) (bad_breaks law c e (first_on c mid c.live.feed (λ v. IsBad v.reading e) r))

-- the passes are as they were then, too
pub next_faulted : (p : Throttles) (u m w : TakePasses) (a : CoreNext) (c mid new : CoreNow) (e : FrameFault) → OnFeedNow c.live.feed (λ v. RestSays (rest.Fault e) v.reading c mid) → m ≡ u →
    IsNext (with_passes p m w) a (tells (Fault (fault.Frame e))) mid new → OnFeedNow c.live.feed (λ v. IsNext (with_passes p u w) a (front_of (hearer_of c) v.reading) c new)
next_faulted p u m w a c mid new e r q n =
    let t = with_passes p u w in
    let same = same_mid c mid c.live.feed (λ v. IsBad v.reading e) r in
    let from_u : IsNext t a (tells (Fault (fault.Frame e))) mid new = subst (λ (k : TakePasses). IsNext (with_passes p k w) a (tells (Fault (fault.Frame e))) mid new) q n in
    let from_c : IsNext t a (tells (Fault (fault.Frame e))) c new = subst (λ (k : CoreNow). IsNext t a (tells (Fault (fault.Frame e))) k new) same from_u in
    map_on c.live.feed (λ v. IsBad v.reading e) (λ v. IsNext t a (front_of (hearer_of c) v.reading) c new)
    (λ v k. subst (λ (x : FrontHeard). IsNext t a x c new) (sym (bad_front (hearer_of c) v.reading e k)) from_c)
    (first_on c mid c.live.feed (λ v. IsBad v.reading e) r)

pub next_sized : (p : Throttles) (u m w : TakePasses) (a : CoreNext) (c mid new : CoreNow) (n : ℕ) → OnFeedNow c.live.feed (λ v. RestSays (rest.Asks n) v.reading c mid) → m ≡ u →
    IsNext (with_passes p m w) a (size_front (is_ready mid.live) n) mid new → OnFeedNow c.live.feed (λ v. IsNext (with_passes p u w) a (front_of (hearer_of c) v.reading) c new)
next_sized p u m w a c mid new n r q x =
    let t = with_passes p u w in
    let same = same_mid c mid c.live.feed (λ v. Owes v.reading n) r in
    let from_u : IsNext t a (size_front (is_ready mid.live) n) mid new = subst (λ (k : TakePasses). IsNext (with_passes p k w) a (size_front (is_ready mid.live) n) mid new) q x in
    let from_c : IsNext t a (size_front (is_ready c.live) n) c new = subst (λ (k : CoreNow). IsNext t a (size_front (is_ready k.live) n) k new) same from_u in
    map_on c.live.feed (λ v. Owes v.reading n) (λ v. IsNext t a (front_of (hearer_of c) v.reading) c new)
    (λ v k. subst (λ (y : FrontHeard). IsNext t a y c new) (sym (owed_front (hearer_of c) v.reading n k)) from_c)
    (first_on c mid c.live.feed (λ v. Owes v.reading n) r)

pub rest_owes : (c mid : CoreNow) (n : ℕ) → OnFeedNow c.live.feed (λ v. RestSays (rest.Asks n) v.reading c mid) → OnFeedNow mid.live.feed (λ v. Owes v.reading n)
rest_owes c mid n r =
    subst (λ (k : CoreNow). OnFeedNow k.live.feed (λ v. Owes v.reading n)) (sym (same_mid c mid c.live.feed (λ v. Owes v.reading n) r)) (first_on c mid c.live.feed (λ v. Owes v.reading n) r)

-- ---- a size

bounded : AsksForItsSize → (r : Reading) (n : ℕ) → Owes r n → n ≤ MOST_TAKEN
bounded law (framing rest true) n o = absurd (none_isnt_some n o)
bounded law (framing rest false) n o = let most = law.bound rest n o in omega (arith, most)
bounded law (shaking s) n o = absurd o

pub is_bounded : AsksForItsSize → (x : Option FeedNow) (n : ℕ) → OnFeedNow x (λ v. Owes v.reading n) → n ≤ MOST_TAKEN
is_bounded law (Some v) n o = bounded law v.reading n o
is_bounded law None n o = absurd o

pub size_fed : (x : Option FeedNow) (n : ℕ) → OnFeedNow x (λ v. Owes v.reading n) → is_some x ≡ true
size_fed (Some v) n o = refl
size_fed None n o = absurd o

next_of_grant : (t : Throttled) (g : More) (c new : CoreNow) (n : ℕ) → HasAsked g t n c new → IsNext t (granted_next g) (asks n) c new
next_of_grant t more.Whole c new n h = h
next_of_grant t (more.Full stage out) c new n h = h
next_of_grant t (more.Again stage seen now) c new n h = h

pub next_granted : (t : Throttled) (g : More) (c new : CoreNow) (n : ℕ) → is_ready c.live ≡ true → HasAsked g t n c new → IsNext t (granted_next g) (size_front (is_ready c.live) n) c new
next_granted t g c new n q h = subst (λ (b : Bool). IsNext t (granted_next g) (size_front b n) c new) (sym q) (next_of_grant t g c new n h)

pub next_early : (t : Throttled) (a : CoreNext) (c new : CoreNow) (n : ℕ) → is_ready c.live ≡ false → IsNext t a (tells (Fault (fault.Unexpected message_tag))) c new →
    IsNext t a (size_front (is_ready c.live) n) c new
next_early t a c new n q h = subst (λ (b : Bool). IsNext t a (size_front b n) c new) (sym q) h
