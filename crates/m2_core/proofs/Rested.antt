-- One answer of the decoder where no whole frame stands at the front.
use Rattle.std.proofs.Common.{◌≡◌, ◌≢◌, ℕ, Bool, true, false, Option, Some, None, refl, sym, ap, subst, ◌∙◌}
use Rattle.std.proofs.lemmas.Bool.{true≢false}
use Rattle.std.specs.Prelude.{if◌then◌else◌}
use Rattle.m2_feed.specs.Calls.{IsBad, IsFront, OnlyReads, Owes, Rests}
use Rattle.m2_feed.specs.FeedNow.{FeedNow, Reading, framing, shaking}
use Rattle.m2_feed.specs.FeedLaws.{PassesBeside}
use Rattle.m2_frame.specs.declared.fault.FrameFault.{FrameFault}
use Rattle.m2_frame.specs.declared.frame.Frame.{Frame}
use Rattle.m2_frame.specs.declared.got.Got.{Got}
use Rattle.m2_frame.specs.declared.got.Got.TheVariants as got
use Rattle.m2_frame.specs.Frame.{parts}
use Rattle.m2_frame.specs.Reading.{dropped}
use Rattle.m2_feed.specs.declared.wire_fault.WireFault.TheVariants as fault
use Rattle.m2_feed.specs.declared.frame_heard.FrameHeard.TheVariants.{Nothing, Fault}
use Rattle.m2_feed.specs.FrameLaws.{AsksForItsSize, IsHeardAsReplayed}
use Rattle.m2_core.specs.LiveNow.{OnFeedNow, is_granted_in, is_granted_on, is_ready}
use Rattle.m2_core.proofs.Holding.{none_whole}
use Rattle.m2_core.specs.OnFeed.{GivesFeed, HasNoFrame, PassesItem}
use Rattle.m2_core.specs.LiveCalls.{live_with, passed_live}
use Rattle.m2_core.specs.declared.resting.CoreRest.TheVariants as rest
use Rattle.m2_core.specs.CoreNow.{CoreNow, Holds}
use Rattle.m2_core.specs.Front.{hearer_of}
use Rattle.m2_core.specs.Next.{RestSays}
use Rattle.m2_core.specs.Passing.{HasPassed, PassesHeard}
use Rattle.m2_core.proofs.Passed.{passed_stays, sound_on}
use Rattle.m2_bytes.proofs.m2_lemmas.Options.{none_isnt_some}

-- ---- what isn't answered

pub no_frame : (f : Frame) (x y : Option FeedNow) → HasNoFrame x → GivesFeed (got.Frame f) x y → ⊥
no_frame f (Some v) (Some new) h a = h (parts f) a.0.0 a.0.1
no_frame f (Some v) None h a = a
no_frame f None y h a = a

pub no_memory : (x y : Option FeedNow) → HasNoFrame x → GivesFeed got.NoMemory x y → ⊥
no_memory (Some v) (Some new) h a = let k = a.0.0 in h k.0 k.1 k.2
no_memory (Some v) None h a = a
no_memory None y h a = a

-- ---- what leaves the feed

same_feed : (v new : FeedNow) → new.reading ≡ v.reading → OnlyReads v new → Some new ≡ Some v
same_feed v new r o = ap (λ (x : FeedNow). Some x) (o ∙ ap (λ (r : Reading). record v { reading = r }) r)

same_core : (c : CoreNow) (y : Option FeedNow) → y ≡ c.live.feed → record c { live = live_with y c.live } ≡ c
same_core c y e = ap (λ (x : Option FeedNow). record c { live = live_with x c.live }) e

with_same : (c : CoreNow) (x y : Option FeedNow) (P : FeedNow → Type 0) → y ≡ c.live.feed → OnFeedNow x P →
    OnFeedNow x (λ v. P v × (record c { live = live_with y c.live } ≡ c))
with_same c (Some v) y P e p = (p, same_core c y e)
with_same c None y P e p = absurd p

start_on : (x y : Option FeedNow) → GivesFeed got.NotYet x y → OnFeedNow x (λ v. Rests v.reading) × (y ≡ x)
start_on (Some v) (Some new) a = (a.0.0, same_feed v new a.0.1 a.1)
start_on (Some v) None a = absurd a
start_on None y a = absurd a

size_on : (n : ℕ) (x y : Option FeedNow) → GivesFeed (got.Size n) x y → OnFeedNow x (λ v. Owes v.reading n) × (y ≡ x)
size_on n (Some v) (Some new) a = (a.0.0, same_feed v new a.0.1 a.1)
size_on n (Some v) None a = absurd a
size_on n None y a = absurd a

fault_on : (f : FrameFault) (x y : Option FeedNow) → GivesFeed (got.Fault f) x y → OnFeedNow x (λ v. IsBad v.reading f) × (y ≡ x)
fault_on f (Some v) (Some new) a = (a.0.0, same_feed v new a.0.1 a.1)
fault_on f (Some v) None a = absurd a
fault_on f None y a = absurd a

pub rests : (c : CoreNow) (y : Option FeedNow) → GivesFeed got.NotYet c.live.feed y → OnFeedNow c.live.feed (λ v. RestSays rest.Rests v.reading c (record c { live = live_with y c.live }))
rests c y a = let k = start_on c.live.feed y a in with_same c c.live.feed y (λ v. Rests v.reading) k.1 k.0

pub asks : (c : CoreNow) (n : ℕ) (y : Option FeedNow) → GivesFeed (got.Size n) c.live.feed y → OnFeedNow c.live.feed (λ v. RestSays (rest.Asks n) v.reading c (record c { live = live_with y c.live }))
asks c n y a = let k = size_on n c.live.feed y a in with_same c c.live.feed y (λ v. Owes v.reading n) k.1 k.0

pub faults : (c : CoreNow) (f : FrameFault) (y : Option FeedNow) → GivesFeed (got.Fault f) c.live.feed y → OnFeedNow c.live.feed (λ v. RestSays (rest.Fault f) v.reading c (record c { live = live_with y c.live }))
faults c f y a = let k = fault_on f c.live.feed y a in with_same c c.live.feed y (λ v. IsBad v.reading f) k.1 k.0

-- ---- a message that the peer gave up

aborted_item : (tag : ℕ) (x y : Option FeedNow) → GivesFeed (got.Aborted tag) x y → PassesItem (dropped tag) x y
aborted_item tag (Some v) (Some new) a = (record { len = a.0.0; front = a.0.1; other = dropped tag; passes = a.0 }, a.1)
aborted_item tag (Some v) None a = absurd a
aborted_item tag None y a = absurd a

-- its size was granted
granted_text : AsksForItsSize → (r : Reading) (tag len : ℕ) → IsFront r (dropped tag) len → is_granted_in r ≢ false
granted_text law (framing rest true) tag len i e = true≢false e
granted_text law (framing rest false) tag len i e = let s = law.aborted rest tag len i.1 in none_isnt_some s.0 (sym i.0 ∙ s.1)
granted_text law (shaking s) tag len i e = absurd i

granted_item : AsksForItsSize → (tag : ℕ) (x y : Option FeedNow) → PassesItem (dropped tag) x y → is_granted_on x ≢ false
granted_item law tag (Some v) (Some new) p = granted_text law v.reading tag p.0.len p.0.front
granted_item law tag (Some v) None p = absurd p
granted_item law tag None y p = absurd p

-- so it stands there in Ready alone
ready_there : AsksForItsSize → (c : CoreNow) (tag : ℕ) (y : Option FeedNow) → Holds c → PassesItem (dropped tag) c.live.feed y → is_ready c.live ≡ true
ready_there law c tag y h p = at (is_ready c.live) refl
  where
    at : (b : Bool) → is_ready c.live ≡ b → is_ready c.live ≡ true
    at true e = e
    at false e = absurd (granted_item law tag c.live.feed y p (sym h.sound.told ∙ none_whole c.live.granted (h.sound.ungranted e)))

aborted_heard : AsksForItsSize → (c : CoreNow) (tag : ℕ) (y : Option FeedNow) → Holds c → PassesItem (dropped tag) c.live.feed y → PassesHeard (hearer_of c) Nothing c.live.feed y
aborted_heard law c tag y h p = record {
  item = dropped tag;
  says = ap (λ (b : Bool). if b then Nothing else Fault (fault.Unexpected tag)) (ready_there law c tag y h p);
  passes = p;
}

on_any : (x : Option FeedNow) (P : Type 0) (g : Got) (y : Option FeedNow) → GivesFeed g x y → P → OnFeedNow x (λ v. P)
on_any (Some v) P g y a p = p
on_any None P g y a p = absurd a

pub passes : IsHeardAsReplayed → PassesBeside → AsksForItsSize → (c : CoreNow) (tag : ℕ) (y : Option FeedNow) → Holds c → GivesFeed (got.Aborted tag) c.live.feed y →
    OnFeedNow c.live.feed (λ v. RestSays rest.Passed v.reading c (record c { live = passed_live y c.live }))
passes law beside sizes c tag y h a =
    let k = aborted_heard sizes c tag y h (aborted_item tag c.live.feed y a) in
    on_any c.live.feed (HasPassed c (record c { live = passed_live y c.live })) (got.Aborted tag) y a
    (record { passes = k; only = refl; stays = passed_stays law beside c y k })

-- ---- what holds of each core

keeps_same : (c : CoreNow) (y : Option FeedNow) → Holds c → y ≡ c.live.feed → Holds (record c { live = live_with y c.live })
keeps_same c y h e = subst (λ (v : CoreNow). Holds v) (sym (same_core c y e)) h

pub keeps_resting : (c : CoreNow) (y : Option FeedNow) → Holds c → GivesFeed got.NotYet c.live.feed y → Holds (record c { live = live_with y c.live })
keeps_resting c y h a = keeps_same c y h (start_on c.live.feed y a).1

pub keeps_asking : (c : CoreNow) (n : ℕ) (y : Option FeedNow) → Holds c → GivesFeed (got.Size n) c.live.feed y → Holds (record c { live = live_with y c.live })
keeps_asking c n y h a = keeps_same c y h (size_on n c.live.feed y a).1

pub keeps_faulting : (c : CoreNow) (f : FrameFault) (y : Option FeedNow) → Holds c → GivesFeed (got.Fault f) c.live.feed y → Holds (record c { live = live_with y c.live })
keeps_faulting c f y h a = keeps_same c y h (fault_on f c.live.feed y a).1

pub keeps_passing : (c : CoreNow) (tag : ℕ) (y : Option FeedNow) → Holds c → GivesFeed (got.Aborted tag) c.live.feed y → Holds (record c { live = passed_live y c.live })
keeps_passing c tag y h a = record { place = h.place; sound = sound_on c.live (dropped tag) c.live.feed y (aborted_item tag c.live.feed y a) h.sound }
