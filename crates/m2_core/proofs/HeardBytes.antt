-- Bytes that are read: what holds of each core holds again.
use Rattle.std.proofs.Common.{◌≡◌, ℕ, Bool, true, false, List, ◌++◌, length, take, Option, Some, None, refl, sym, ap, subst, ◌∙◌, arith, inl, inr}
use Rattle.std.specs.Prelude.{◌⊎◌, nat_lt}
use Rattle.std.proofs.lemmas.Bool.Decides.{nat_tests}
use Rattle.m2_fabric.specs.declared.end.EndRead.{EndRead}
use Rattle.m2_fabric.specs.declared.end.EndRead.TheVariants as read
use Rattle.m2_feed.specs.Calls.{ReadsOn, heard}
use Rattle.m2_feed.specs.FeedNow.{FeedNow, Reading, framing, shaking, is_framing}
use Rattle.m2_frame.proofs.Judge.{size_of-settled, size_of-short}
use Rattle.m2_frame.specs.Reading.{size_of}
use Rattle.m2_shared.specs.declared.peer_grants.PeerGrants.{PeerGrants}
use Rattle.m2_core.specs.LiveNow.{AreFor, LiveNow, asked_in, is_granted_in}
use Rattle.m2_core.proofs.Holding.{none_for}
use Rattle.m2_core.specs.OnFeed.{ReadsFeed}
use Rattle.m2_core.specs.LiveCalls.{live_with}
use Rattle.m2_core.specs.CoreNow.{CoreNow, Holds, IsSound}
use Rattle.m2_bytes.proofs.m2_lemmas.Options.{none_isnt_some}

heard_framing : (bytes : List ℕ) (r : Reading) → is_framing (heard bytes r) ≡ is_framing r
heard_framing bytes (shaking s) = refl
heard_framing bytes (framing rest granted) = refl

heard_told : (bytes : List ℕ) (r : Reading) → is_granted_in (heard bytes r) ≡ is_granted_in r
heard_told bytes (shaking s) = refl
heard_told bytes (framing rest granted) = refl

-- a size that is asked for stays asked for
pub size_stays : (rest bytes : List ℕ) (n : ℕ) → size_of rest ≡ Some n → size_of (rest ++ bytes) ≡ size_of rest
size_stays rest bytes n e = by_length (nat_lt (length rest) 32) refl
  where
    by_length : (b : Bool) → nat_lt (length rest) 32 ≡ b → size_of (rest ++ bytes) ≡ size_of rest
    by_length true is = absurd (none_isnt_some n (sym (size_of-short rest (grind (arith, nat_tests))) ∙ e))
    by_length false is = size_of-settled rest bytes (grind (arith, nat_tests))

granted_stays : (g : PeerGrants) (r : Reading) (bytes : List ℕ) → AreFor (asked_in r) g → AreFor (asked_in (heard bytes r)) g
granted_stays g (shaking s) bytes k = k
granted_stays g (framing rest granted) bytes k = at (size_of rest) refl k
  where
    at : (o : Option ℕ) → size_of rest ≡ o → AreFor o g → AreFor (size_of (rest ++ bytes)) g
    at (Some n) e k = subst (λ (o : Option ℕ). AreFor o g) (sym (size_stays rest bytes n e ∙ e)) k
    at None e k = none_for (size_of (rest ++ bytes)) g k

-- what was read is heard, or nothing was
abbrev pub Reads : FeedNow → FeedNow → Type 0
Reads v new = (new.reading ≡ v.reading) ⊎ ((bytes : List ℕ) × (new.reading ≡ heard bytes v.reading))

reads : (answer : EndRead) (v new : FeedNow) → ReadsOn answer v new → Reads v new
reads (read.Got n) v new w = inr (take n w.hears.piece, w.hears.heard)
reads read.NotYet v new w = inl w.hears.heard
reads read.Ended v new w = inl w.hears.heard
reads read.Failed v new w = inl w.hears.heard
reads read.NoMemory v new w = inl (ap (λ (z : FeedNow). z.reading) w)

sound_by : (l : LiveNow) (v new : FeedNow) → Reads v new → IsSound (live_with (Some v) l) → IsSound (live_with (Some new) l)
sound_by l v new (inl e) h = record {
  fed = h.fed;
  asked = rw e h.asked;
  connect = h.connect;
  numbers = h.numbers;
  grant = rw e h.grant;
  told = rw e h.told;
  ungranted = h.ungranted;
}
sound_by l v new (inr r) h = record {
  fed = h.fed;
  asked = λ q. h.asked (sym (heard_framing r.0 v.reading) ∙ sym (ap is_framing r.1) ∙ q);
  connect = h.connect;
  numbers = h.numbers;
  grant = subst (λ (x : Reading). AreFor (asked_in x) l.granted) (sym r.1) (granted_stays l.granted v.reading r.0 h.grant);
  told = h.told ∙ sym (heard_told r.0 v.reading) ∙ sym (ap is_granted_in r.1);
  ungranted = h.ungranted;
}

sound_on : (answer : EndRead) (l : LiveNow) (x y : Option FeedNow) → ReadsFeed answer x y → IsSound (live_with x l) → IsSound (live_with y l)
sound_on answer l (Some v) (Some new) w h = sound_by l v new (reads answer v new w) h
sound_on answer l None y w h = absurd w
sound_on answer l (Some v) None w h = absurd w

pub keeps : (answer : EndRead) (c : CoreNow) (y : Option FeedNow) → Holds c → ReadsFeed answer c.live.feed y → Holds (record c { live = live_with y c.live })
keeps answer c y h w = record { place = h.place; sound = sound_on answer c.live c.live.feed y w h.sound }
