-- What the step Frame leaves of records that are alike, but for want of memory.
use Rattle.std.proofs.Common.{◌≡◌, ℕ, ◌++◌, [], ◌∷◌, Bool, true, false, if◌then◌else◌, Option, None, Some, refl, sym, subst, ◌∙◌, ap}
use Rattle.std.specs.Prelude.{◌≢◌}
use Rattle.std.specs.Option.{option_map}
use Rattle.m2_fabric.proofs.m2_lemmas.Options.{some_same}
use Rattle.m2_script.specs.m2_center.m2_core.CoreNow.{CoreNow, IsAskedIfSigned}
use Rattle.m2_script.specs.m2_center.m2_core.Front.{FrontHeard, before_front, heard_by, hearer_of, rests, resumption_of}
use Rattle.m2_script.specs.m2_center.m2_core.Granting.{Throttled}
use Rattle.m2_script.specs.m2_center.m2_core.LiveNow.{OnFeedNow, is_ready}
use Rattle.m2_script.specs.m2_center.m2_core.Next.{IsNext}
use Rattle.m2_script.specs.m2_center.m2_core.OnFeed.{GreetsFeed}
use Rattle.m2_script.specs.m2_center.m2_core.declared.next.CoreNext.{CoreNext}
use Rattle.m2_script.specs.m2_center.m2_core.declared.next.CoreNext.TheVariants as next
use Rattle.m2_script.specs.m2_center.m2_feed.FeedNow.{FeedNow, Reading, is_framing, shaking}
use Rattle.m2_script.specs.m2_center.m2_feed.m2_session.declared.session.Phase.{Phase}
use Rattle.m2_script.specs.m2_center.m2_turn.m2_handshake.Standing.{Standing}
use Rattle.m2_script.specs.m2_center.m2_turn.m2_handshake.declared.answer.HalfStep.{HalfStep}
use Rattle.m2_script.specs.m2_center.m2_turn.m2_handshake.declared.answer.HalfStep.TheVariants as half
use Rattle.m2_script.specs.m2_center.m2_feed.m2_journal.declared.entry.Entry.TheVariants as entry
use Rattle.m2_script.specs.m2_center.m2_record.Calls.{Shakes, after_breaking}
use Rattle.m2_script.specs.m2_center.m2_record.Framing.{AnswersFront, Frames, Greets, Heeds, Obeys, after_obeying, letter_of}
use Rattle.m2_script.specs.m2_center.m2_record.RecordNow.{RecordNow}
use Rattle.m2_script.specs.m2_center.m2_record.declared.framing.Framed.{Framed}
use Rattle.m2_script.specs.m2_center.m2_record.declared.framing.Framed.TheVariants as framed
use Rattle.m2_script.proofs.m2_center.m2_turn.m2_session.Phases.{connecting_isnt_ready}
use Rattle.m2_exact.proofs.Composing as composing
use Rattle.m2_exact.proofs.Fronts as fronts
use Rattle.m2_exact.proofs.Nexts as nexts
use Rattle.m2_exact.proofs.Nexts.{LikeThrottles}
use Rattle.m2_exact.proofs.Plain as calls
use Rattle.m2_exact.specs.Cores.{roomless, roomless_feed}
use Rattle.m2_exact.specs.Records.{plain}

-- ---- the front

-- what an answer leaves of a record, by the core that it leaves
abbrev left_next : CoreNext → (now : ℕ) → CoreNow → RecordNow → RecordNow
left_next (next.Acked number) now c p = record p { core = c; journal = p.journal ++ entry.Acked number ∷ [] }
left_next (next.Accepted a) now c p = record p { core = c; journal = p.journal ++ entry.Accepted a.number a.key ∷ []; parcels = p.parcels ++ letter_of p.place a ∷ []; last = now }
left_next (next.Fault cause) now c p = after_breaking now p
left_next answer now c p = record p { core = c }

-- what a record answers by it
abbrev framed_of : CoreNext → Framed
framed_of (next.Acked number) = framed.Acked number
framed_of (next.Accepted a) = framed.Accepted a.number
framed_of next.Granted = framed.Granted
framed_of (next.Resets full) = framed.Obeyed full
framed_of (next.Full stage held) = framed.Full stage held
framed_of (next.Again stage seen now) = framed.Again stage seen now
framed_of (next.Fault cause) = framed.Faulted cause
framed_of next.NoMemory = framed.NoMemory
framed_of answer = framed.Passed

-- What was heeded: an answer of the core, which found something, and memory. A reset is still to be obeyed.
record Heeded (t : Throttled) (f : Framed) (now : ℕ) (r new : RecordNow) : Type 0 where
  pub answer : CoreNext
  pub core : CoreNow
  pub front : AnswersFront t answer r.core core
  pub is : f ≡ framed_of answer
  pub some : answer ≢ next.Rests
  pub memory : answer ≢ next.NoMemory
  pub leaves : plain new ≡ left_next answer now (roomless core) (plain r)

stays : (r new : RecordNow) → new.core ≡ r.core → plain new ≡ plain r → plain new ≡ record (plain r) { core = roomless new.core }
stays r new core only = only ∙ ap (λ (c : CoreNow). record (plain r) { core = roomless c }) (sym core)

heeded : (t : Throttled) (f : Framed) (now : ℕ) (r new : RecordNow) → f ≢ framed.NoMemory → Heeds t f now r new → Heeded t f now r new
heeded t (framed.Half a) now r new m h = absurd h
heeded t framed.Passed now r new m (h, only) =
    record { answer = next.Passed; core = new.core; front = h; is = refl; some = λ e. cc e; memory = λ e. cc e; leaves = ap plain only }
heeded t framed.Granted now r new m (h, only) =
    record { answer = next.Granted; core = new.core; front = h; is = refl; some = λ e. cc e; memory = λ e. cc e; leaves = ap plain only }
heeded t (framed.Acked number) now r new m (h, only) =
    record { answer = next.Acked number; core = new.core; front = h; is = refl; some = λ e. cc e; memory = λ e. cc e; leaves = ap plain only }
heeded t (framed.Accepted number) now r new m (a, is, h, only) = record {
  answer = next.Accepted a;
  core = new.core;
  front = h;
  is = ap (λ (n : ℕ). framed.Accepted n) (sym is);
  some = λ e. cc e;
  memory = λ e. cc e;
  leaves = ap plain only;
}
heeded t (framed.Obeyed full) now r new m (h, only) = record {
  answer = next.Resets full;
  core = new.core;
  front = h;
  is = refl;
  some = λ e. cc e;
  memory = λ e. cc e;
  leaves = stays r new (ap (λ (x : RecordNow). x.core) only) (ap plain only);
}
heeded t (framed.Faulted cause) now r new m (h, only) = record {
  answer = next.Fault cause;
  core = new.core;
  front = h;
  is = refl;
  some = λ e. cc e;
  memory = λ e. cc e;
  leaves = ap plain only ∙ calls.breaking now r;
}
heeded t (framed.Full stage out) now r new m (h, only) =
    record { answer = next.Full stage out; core = new.core; front = h; is = refl; some = λ e. cc e; memory = λ e. cc e; leaves = ap plain only }
heeded t (framed.Again stage seen at) now r new m (h, only) =
    record { answer = next.Again stage seen at; core = new.core; front = h; is = refl; some = λ e. cc e; memory = λ e. cc e; leaves = ap plain only }
heeded t framed.NoMemory now r new m h = absurd (m refl)

module _ (t u : Throttled) (p : LikeThrottles t u) (now : ℕ) (r s new behind : RecordNow) (like : plain r ≡ plain s) where
  core : roomless r.core ≡ roomless s.core
  core = ap (λ (x : RecordNow). x.core) like

  feeds : option_map roomless_feed r.core.live.feed ≡ option_map roomless_feed s.core.live.feed
  feeds = ap (λ (x : RecordNow). x.core.live.feed) like

  heeds : (f g : Framed) → f ≢ framed.NoMemory → g ≢ framed.NoMemory → Heeds t f now r new → Heeds u g now s behind → (f ≡ g) × (plain new ≡ plain behind)
  heeds f g m k h i =
      let a = heeded t f now r new m h in
      let b = heeded u g now s behind k i in
      let agree = nexts.at_front t u p a.answer b.answer a.memory b.memory r.core s.core a.core b.core core a.front b.front in (
        a.is ∙ ap framed_of agree.answers ∙ sym b.is,
        a.leaves
            ∙ ap (λ (n : CoreNext). left_next n now (roomless a.core) (plain r)) agree.answers
            ∙ ap (λ (c : CoreNow). left_next b.answer now c (plain r)) agree.cores
            ∙ ap (λ (x : RecordNow). left_next b.answer now (roomless b.core) x) like
            ∙ sym b.leaves,
      )

obeys : (r s new behind : RecordNow) → plain r ≡ plain s → (full : Bool) → Obeys full r new → Obeys full s behind → plain new ≡ plain behind
obeys r s new behind like full (h, only) (g, last) =
    ap plain only
    ∙ ap (λ (c : CoreNow). record (after_obeying full (plain r)) { core = c }) (nexts.obeyed r.core s.core new.core behind.core (ap (λ (x : RecordNow). x.core) like) full h g)
    ∙ ap (λ (x : RecordNow). record (after_obeying full x) { core = roomless behind.core }) like
    ∙ sym (ap plain last)

-- ---- a half that greets

shakes_one : (one other : HalfStep) (r s new behind : RecordNow) → plain r ≡ plain s → one ≢ half.NoMemory → other ≢ half.NoMemory → Shakes one r new → Shakes other s behind →
    (one ≡ other) × (plain new ≡ plain behind)
shakes_one one other r s new behind like m k (h, only) (g, last) =
    let both = fronts.shakes one other r.core s.core new.core behind.core (ap (λ (x : RecordNow). x.core) like) m k h g in
    (both.0, composing.changes r s new behind like both.1 only last)

abbrev left_half : HalfStep → (now : ℕ) → RecordNow → RecordNow
left_half (half.Fault e) now p = after_breaking now p
left_half answer now p = p

record Greeted (one : HalfStep) (now : ℕ) (r new : RecordNow) : Type 0 where
  pub mid : RecordNow
  pub shakes : Shakes one r mid
  pub leaves : plain new ≡ left_half one now (plain mid)

greeted : (one : HalfStep) (now : ℕ) (r new : RecordNow) → Greets one now r new → Greeted one now r new
greeted half.NotYet now r new h = record { mid = new; shakes = h; leaves = refl }
greeted half.Wrote now r new h = record { mid = new; shakes = h; leaves = refl }
greeted half.Authed now r new h = record { mid = new; shakes = h; leaves = refl }
greeted half.NoMemory now r new h = record { mid = new; shakes = h; leaves = refl }
greeted (half.Fault e) now r new (mid, h, only) = record { mid = mid; shakes = h; leaves = ap plain only ∙ calls.breaking now mid }

greets : (one other : HalfStep) (now : ℕ) (r s new behind : RecordNow) → plain r ≡ plain s → one ≢ half.NoMemory → other ≢ half.NoMemory → Greets one now r new → Greets other now s behind →
    (one ≡ other) × (plain new ≡ plain behind)
greets one other now r s new behind like m k h g =
    let a = greeted one now r new h in
    let b = greeted other now s behind g in
    let both = shakes_one one other r s a.mid b.mid like m k a.shakes b.shakes in
    (both.0, a.leaves ∙ ap (λ (x : RecordNow). left_half one now x) both.1 ∙ ap (λ (x : HalfStep). left_half x now (plain b.mid)) both.0 ∙ sym b.leaves)

greets_shaking : (one : HalfStep) (now : ℕ) (r new : RecordNow) → Greets one now r new → OnFeedNow r.core.live.feed (λ v. (s : Standing) × (v.reading ≡ shaking s))
greets_shaking one now r new h = let g = greeted one now r new h in by r.core.live.feed g.mid.core.live.feed g.shakes.0.greets
  where
    by : (x y : Option FeedNow) → GreetsFeed one x y → OnFeedNow x (λ v. (s : Standing) × (v.reading ≡ shaking s))
    by (Some v) (Some w) g = (g.before, g.stood)
    by (Some v) None g = absurd g
    by None y g = absurd g

-- the feed of a record that is alike hasn't signed either
shaking_like : (r s : RecordNow) → plain r ≡ plain s → OnFeedNow r.core.live.feed (λ v. (h : Standing) × (v.reading ≡ shaking h)) →
    OnFeedNow s.core.live.feed (λ v. (h : Standing) × (v.reading ≡ shaking h))
shaking_like r s like h = by r.core.live.feed s.core.live.feed (ap (λ (x : RecordNow). x.core.live.feed) like) h
  where
    by : (x y : Option FeedNow) → option_map roomless_feed x ≡ option_map roomless_feed y → OnFeedNow x (λ v. (h : Standing) × (v.reading ≡ shaking h)) →
        OnFeedNow y (λ v. (h : Standing) × (v.reading ≡ shaking h))
    by (Some v) (Some w) same (st, is) = (st, sym (ap (λ (z : FeedNow). z.reading) (some_same (roomless_feed v) (roomless_feed w) same)) ∙ is)
    by (Some v) None same h = absurd (cc same)
    by None y same h = absurd h

-- ---- a feed whose opener hasn't signed has no front

front_rests : (c : CoreNow) (s : Standing) → is_ready c.live ≡ false → heard_by c (shaking s) ≡ rests
front_rests c s unready = ap (λ (b : Bool). before_front (if b then resumption_of (hearer_of c) c.live.resumed else None) rests) unready

no_front : (t : Throttled) (a : CoreNext) (c new : CoreNow) → a ≢ next.Rests → IsNext t a rests c new → ⊥
no_front t next.Rests c new m h = m refl
no_front t a c new m h = h

-- so a half that answers and a front that is answered exclude one another
half_or_front : (t : Throttled) (a : CoreNext) (c new : CoreNow) → a ≢ next.Rests → IsAskedIfSigned c.live.session.phase c.live.feed → OnFeedNow c.live.feed (λ v. (s : Standing) × (v.reading ≡ shaking s)) →
    AnswersFront t a c new → ⊥
half_or_front t a c new m asked shaken front = by c.live.feed asked shaken front
  where
    by : (x : Option FeedNow) → IsAskedIfSigned c.live.session.phase x → OnFeedNow x (λ v. (s : Standing) × (v.reading ≡ shaking s)) → OnFeedNow x (λ v. IsNext t a (heard_by c v.reading) c new) → ⊥
    by (Some v) asked (s, is) h =
        no_front t a c new m
        (subst (λ (f : FrontHeard). IsNext t a f c new) (ap (λ (x : Reading). heard_by c x) is ∙ front_rests c s (connecting_isnt_ready c.live.session.phase (asked (ap is_framing is)))) h)
    by None asked shaken h = absurd h

-- ---- all of it

abbrev pub is_memory : Framed → Bool
is_memory framed.NoMemory = false
is_memory (framed.Half half.NoMemory) = false
is_memory _ = true

-- the answer of a half, or what was heeded and then, of a reset, obeyed
data Way : Type 0 where
  greeting : HalfStep → Way
  heeding : Framed → Way

abbrev way_of : Framed → Way
way_of (framed.Half a) = greeting a
way_of f = heeding f

abbrev obeyed_in : Framed → Option Bool
obeyed_in (framed.Obeyed full) = Some full
obeyed_in f = None

abbrev ObeysIf : Option Bool → RecordNow → RecordNow → Type 0
ObeysIf (Some full) mid new = Obeys full mid new
ObeysIf None mid new = new ≡ mid

abbrev Goes : Way → Throttled → Framed → (now : ℕ) → RecordNow → RecordNow → Type 0
Goes (greeting a) t f now r new = (f ≡ framed.Half a) × (a ≢ half.NoMemory) × Greets a now r new
Goes (heeding g) t f now r new = (f ≡ g) × (f ≢ framed.NoMemory) × ((mid : RecordNow) × Heeds t f now r mid × ObeysIf (obeyed_in f) mid new)

goes : (t : Throttled) (f : Framed) (now : ℕ) (r new : RecordNow) → is_memory f ≡ true → Frames t f now r new → Goes (way_of f) t f now r new
goes t (framed.Half half.NoMemory) now r new m h = absurd (cc m)
goes t (framed.Half a) now r new m h = (refl, (λ e. absurd (cc (e, m))), h)
goes t (framed.Obeyed full) now r new m (mid, h, o) = (refl, (λ e. cc e), (mid, h, o))
goes t framed.NoMemory now r new m h = absurd (cc m)
goes t framed.Passed now r new m h = (refl, (λ e. cc e), (new, h, refl))
goes t framed.Granted now r new m h = (refl, (λ e. cc e), (new, h, refl))
goes t (framed.Acked n) now r new m h = (refl, (λ e. cc e), (new, h, refl))
goes t (framed.Accepted n) now r new m h = (refl, (λ e. cc e), (new, h, refl))
goes t (framed.Faulted c) now r new m h = (refl, (λ e. cc e), (new, h, refl))
goes t (framed.Full stage out) now r new m h = (refl, (λ e. cc e), (new, h, refl))
goes t (framed.Again stage seen at) now r new m h = (refl, (λ e. cc e), (new, h, refl))

obeys_if : (x y : Option Bool) (r s new behind : RecordNow) → x ≡ y → plain r ≡ plain s → ObeysIf x r new → ObeysIf y s behind → plain new ≡ plain behind
obeys_if (Some full) (Some mark) r s new behind same like h g = obeys r s new behind like full h (subst (λ (b : Bool). Obeys b s behind) (some_same mark full (sym same)) g)
obeys_if None None r s new behind same like h g = ap plain h ∙ like ∙ sym (ap plain g)
obeys_if (Some full) None r s new behind same like h g = absurd (cc same)
obeys_if None (Some mark) r s new behind same like h g = absurd (cc same)

module _ (t u : Throttled) (p : LikeThrottles t u) (now : ℕ) (r s new behind : RecordNow) (asked : IsAskedIfSigned r.core.live.session.phase r.core.live.feed) (like : plain r ≡ plain s) where
  there : IsAskedIfSigned s.core.live.session.phase s.core.live.feed
  there = by r.core.live.feed s.core.live.feed (ap (λ (x : RecordNow). x.core.live.session.phase) like) (ap (λ (x : RecordNow). x.core.live.feed) like) asked
    where
      by : {a b : Phase} (x y : Option FeedNow) → a ≡ b → option_map roomless_feed x ≡ option_map roomless_feed y → IsAskedIfSigned a x → IsAskedIfSigned b y
      by (Some v) (Some w) e same h =
          λ k. sym e ∙ h (ap (λ (z : FeedNow). is_framing z.reading) (some_same (roomless_feed v) (roomless_feed w) same) ∙ k)
      by (Some v) None e same h = tt
      by None (Some w) e same h = absurd (cc same)
      by None None e same h = tt

  ways : (w x : Way) (f g : Framed) → Goes w t f now r new → Goes x u g now s behind → (f ≡ g) × (plain new ≡ plain behind)
  ways (greeting a) (greeting b) f g (is, m, h) (are, k, i) =
      let both = greets a b now r s new behind like m k h i in
      (is ∙ ap (λ (x : HalfStep). framed.Half x) both.0 ∙ sym are, both.1)
  ways (heeding a) (heeding b) f g (is, m, (mid, h, o)) (are, k, (other, i, q)) =
      let both = heeds t u p now r s mid other like f g m k h i in
      (both.0, obeys_if (obeyed_in f) (obeyed_in g) mid other new behind (ap obeyed_in both.0) both.1 o q)
  ways (greeting a) (heeding b) f g (is, m, h) (are, k, (other, i, q)) =
      let x = heeded u g now s other k i in
      absurd (half_or_front u x.answer s.core x.core x.some there (shaking_like r s like (greets_shaking a now r new h)) x.front)
  ways (heeding a) (greeting b) f g (is, m, (mid, h, o)) (are, k, i) =
      let x = heeded t f now r mid m h in
      absurd (half_or_front t x.answer r.core x.core x.some asked (shaking_like s r (sym like) (greets_shaking b now s behind i)) x.front)

  pub frames_one : (f g : Framed) → is_memory f ≡ true → is_memory g ≡ true → Frames t f now r new → Frames u g now s behind → (f ≡ g) × (plain new ≡ plain behind)
  frames_one f g m k h i = ways (way_of f) (way_of g) f g (goes t f now r new m h) (goes u g now s behind k i)
