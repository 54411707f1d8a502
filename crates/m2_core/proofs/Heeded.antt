-- What is heard at the front may be heeded, and the front is what the answer says.
use Rattle.std.proofs.Common.{◌≡◌, ℕ, ◌<◌, ◌≤◌, Bool, true, false, ◌&&◌, ◌||◌, List, [], ◌∷◌, Option, Some, None, refl, sym, ap, subst, ◌∙◌, inl, inr, arith}
use Rattle.std.specs.Prelude.{◌⊎◌, ◌==◌, nat_lt}
use Rattle.std.specs.List.{list_any}
use Rattle.std.specs.Option.{is_some}
use Rattle.std.proofs.lemmas.Bool.{eqb-true, lt-ltb}
use Rattle.m2_feed.specs.Calls.{IsBad, IsFront, Owes}
use Rattle.m2_feed.specs.FeedNow.{FeedNow}
use Rattle.m2_feed.specs.FeedLaws.{FindsFaults, HearsTold}
use Rattle.m2_frame.specs.declared.fault.FrameFault.{FrameFault}
use Rattle.m2_fabric.specs.Sockets.{same_socket}
use Rattle.m2_frame.specs.Reading.{Item, judge, whole}
use Rattle.m2_feed.specs.declared.wire_fault.WireFault.{WireFault}
use Rattle.m2_feed.specs.declared.frame_heard.FrameHeard.{FrameHeard}
use Rattle.m2_feed.specs.declared.frame_heard.FrameHeard.TheVariants.{Nothing, Stamp, Acknowledges, Brings, Resets, Fault}
use Rattle.m2_feed.specs.declared.hearer.Hearer.{Hearer}
use Rattle.m2_feed.specs.FrameHeard.{heard_of}
use Rattle.m2_feed.specs.FrameLaws.{IsAcknowledging, IsAsReplayed, IsBeyond, IsHeardAsReplayed, IsRefused}
use Rattle.m2_journal.specs.Feeds.{is_passed, told, told_by}
use Rattle.m2_journal.specs.Items as item
use Rattle.m2_journal.specs.Lawful.{MayClose, OnFeedAt, acknowledges_too_much, has_failed, is_bad, is_broken, is_early_message, is_refused, said_next}
use Rattle.m2_journal.specs.Said.{said}
use Rattle.m2_journal.specs.SideFacts.{SideFacts}
use Rattle.m2_journal.specs.State.{Feed, State}
use Rattle.m2_queues.specs.OutQueues.{Queue}
use Rattle.m2_session.specs.declared.session.Phase.TheVariants.{Ready}
use Rattle.m2_session.specs.declared.session.Session.{Session}
use Rattle.m2_session.specs.Phases as phase
use Rattle.m2_core.specs.LiveNow.{OnFeedNow, is_ready}
use Rattle.m2_core.specs.OnFeed.{Hears}
use Rattle.m2_core.specs.Agrees.{Agrees, FeedsAgree, IsBroken, IsTold, MayCome}
use Rattle.m2_core.specs.CoreNow.{CoreNow}
use Rattle.m2_core.specs.Front.{HearsOn, hearer_at, hearer_of}
use Rattle.m2_core.specs.Next.{CanCount, CanHeed}
use Rattle.m2_core.proofs.Faulting.{is_on_feed}
use Rattle.m2_core.proofs.Fronts.{as_replayed}
use Rattle.m2_core.proofs.Resetting.{reset_heard}
use Rattle.m2_bytes.proofs.m2_lemmas.Booleans.{or_right, or_left, fifth_of_five}

-- ---- a fault is one of the replay

not_both : (a b : Bool) → (a ≡ true → b ≡ false) → (a && b) ≡ false
not_both true b h = h refl
not_both false b h = refl

broken_by : FindsFaults → (f : SideFacts) (s : State) (i : Item) (len : ℕ) (v : FeedNow) (d : Feed) → IsFront v.reading i len → IsRefused (hearer_at f s) (said i) ⊎ IsBeyond (hearer_at f s) (said i) →
    FeedsAgree f s (Some v) (Some d) → is_broken s d ≡ true
broken_by law f s i len v d front (inl k) st =
    law.refused f s i len v d st front (not_both (phase.is s.session.phase Ready) (is_passed s.last (said i)) k.stops) k.refused
broken_by law f s i len v d front (inr k) st = law.too_much f s i len k.number v d st front k.told k.beyond

broken_on : FindsFaults → (f : SideFacts) (s : State) (h : Hearer) (cause : WireFault) (x : Option FeedNow) (d : Option Feed) → OnFeedNow x (λ v. Hears h (Fault cause) v.reading) →
    ((i : Item) → heard_of h i ≡ Fault cause → IsRefused (hearer_at f s) (said i) ⊎ IsBeyond (hearer_at f s) (said i)) → FeedsAgree f s x d → OnFeedAt d (λ e. is_broken s e ≡ true)
broken_on law f s h cause (Some v) (Some d) k is st = broken_by law f s (whole k.frame) k.len v d k.front (is (whole k.frame) k.says) st
broken_on law f s h cause (Some v) None k is st = absurd st
broken_on law f s h cause None d k is st = absurd k

fault_heard : IsHeardAsReplayed → FindsFaults → (c : CoreNow) (cause : WireFault) → HearsOn c (Fault cause) → IsBroken c
fault_heard law finds c cause h s a =
    broken_on finds c.facts s (hearer_of c) cause c.live.feed s.feed h (λ i e. as_replayed law c s a i (Fault cause) e) a.feed

-- ---- what is acknowledged was told

told_on : HearsTold → (f : SideFacts) (s : State) (h : Hearer) (n : ℕ) (x : Option FeedNow) (d : Option Feed) → OnFeedNow x (λ v. Hears h (Acknowledges n) v.reading) →
    ((i : Item) → heard_of h i ≡ Acknowledges n → told_by (said i) ≡ Some n) → FeedsAgree f s x d → IsTold n d
told_on law f s h n (Some v) (Some d) k is st = law f s (whole k.frame) k.len n v d st k.front (is (whole k.frame) k.says)
told_on law f s h n (Some v) None k is st = absurd st
told_on law f s h n None d k is st = absurd k

acknowledged : IsHeardAsReplayed → (h : Hearer) (n : ℕ) (i : Item) → heard_of h i ≡ Acknowledges n → IsAcknowledging h n (said i)
acknowledged law h n i e = subst (λ (x : FrameHeard). IsAsReplayed x h (said i)) e (law h i)

numbers_heard : IsHeardAsReplayed → (h : Hearer) (n : ℕ) (x : Option FeedNow) → OnFeedNow x (λ v. Hears h (Acknowledges n) v.reading) →
    (phase.is h.phase Ready ≡ true) × (h.acknowledged < n) × (n ≤ h.written)
numbers_heard law h n (Some v) k = let a = acknowledged law h n (whole k.frame) k.says in (a.ready, a.above, a.written)
numbers_heard law h n None k = absurd k

ack_heard : IsHeardAsReplayed → HearsTold → (c : CoreNow) (n : ℕ) → HearsOn c (Acknowledges n) → CanCount n c
ack_heard law told c n h =
    let k = numbers_heard law (hearer_of c) n c.live.feed h in
    record {
      ready = k.0;
      told = λ s a. told_on told c.facts s (hearer_of c) n c.live.feed s.feed h (λ i e. (acknowledged law (hearer_of c) n i e).told) a.feed;
      above = k.1;
      written = k.2;
    }

pub hears_can : IsHeardAsReplayed → FindsFaults → HearsTold → (c : CoreNow) (heard : FrameHeard) → HearsOn c heard → CanHeed heard c
hears_can law finds told c (Acknowledges n) h = ack_heard law told c n h
hears_can law finds told c (Fault cause) h = fault_heard law finds c cause h
hears_can law finds told c (Resets full) h = reset_heard law c full h
hears_can law finds told c Nothing h = h
hears_can law finds told c (Stamp k) h = h
hears_can law finds told c (Brings n) h = h

-- ---- a fault where no whole frame stands

bad_on : FindsFaults → (f : SideFacts) (s : State) (e : FrameFault) (x : Option FeedNow) (d : Option Feed) → OnFeedNow x (λ v. IsBad v.reading e) → FeedsAgree f s x d → OnFeedAt d (λ z. is_broken s z ≡ true)
bad_on law f s e (Some v) (Some d) k st = law.frame f s e v d st k
bad_on law f s e (Some v) None k st = absurd st
bad_on law f s e None d k st = absurd k

pub bad_breaks : FindsFaults → (c : CoreNow) (e : FrameFault) → OnFeedNow c.live.feed (λ v. IsBad v.reading e) → IsBroken c
bad_breaks law c e k s a = bad_on law c.facts s e c.live.feed s.feed k a.feed

early_on : FindsFaults → (f : SideFacts) (s : State) (n : ℕ) (x : Option FeedNow) (d : Option Feed) → phase.is s.session.phase Ready ≡ false → OnFeedNow x (λ v. Owes v.reading n) → FeedsAgree f s x d →
    OnFeedAt d (λ z. is_broken s z ≡ true)
early_on law f s n (Some v) (Some d) q k st = law.early f s n v d st q k
early_on law f s n (Some v) None q k st = absurd st
early_on law f s n None d q k st = absurd k

pub early_breaks : FindsFaults → (c : CoreNow) (n : ℕ) → is_ready c.live ≡ false → OnFeedNow c.live.feed (λ v. Owes v.reading n) → IsBroken c
early_breaks law c n q k s a = early_on law c.facts s n c.live.feed s.feed (ap (λ (t : Session). phase.is t.phase Ready) (sym a.session) ∙ q) k a.feed

-- ---- a resumption

any_above : (w n : ℕ) (xs : List ℕ) → w < n → list_any (λ k. k == n) xs ≡ true → list_any (nat_lt w) xs ≡ true
any_above w n [] lt e = e
any_above w n (x ∷ xs) lt e = at (x == n) refl (any_above w n xs lt) e
  where
    at : (b : Bool) → (x == n) ≡ b → (list_any (λ k. k == n) xs ≡ true → list_any (nat_lt w) xs ≡ true) → (b || list_any (λ k. k == n) xs) ≡ true →
        (nat_lt w x || list_any (nat_lt w) xs) ≡ true
    at true q rest h = or_left (nat_lt w x) (list_any (nat_lt w) xs) (lt-ltb w x (let same = eqb-true x n q in omega (arith, same, lt)))
    at false q rest h = or_right (nat_lt w x) (list_any (nat_lt w) xs) (rest h)

beyond_on : (s : State) (n : ℕ) (d : Option Feed) → s.out.queue.written < n → IsTold n d → OnFeedAt d (λ z. is_broken s z ≡ true)
beyond_on s n (Some d) lt t =
    fifth_of_five (has_failed d.hand) (is_bad (judge d.rest)) (is_refused s.session.phase s.last (said_next s d)) (is_early_message s d) (acknowledges_too_much s d)
    (any_above s.out.queue.written n (told d) lt t)
beyond_on s n None lt t = absurd t

-- where a resumption is to be counted, it was told
resumed_told : (c : CoreNow) (s : State) (k : ℕ) → Agrees c s → k < c.live.resumed → IsTold c.live.resumed s.feed
resumed_told c s k a lt = at a.resumed
  where
    at : (c.live.resumed ≡ 0) ⊎ IsTold c.live.resumed s.feed → IsTold c.live.resumed s.feed
    at (inl e) = absurd (omega (arith, e, lt))
    at (inr t) = t

pub resumed_breaks : (c : CoreNow) → c.live.out.queue.written < c.live.resumed → IsBroken c
resumed_breaks c lt s a = beyond_on s c.live.resumed s.feed (subst (λ (q : Queue). q.written < c.live.resumed) a.queue lt) (resumed_told c s c.live.out.queue.written a lt)

pub resumed_counts : (c : CoreNow) → is_ready c.live ≡ true → c.live.out.queue.base < c.live.resumed → c.live.resumed ≤ c.live.out.queue.written → CanCount c.live.resumed c
resumed_counts c ready above written = record { ready = ready; told = λ s a. resumed_told c s c.live.out.queue.base a above; above = above; written = written }

-- ---- a fault may be an entry

closes_on : (f : SideFacts) (s : State) (x : Option FeedNow) (d : Option Feed) → FeedsAgree f s x d → OnFeedAt d (λ z. is_broken s z ≡ true) → s.feed ≡ d →
    OnFeedNow x (λ v. (broken : Bool) → MayClose s v.end.id broken)
closes_on f s (Some v) (Some d) st b e = λ broken.
    inl (subst (λ (o : Option Feed). OnFeedAt o (λ z. (same_socket v.end.id z.socket ≡ true) × ((broken || is_broken s z) ≡ true))) (sym e) (is_on_feed f s v d st, or_right broken (is_broken s d) b))
closes_on f s (Some v) None st b e = absurd st
closes_on f s None (Some d) st b e = absurd st
closes_on f s None None st b e = absurd b

may_close_at : (c : CoreNow) (x : Option FeedNow) → ((s : State) → Agrees c s → OnFeedNow x (λ v. (broken : Bool) → MayClose s v.end.id broken)) → is_some x ≡ true →
    OnFeedNow x (λ v. (broken : Bool) → MayCome (item.closed v.end.id broken) c)
may_close_at c (Some v) h e = λ broken s a. h s a broken
may_close_at c None h e = cc

pub may_close : (c : CoreNow) → is_some c.live.feed ≡ true → IsBroken c → OnFeedNow c.live.feed (λ v. (broken : Bool) → MayCome (item.closed v.end.id broken) c)
may_close c some b = may_close_at c c.live.feed (λ s a. closes_on c.facts s c.live.feed s.feed a.feed (b s a) refl) some
