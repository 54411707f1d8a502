-- Cores that are alike but for room answer alike to what stands at the front of their feeds, but for want of memory.
use Rattle.std.proofs.Common.{◌≡◌, ℕ, ◌+◌, Bool, true, Option, None, Some, refl, sym, subst, ◌∙◌, ap}
use Rattle.std.specs.Prelude.{◌≢◌}
use Rattle.std.specs.Option.{option_map}
use Rattle.m2_fabric.proofs.m2_lemmas.Options.{some_same}
use Rattle.m2_script.specs.m2_center.m2_core.Accepting.{Accepts}
use Rattle.m2_script.specs.m2_center.m2_core.CoreNow.{CoreNow}
use Rattle.m2_script.specs.m2_center.m2_core.Front.{FrontHeard, asks, heard_by, rests, tells}
use Rattle.m2_script.specs.m2_center.m2_core.Granting.{Throttled, after_asked}
use Rattle.m2_script.specs.m2_center.m2_core.Hearing.{HasObeyed}
use Rattle.m2_script.specs.m2_center.m2_core.LiveAccepting.{accepted_live}
use Rattle.m2_script.specs.m2_center.m2_core.LiveNow.{LiveNow, OnFeedNow, is_waiting}
use Rattle.m2_script.specs.m2_center.m2_core.LiveCalls.{after_counted, after_fault, live_with, passed_live}
use Rattle.m2_script.specs.m2_center.m2_core.Effects as effects
use Rattle.m2_script.specs.m2_center.m2_core.Next.{Closes, Counts, IsNext, granted_next}
use Rattle.m2_script.specs.m2_center.m2_core.OnFeed.{granted_feed}
use Rattle.m2_script.specs.m2_center.m2_core.Passing.{HasPassed, HasStamped, StampsFeed}
use Rattle.m2_script.specs.m2_center.m2_core.declared.accepting.CoreAccepted.{CoreAccepted}
use Rattle.m2_script.specs.m2_center.m2_core.declared.next.CoreNext.{CoreNext}
use Rattle.m2_script.specs.m2_center.m2_core.declared.next.CoreNext.TheVariants as next
use Rattle.m2_dispatch.specs.m2_message.Message.{Content, content_of}
use Rattle.m2_dispatch.specs.m2_message.MessageFrame.{message_in}
use Rattle.m2_dispatch.specs.m2_message.declared.message.Message.{Message}
use Rattle.m2_dispatch.specs.m2_shared.Gates.{AsksPeer, Gate, by_stage, gate_of, pass_in, places, throttle_in, words}
use Rattle.m2_dispatch.specs.m2_shared.Stages.{grant_at}
use Rattle.m2_dispatch.specs.m2_shared.declared.more.More.{More}
use Rattle.m2_dispatch.specs.m2_shared.declared.more.More.TheVariants as more
use Rattle.m2_dispatch.specs.m2_shared.declared.peer_grants.PeerGrants.{PeerGrants}
use Rattle.m2_dispatch.specs.m2_shared.declared.throttles.Throttles.{Throttles}
use Rattle.m2_script.specs.m2_center.m2_feed.FeedNow.{FeedNow, Reading}
use Rattle.m2_script.specs.m2_center.m2_feed.declared.frame_heard.FrameHeard.TheVariants as heard
use Rattle.m2_script.specs.m2_center.m2_feed.declared.hearer.Hearer.{Hearer}
use Rattle.m2_script.specs.m2_center.m2_feed.declared.wire_fault.WireFault.{WireFault}
use Rattle.m2_script.specs.m2_center.m2_feed.m2_control.declared.keepalive.Keepalive.{Keepalive}
use Rattle.m2_script.specs.m2_center.m2_feed.m2_journal.Lawful.{key_of}
use Rattle.m2_script.specs.m2_center.m2_feed.m2_policy.declared.path.Key.{Key}
use Rattle.m2_script.specs.m2_center.m2_feed.m2_session.declared.event.Event.TheVariants as event
use Rattle.m2_script.specs.m2_center.m2_turn.m2_handshake.m2_frame.Frame.{Parts}
use Rattle.m2_script.specs.m2_center.m2_turn.m2_handshake.m2_frame.Reading.{whole}
use Rattle.m2_script.specs.m2_center.m2_record.Framing.{AnswersFront}
use Rattle.m2_exact.proofs.Asking.{AskAlike, ask_alike, same_grants}
use Rattle.m2_exact.proofs.Cores as cores
use Rattle.m2_exact.proofs.Fronts as fronts
use Rattle.m2_exact.proofs.Plain.{none}
use Rattle.m2_exact.specs.Cores.{roomless, roomless_feed}
use Rattle.m2_exact.specs.Holding.{AreAlone}

-- the message that says this
abbrev of_content : Content → Message
of_content m = record { header = m.header; front = record { bytes = m.front }; middle = record { bytes = m.middle }; tail = record { bytes = m.tail } }

-- ---- what was found at the front

-- a size was asked for, with this answer
record HasAnswered (t : Throttled) (n : ℕ) (one : CoreNext) (c new : CoreNow) : Type 0 where
  pub answer : More
  pub is : one ≡ granted_next answer
  pub asks : AsksPeer answer n t.throttles t.before t.behind c.live.granted new.live.granted
  pub only : new ≡ record c { live = after_asked answer new.live.granted c.live }

is_asked : (t : Throttled) (n : ℕ) (one : CoreNext) (c new : CoreNow) → IsNext t one (asks n) c new → HasAnswered t n one c new
is_asked t n next.Granted c new h = record { answer = more.Whole; is = refl; asks = h.asks; only = h.only }
is_asked t n (next.Full stage held) c new h = record { answer = more.Full stage held; is = refl; asks = h.asks; only = h.only }
is_asked t n (next.Again stage seen now) c new h = record { answer = more.Again stage seen now; is = refl; asks = h.asks; only = h.only }
is_asked t n one c new h = absurd h

is_passed : (t : Throttled) (one : CoreNext) (c new : CoreNow) → IsNext t one (tells heard.Nothing) c new → (one ≡ next.Passed) × HasPassed c new
is_passed t next.Passed c new h = (refl, h)
is_passed t one c new h = absurd h

is_stamped : (t : Throttled) (k : Keepalive) (one : CoreNext) (c new : CoreNow) → one ≢ next.NoMemory → IsNext t one (tells (heard.Stamp k)) c new → (one ≡ next.Passed) × HasStamped k c new
is_stamped t k next.Passed c new m h = (refl, h)
is_stamped t k next.NoMemory c new m h = absurd (m refl)
is_stamped t k one c new m h = absurd h

is_counted : (t : Throttled) (n : ℕ) (one : CoreNext) (c new : CoreNow) → IsNext t one (tells (heard.Acknowledges n)) c new → (one ≡ next.Acked n) × Counts n c new
is_counted t n (next.Acked number) c new (is, h) = (ap (λ (m : ℕ). next.Acked m) is, h)
is_counted t n one c new h = absurd h

is_accepted : (t : Throttled) (n : ℕ) (one : CoreNext) (c new : CoreNow) → one ≢ next.NoMemory → IsNext t one (tells (heard.Brings n)) c new → (a : CoreAccepted) × (one ≡ next.Accepted a) × Accepts a c new
is_accepted t n (next.Accepted a) c new m (is, h) = (a, refl, h)
is_accepted t n next.NoMemory c new m h = absurd (m refl)
is_accepted t n one c new m h = absurd h

is_reset : (t : Throttled) (mark : Bool) (one : CoreNext) (c new : CoreNow) → IsNext t one (tells (heard.Resets mark)) c new → (one ≡ next.Resets mark) × (new ≡ c)
is_reset t mark (next.Resets full) c new (is, h, same) = (ap (λ (b : Bool). next.Resets b) is, same)
is_reset t mark one c new h = absurd h

is_fault : (t : Throttled) (why : WireFault) (one : CoreNext) (c new : CoreNow) → IsNext t one (tells (heard.Fault why)) c new → (one ≡ next.Fault why) × Closes c new
is_fault t why (next.Fault cause) c new (is, h) = (ap (λ (f : WireFault). next.Fault f) is, h)
is_fault t why one c new h = absurd h

-- ---- what that leaves

-- answers of which the same is told, and cores that are alike
pub record Agree (one other : CoreNext) (new behind : CoreNow) : Type 0 where
  pub answers : one ≡ other
  pub cores : roomless new ≡ roomless behind

granted_roomless : (x : Option FeedNow) → option_map roomless_feed (granted_feed x) ≡ granted_feed (option_map roomless_feed x)
granted_roomless (Some v) = refl
granted_roomless None = refl

module _ (c d new behind : CoreNow) (like : roomless c ≡ roomless d) where
  feeds : option_map roomless_feed c.live.feed ≡ option_map roomless_feed d.live.feed
  feeds = ap (λ (k : CoreNow). k.live.feed) like

  stayed : new ≡ c → behind ≡ d → roomless new ≡ roomless behind
  stayed h k = ap roomless h ∙ like ∙ sym (ap roomless k)

  asked : (a : More) (g k : PeerGrants) → g ≡ k → new ≡ record c { live = after_asked a g c.live } → behind ≡ record d { live = after_asked a k d.live } → roomless new ≡ roomless behind
  asked a g k same h l = ap roomless h ∙ by a ∙ sym (ap roomless l)
    where
      by : (a : More) → roomless (record c { live = after_asked a g c.live }) ≡ roomless (record d { live = after_asked a k d.live })
      by more.Whole =
          ap (λ (x : Option FeedNow). record c { live = record c.live { feed = x; granted = g } }) (granted_roomless c.live.feed)
          ∙ ap (λ (x : CoreNow). record x { live = record x.live { feed = granted_feed x.live.feed; granted = g } }) like
          ∙ ap (λ (x : PeerGrants). record d { live = record d.live { feed = granted_feed (option_map roomless_feed d.live.feed); granted = x } }) same
          ∙ sym (ap (λ (x : Option FeedNow). record d { live = record d.live { feed = x; granted = k } }) (granted_roomless d.live.feed))
      by (more.Full stage out) =
          ap (λ (x : CoreNow). record x { live = record x.live { granted = g } }) like ∙ ap (λ (x : PeerGrants). record (roomless d) { live = record (roomless d).live { granted = x } }) same
      by (more.Again stage seen now) =
          ap (λ (x : CoreNow). record x { live = record x.live { granted = g } }) like ∙ ap (λ (x : PeerGrants). record (roomless d) { live = record (roomless d).live { granted = x } }) same

  passed : option_map roomless_feed new.live.feed ≡ option_map roomless_feed behind.live.feed → new ≡ record c { live = passed_live new.live.feed c.live } →
      behind ≡ record d { live = passed_live behind.live.feed d.live } → roomless new ≡ roomless behind
  passed same h k =
      ap roomless h
      ∙ ap (λ (x : Option FeedNow). record c { live = passed_live x c.live }) same
      ∙ ap (λ (x : CoreNow). record x { live = passed_live (option_map roomless_feed behind.live.feed) x.live }) like
      ∙ sym (ap roomless k)

  has_passed : HasPassed c new → HasPassed d behind → roomless new ≡ roomless behind
  has_passed h k =
      passed (fronts.passes_item h.passes.item k.passes.item c.live.feed d.live.feed new.live.feed behind.live.feed feeds h.passes.passes k.passes.passes) h.only k.only

  has_stamped : (k : Keepalive) → HasStamped k c new → HasStamped k d behind → roomless new ≡ roomless behind
  has_stamped k h g = passed (by _ _ c.live.feed d.live.feed new.live.feed behind.live.feed feeds h.stamps g.stamps) h.only g.only
    where
      by : (h g : Hearer) (v w x y : Option FeedNow) → option_map roomless_feed v ≡ option_map roomless_feed w → StampsFeed h k v x → StampsFeed g k w y →
          option_map roomless_feed x ≡ option_map roomless_feed y
      by h g (Some v) (Some w) (Some x) (Some y) same p q = ap (λ (z : FeedNow). Some z) (fronts.stamps_feed v w x y k (some_same (roomless_feed v) (roomless_feed w) same) p.1 q.1)
      by h g (Some v) (Some w) (Some x) None same p q = absurd q
      by h g (Some v) (Some w) None y same p q = absurd p
      by h g (Some v) None x y same p q = absurd q
      by h g None w x y same p q = absurd p

  pub counted : (n : ℕ) → Counts n c new → Counts n d behind → roomless new ≡ roomless behind
  counted n h k = ap roomless h.only ∙ ap (λ (x : CoreNow). record x { live = after_counted n x.live }) like ∙ sym (ap roomless k.only)

  closed : Closes c new → Closes d behind → roomless new ≡ roomless behind
  closed h k =
      ap roomless h.only
      ∙ ap (λ (l : LiveNow). record c { live = l }) (cores.tells_seen none (Some (event.Faulted (is_waiting c.live))) c.live)
      ∙ ap (λ (x : CoreNow). record x { live = after_fault x.live }) like
      ∙ sym (ap (λ (l : LiveNow). record d { live = l }) (cores.tells_seen none (Some (event.Faulted (is_waiting d.live))) d.live))
      ∙ sym (ap roomless k.only)

  -- ---- a message

  module _ (a b : CoreAccepted) (h : Accepts a c new) (k : Accepts b d behind) where
    same_content : content_of a.message ≡ content_of b.message
    same_content =
        h.moves.message
        ∙ ap (λ (f : Parts). message_in f) (fronts.frames_one h.moves.frame k.moves.frame c.live.feed d.live.feed new.live.feed behind.live.feed feeds h.moves.passes k.moves.passes)
        ∙ sym k.moves.message

    same_number : a.number ≡ b.number
    same_number = h.number ∙ ap (λ (x : CoreNow). x.live.last + 1) like ∙ sym k.number

    same_key : a.key ≡ b.key
    same_key = h.key ∙ ap (λ (x : CoreNow). key_of x.facts (content_of a.message)) like ∙ ap (λ (m : Content). key_of d.facts m) same_content ∙ sym k.key

    same_held : a.grants ≡ b.grants
    same_held = sym h.grants ∙ ap (λ (x : CoreNow). x.live.granted) like ∙ k.grants

    same_accepted : a ≡ b
    same_accepted =
        ap (λ (n : ℕ). record a { number = n }) same_number
        ∙ ap (λ (n : ℕ). record a { number = b.number; life = n }) (h.life ∙ ap (λ (x : CoreNow). x.live.life) like ∙ sym k.life)
        ∙ ap (λ (key : Key). record a { number = b.number; life = b.life; key = key }) same_key
        ∙ ap (λ (g : PeerGrants). record a { number = b.number; life = b.life; key = b.key; grants = g }) same_held
        ∙ ap (λ (m : Content). record b { message = of_content m }) same_content

    accepted : roomless new ≡ roomless behind
    accepted =
        ap roomless h.only
        ∙ ap (λ (x : Option FeedNow). record c { live = accepted_live a.number x c.live; owes = true })
        (fronts.passes_item (whole h.moves.frame) (whole k.moves.frame) c.live.feed d.live.feed new.live.feed behind.live.feed feeds h.moves.passes k.moves.passes)
        ∙ ap (λ (n : ℕ). record c { live = accepted_live n (option_map roomless_feed behind.live.feed) c.live; owes = true }) same_number
        ∙ ap (λ (x : CoreNow). record x { live = accepted_live b.number (option_map roomless_feed behind.live.feed) x.live; owes = true }) like
        ∙ sym (ap roomless k.only)

  -- ---- a reset that is obeyed

  pub obeyed : (full : Bool) → HasObeyed full c new → HasObeyed full d behind → roomless new ≡ roomless behind
  obeyed full h k =
      let e = event.GotReset full in
      ap roomless h.only
      ∙ ap (λ (l : LiveNow). record c { live = record l { feed = option_map roomless_feed l.feed } }) h.obeys.live
      ∙ ap (λ (l : LiveNow). record c { live = l }) (cores.tells_seen none (Some e) (live_with h.obeys.passed c.live))
      ∙ ap (λ (x : Option FeedNow). record c { live = effects.tells e (live_with x c.live) })
      (cores.passes_alike none c.live.feed d.live.feed h.obeys.passed k.obeys.passed feeds h.obeys.passes k.obeys.passes)
      ∙ ap (λ (x : CoreNow). record x { live = effects.tells e (live_with (option_map roomless_feed k.obeys.passed) x.live) }) like
      ∙ sym (ap (λ (l : LiveNow). record d { live = l }) (cores.tells_seen none (Some e) (live_with k.obeys.passed d.live)))
      ∙ sym (ap (λ (l : LiveNow). record d { live = record l { feed = option_map roomless_feed l.feed } }) k.obeys.live)
      ∙ sym (ap roomless k.only)

-- ---- all of them

-- throttles that are alone, and alike but for what passes forget
pub record LikeThrottles (t u : Throttled) : Type 0 where
  pub alone : AreAlone (places t.throttles)
  pub throttles : t.throttles ≡ u.throttles
  pub word : (gate : Gate) → words t.before gate ≡ words u.before gate

module _ (t u : Throttled) (p : LikeThrottles t u) (one other : CoreNext) (m : one ≢ next.NoMemory) (k : other ≢ next.NoMemory) (c d new behind : CoreNow) (like : roomless c ≡ roomless d) where
  of_size : (n : ℕ) → IsNext t one (asks n) c new → IsNext u other (asks n) d behind → Agree one other new behind
  of_size n h g = record {
    answers = a.is ∙ ap granted_next alike.answers ∙ sym b.is;
    cores = asked c d new behind like b.answer new.live.granted behind.live.granted grants
        (a.only ∙ ap (λ (x : More). record c { live = after_asked x new.live.granted c.live }) alike.answers) b.only;
  }
    where
      a : HasAnswered t n one c new
      a = is_asked t n one c new h

      b : HasAnswered u n other d behind
      b = is_asked u n other d behind g

      held : c.live.granted ≡ d.live.granted
      held = ap (λ (x : CoreNow). x.live.granted) like

      -- what is asked there, of the peer of this type
      other_asks : AsksPeer b.answer n u.throttles u.before u.behind c.live.granted behind.live.granted
      other_asks = subst (λ (x : PeerGrants). AsksPeer b.answer n u.throttles u.before u.behind x behind.live.granted) (sym held) b.asks

      alike : AskAlike a.answer b.answer (grant_at new.live.granted.grants) (grant_at behind.live.granted.grants)
      alike =
          ask_alike n (by_stage c.live.granted.peer (throttle_in t.throttles)) (by_stage c.live.granted.peer (throttle_in u.throttles)) (λ s. p.alone (gate_of c.live.granted.peer s))
          (by_stage c.live.granted.peer (pass_in t.before)) (by_stage c.live.granted.peer (pass_in t.behind)) (by_stage c.live.granted.peer (pass_in u.before)) (by_stage c.live.granted.peer (pass_in u.behind))
          (grant_at c.live.granted.grants) (grant_at new.live.granted.grants) (grant_at c.live.granted.grants) (grant_at behind.live.granted.grants)
          (λ s. ap (λ (x : Throttles). throttle_in x (gate_of c.live.granted.peer s)) p.throttles) (λ s. p.word (gate_of c.live.granted.peer s)) (λ s. refl) a.answer b.answer a.asks.asks other_asks.asks

      grants : new.live.granted ≡ behind.live.granted
      grants = same_grants new.live.granted behind.live.granted (a.asks.peer ∙ sym other_asks.peer) alike.each

  of_front : (f : FrontHeard) → IsNext t one f c new → IsNext u other f d behind → Agree one other new behind
  of_front rests h g = by one other h g
    where
      still : (one : CoreNext) → IsNext t one rests c new → (one ≡ next.Rests) × (new ≡ c)
      still next.Rests h = (refl, h)
      still one h = absurd h

      rested : (other : CoreNext) → IsNext u other rests d behind → (other ≡ next.Rests) × (behind ≡ d)
      rested next.Rests h = (refl, h)
      rested one h = absurd h

      by : (one other : CoreNext) → IsNext t one rests c new → IsNext u other rests d behind → Agree one other new behind
      by one other h g =
          let a = still one h in
          let b = rested other g in
          record { answers = a.0 ∙ sym b.0; cores = stayed c d new behind like a.1 b.1 }
  of_front (asks n) h g = of_size n h g
  of_front (tells heard.Nothing) h g =
      let a = is_passed t one c new h in
      let b = is_passed u other d behind g in
      record { answers = a.0 ∙ sym b.0; cores = has_passed c d new behind like a.1 b.1 }
  of_front (tells (heard.Stamp s)) h g =
      let a = is_stamped t s one c new m h in
      let b = is_stamped u s other d behind k g in
      record { answers = a.0 ∙ sym b.0; cores = has_stamped c d new behind like s a.1 b.1 }
  of_front (tells (heard.Acknowledges n)) h g =
      let a = is_counted t n one c new h in
      let b = is_counted u n other d behind g in
      record { answers = a.0 ∙ sym b.0; cores = counted c d new behind like n a.1 b.1 }
  of_front (tells (heard.Brings n)) h g =
      let (a, is, accepts) = is_accepted t n one c new m h in
      let (b, are, takes) = is_accepted u n other d behind k g in
      record {
        answers = is ∙ ap (λ (x : CoreAccepted). next.Accepted x) (same_accepted c d new behind like a b accepts takes) ∙ sym are;
        cores = accepted c d new behind like a b accepts takes;
      }
  of_front (tells (heard.Resets mark)) h g =
      let a = is_reset t mark one c new h in
      let b = is_reset u mark other d behind g in
      record { answers = a.0 ∙ sym b.0; cores = stayed c d new behind like a.1 b.1 }
  of_front (tells (heard.Fault why)) h g =
      let a = is_fault t why one c new h in
      let b = is_fault u why other d behind g in
      record { answers = a.0 ∙ sym b.0; cores = closed c d new behind like a.1 b.1 }

  pub at_front : AnswersFront t one c new → AnswersFront u other d behind → Agree one other new behind
  at_front h g = by c.live.feed d.live.feed (ap (λ (x : CoreNow). x.live.feed) like) h g
    where
      by : (x y : Option FeedNow) → option_map roomless_feed x ≡ option_map roomless_feed y → OnFeedNow x (λ v. IsNext t one (heard_by c v.reading) c new) →
          OnFeedNow y (λ v. IsNext u other (heard_by d v.reading) d behind) → Agree one other new behind
      by (Some v) (Some w) same h g =
          let read = ap (λ (z : FeedNow). z.reading) (some_same (roomless_feed v) (roomless_feed w) same) in
          of_front (heard_by c v.reading) h
          (subst (λ (f : FrontHeard). IsNext u other f d behind) (sym (ap (λ (x : CoreNow). heard_by x v.reading) like ∙ ap (λ (r : Reading). heard_by d r) read)) g)
      by (Some v) None same h g = absurd g
      by None y same h g = absurd h
