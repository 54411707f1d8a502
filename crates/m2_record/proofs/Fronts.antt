-- What the core's answer of the front of its feed says of a record.
use Rattle.std.proofs.Common.{◌≡◌, ℕ, ◌&&◌, ◌||◌, not, if◌then◌else◌, Bool, true, false, Option, Some, None, refl, sym, ap, subst, ◌∙◌}
use Rattle.std.specs.Option.{is_none, is_some}
use Rattle.m2_core.specs.LiveNow.{OnFeedNow}
use Rattle.m2_core.specs.OnFeed.{PassesItem, granted_feed}
use Rattle.m2_core.specs.declared.accepting.CoreAccepted.{CoreAccepted}
use Rattle.m2_core.specs.declared.next.CoreNext.{CoreNext}
use Rattle.m2_core.specs.declared.next.CoreNext.TheVariants as next
use Rattle.m2_core.specs.Accepting.{Accepts}
use Rattle.m2_core.specs.Agrees.{Stays}
use Rattle.m2_core.specs.CoreNow.{CoreNow}
use Rattle.m2_core.specs.Front.{FrontHeard, asks, before_front, front_in, front_of, heard_by, hearer_of, rests, resumption_at, tells}
use Rattle.m2_core.specs.Granting.{HasAsked, Throttled}
use Rattle.m2_shared.specs.declared.more.More.TheVariants as more
use Rattle.m2_shared.specs.declared.stage.Stage.{Stage}
use Rattle.m2_core.specs.Next.{Closes, Counts, IsNext, IsResetHeard}
use Rattle.m2_core.specs.Passing.{HasPassed, HasStamped, StampsFeed}
use Rattle.m2_handshake.specs.m2_control.declared.keepalive.Keepalive.{Keepalive}
use Rattle.m2_feed.specs.FeedNow.{FeedNow, Reading, framing, is_framing, shaking}
use Rattle.m2_handshake.specs.m2_frame.Reading.{Front, Item, bad, judge, owed_at, start, text}
use Rattle.m2_feed.specs.declared.wire_fault.WireFault.{WireFault}
use Rattle.m2_feed.specs.declared.frame_heard.FrameHeard.{FrameHeard}
use Rattle.m2_feed.specs.declared.frame_heard.FrameHeard.TheVariants as heard
use Rattle.m2_feed.specs.declared.hearer.Hearer.{Hearer}
use Rattle.m2_session.specs.declared.session.Phase.TheVariants.{Ready}
use Rattle.m2_session.specs.Phases as phase
use Rattle.m2_record.specs.Due.{has_frame, is_start}
use Rattle.m2_record.specs.Due as due
use Rattle.m2_record.specs.Framing.{AnswersFront, IsDone}
use Rattle.m2_record.specs.RecordNow.{RecordNow}
use Rattle.m2_record.proofs.Standing.{SameEnd}
use Rattle.m2_bytes.proofs.m2_lemmas.Booleans.{false_isnt_true}

-- ---- calls of the core that make no entry

-- the replay stays, and so do the feed's end and the queue
pub record MakesNone (before after : CoreNow) : Type 0 where
  pub facts : after.facts ≡ before.facts
  pub end : SameEnd before.live.feed after.live.feed
  pub queue : after.live.out ≡ before.live.out
  pub top : after.top ≡ before.top
  pub stays : Stays before after

pub end-stays : (x : Option FeedNow) → SameEnd x x
end-stays (Some v) = refl
end-stays None = tt

pub same : (b c : CoreNow) → c ≡ b → MakesNone b c
same b c e = subst (MakesNone b) (sym e) (record { facts = refl; end = end-stays b.live.feed; queue = refl; top = refl; stays = λ s a. a })

pub end-passed : (i : Item) (x y : Option FeedNow) → PassesItem i x y → SameEnd x y
end-passed i (Some v) (Some w) p = ap (λ (z : FeedNow). z.end) p.1
end-passed i (Some v) None p = absurd p
end-passed i None y p = absurd p

end-stamped : (h : Hearer) (k : Keepalive) (x y : Option FeedNow) → StampsFeed h k x y → SameEnd x y
end-stamped h k (Some v) (Some w) p = ap (λ (z : FeedNow). z.end) p.1.1
end-stamped h k (Some v) None p = absurd p
end-stamped h k None y p = absurd p

end-granted : (x : Option FeedNow) → SameEnd x (granted_feed x)
end-granted (Some v) = refl
end-granted None = tt

passes : (b c : CoreNow) → HasPassed b c → MakesNone b c
passes b c h = record {
  facts = ap (λ (z : CoreNow). z.facts) h.only;
  end = end-passed h.passes.item b.live.feed c.live.feed h.passes.passes;
  queue = ap (λ (z : CoreNow). z.live.out) h.only;
  top = ap (λ (z : CoreNow). z.top) h.only;
  stays = h.stays;
}

stamps : (k : Keepalive) (b c : CoreNow) → HasStamped k b c → MakesNone b c
stamps k b c h = record {
  facts = ap (λ (z : CoreNow). z.facts) h.only;
  end = end-stamped (hearer_of b) k b.live.feed c.live.feed h.stamps;
  queue = ap (λ (z : CoreNow). z.live.out) h.only;
  top = ap (λ (z : CoreNow). z.top) h.only;
  stays = h.stays;
}

grants : (t : Throttled) (n : ℕ) (b c : CoreNow) → HasAsked more.Whole t n b c → MakesNone b c
grants t n b c h = record {
  facts = ap (λ (z : CoreNow). z.facts) h.only;
  end = subst (λ (z : CoreNow). SameEnd b.live.feed z.live.feed) (sym h.only) (end-granted b.live.feed);
  queue = ap (λ (z : CoreNow). z.live.out) h.only;
  top = ap (λ (z : CoreNow). z.top) h.only;
  stays = h.stays;
}

end-same : (x : Option FeedNow) → SameEnd x x
end-same (Some v) = refl
end-same None = tt

waits-full : (t : Throttled) (n : ℕ) (stage : Stage) (out : ℕ) (b c : CoreNow) → HasAsked (more.Full stage out) t n b c → MakesNone b c
waits-full t n stage out b c h = record {
  facts = ap (λ (z : CoreNow). z.facts) h.only;
  end = subst (λ (z : CoreNow). SameEnd b.live.feed z.live.feed) (sym h.only) (end-same b.live.feed);
  queue = ap (λ (z : CoreNow). z.live.out) h.only;
  top = ap (λ (z : CoreNow). z.top) h.only;
  stays = h.stays;
}

waits-again : (t : Throttled) (n : ℕ) (stage : Stage) (seen now : ℕ) (b c : CoreNow) → HasAsked (more.Again stage seen now) t n b c → MakesNone b c
waits-again t n stage seen now b c h = record {
  facts = ap (λ (z : CoreNow). z.facts) h.only;
  end = subst (λ (z : CoreNow). SameEnd b.live.feed z.live.feed) (sym h.only) (end-same b.live.feed);
  queue = ap (λ (z : CoreNow). z.live.out) h.only;
  top = ap (λ (z : CoreNow). z.top) h.only;
  stays = h.stays;
}

-- ---- what an answer says

-- whatever the feed is
pub on-front : {A : Type 0} {P : FeedNow → Type 0} (o : Option FeedNow) → ((v : FeedNow) → P v → A) → OnFeedNow o P → A
on-front (Some v) f h = f v h
on-front None f h = absurd h

module _ (t : Throttled) (b c : CoreNow) where
  passed-says : (x : FrontHeard) → IsNext t next.Passed x b c → MakesNone b c
  passed-says (tells heard.Nothing) h = passes b c h
  passed-says (tells (heard.Stamp k)) h = stamps k b c h
  passed-says _ h = absurd h

  granted-says : (x : FrontHeard) → IsNext t next.Granted x b c → MakesNone b c
  granted-says (asks n) h = grants t n b c h
  granted-says _ h = absurd h

  full-says : (stage : Stage) (out : ℕ) (x : FrontHeard) → IsNext t (next.Full stage out) x b c → MakesNone b c
  full-says stage out (asks n) h = waits-full t n stage out b c h
  full-says stage out _ h = absurd h

  again-says : (stage : Stage) (seen now : ℕ) (x : FrontHeard) → IsNext t (next.Again stage seen now) x b c → MakesNone b c
  again-says stage seen now (asks n) h = waits-again t n stage seen now b c h
  again-says stage seen now _ h = absurd h

  memory-says : (x : FrontHeard) → IsNext t next.NoMemory x b c → c ≡ b
  memory-says (tells (heard.Stamp k)) h = h
  memory-says (tells (heard.Brings n)) h = h
  memory-says _ h = absurd h

  acked-says : (number : ℕ) (x : FrontHeard) → IsNext t (next.Acked number) x b c → Counts number b c
  acked-says number (tells (heard.Acknowledges n)) h = subst (λ m. Counts m b c) (sym h.0) h.1
  acked-says number _ h = absurd h

  accepted-says : (a : CoreAccepted) (x : FrontHeard) → IsNext t (next.Accepted a) x b c → Accepts a b c
  accepted-says a (tells (heard.Brings n)) h = h.1
  accepted-says a _ h = absurd h

  reset-says : (full : Bool) (x : FrontHeard) → IsNext t (next.Resets full) x b c → (c ≡ b) × IsResetHeard full b
  reset-says full (tells (heard.Resets mark)) h = (h.2, h.1)
  reset-says full _ h = absurd h

  fault-says : (cause : WireFault) (x : FrontHeard) → IsNext t (next.Fault cause) x b c → Closes b c
  fault-says cause (tells (heard.Fault why)) h = h.1
  fault-says cause _ h = absurd h

  rests-leaves : (x : FrontHeard) → IsNext t next.Rests x b c → c ≡ b
  rests-leaves rests h = h
  rests-leaves (asks n) h = absurd h
  rests-leaves (tells x) h = absurd h

  rests-says : (x : FrontHeard) → IsNext t next.Rests x b c → x ≡ rests
  rests-says rests h = refl
  rests-says (asks n) h = absurd h
  rests-says (tells x) h = absurd h

  pub rests-so : AnswersFront t next.Rests b c → c ≡ b
  rests-so h = on-front b.live.feed (λ v. rests-leaves (heard_by b v.reading)) h

  pub passed-so : AnswersFront t next.Passed b c → MakesNone b c
  passed-so h = on-front b.live.feed (λ v. passed-says (heard_by b v.reading)) h

  pub granted-so : AnswersFront t next.Granted b c → MakesNone b c
  granted-so h = on-front b.live.feed (λ v. granted-says (heard_by b v.reading)) h

  pub full-so : (stage : Stage) (out : ℕ) → AnswersFront t (next.Full stage out) b c → MakesNone b c
  full-so stage out h = on-front b.live.feed (λ v. full-says stage out (heard_by b v.reading)) h

  pub again-so : (stage : Stage) (seen now : ℕ) → AnswersFront t (next.Again stage seen now) b c → MakesNone b c
  again-so stage seen now h = on-front b.live.feed (λ v. again-says stage seen now (heard_by b v.reading)) h

  pub memory-so : AnswersFront t next.NoMemory b c → c ≡ b
  memory-so h = on-front b.live.feed (λ v. memory-says (heard_by b v.reading)) h

  pub acked-so : (number : ℕ) → AnswersFront t (next.Acked number) b c → Counts number b c
  acked-so number h = on-front b.live.feed (λ v. acked-says number (heard_by b v.reading)) h

  pub accepted-so : (a : CoreAccepted) → AnswersFront t (next.Accepted a) b c → Accepts a b c
  accepted-so a h = on-front b.live.feed (λ v. accepted-says a (heard_by b v.reading)) h

  pub reset-so : (full : Bool) → AnswersFront t (next.Resets full) b c → (c ≡ b) × IsResetHeard full b
  reset-so full h = on-front b.live.feed (λ v. reset-says full (heard_by b v.reading)) h

  pub fault-so : (cause : WireFault) → AnswersFront t (next.Fault cause) b c → Closes b c
  fault-so cause h = on-front b.live.feed (λ v. fault-says cause (heard_by b v.reading)) h

  -- no number is drawn
  pub top-so : (x : CoreNext) → AnswersFront t x b c → c.top ≡ b.top
  top-so next.Rests h = ap (λ (z : CoreNow). z.top) (rests-so h)
  top-so next.Passed h = (passed-so h).top
  top-so next.Granted h = (granted-so h).top
  top-so (next.Acked number) h = ap (λ (z : CoreNow). z.top) (acked-so number h).only
  top-so (next.Accepted a) h = ap (λ (z : CoreNow). z.top) (accepted-so a h).only
  top-so (next.Resets full) h = ap (λ (z : CoreNow). z.top) (reset-so full h).0
  top-so (next.Full stage out) h = (full-so stage out h).top
  top-so (next.Again stage seen now) h = (again-so stage seen now h).top
  top-so (next.Fault cause) h = ap (λ (z : CoreNow). z.top) (fault-so cause h).only
  top-so next.NoMemory h = ap (λ (z : CoreNow). z.top) (memory-so h)

-- ---- where the step is due, something is at the front

abbrev is-rests : FrontHeard → Bool
is-rests rests = true
is-rests (asks n) = false
is-rests (tells x) = false

never-rests : (b : Bool) (n : ℕ) (x : FrameHeard) → is-rests (if b then asks n else tells x) ≡ false
never-rests true n x = refl
never-rests false n x = refl

in-front : (h : Hearer) (o : Option ℕ) (f : Front) → front_in h o f ≡ rests → (is_none o && is_start f) ≡ true
in-front h (Some n) f e = absurd (false_isnt_true (sym (never-rests (phase.is h.phase Ready) n _) ∙ ap is-rests e))
in-front h None start e = refl
in-front h None (bad f) e = absurd (false_isnt_true (ap is-rests e))
in-front h None (text i len) e = absurd (false_isnt_true (ap is-rests e))

front-rests : (h : Hearer) (x : Reading) → is_framing x ≡ true → front_of h x ≡ rests → due.rests x ≡ true
front-rests h (framing rest granted) signed e = in-front h (owed_at rest granted) (judge rest) e
front-rests h (shaking s) signed e = absurd (false_isnt_true signed)

neither-says : (o : Option FrameHeard) (x : FrontHeard) → before_front o x ≡ rests → (is_some o ≡ false) × (x ≡ rests)
neither-says (Some says) x e = absurd (false_isnt_true (ap is-rests e))
neither-says None x e = (refl, e)

at-rest : (a b : Bool) → a ≡ true → b ≡ false → (not a || b) ≡ true → ⊥
at-rest true b p q e = false_isnt_true (sym q ∙ e)
at-rest false b p q e = false_isnt_true p

not-both : (c : CoreNow) (o : Option FeedNow) → (due.on_feed (λ v. not (due.rests v.reading)) o || is_some (resumption_at c)) ≡ true → OnFeedNow o (λ v. is_framing v.reading ≡ true) → OnFeedNow o (λ v. heard_by c v.reading ≡ rests) → ⊥
not-both c (Some v) frame signed e =
    let two = neither-says (resumption_at c) (front_of (hearer_of c) v.reading) e in
    at-rest (due.rests v.reading) (is_some (resumption_at c)) (front-rests (hearer_of c) v.reading signed two.1) two.0 frame
not-both c None frame signed e = absurd e

-- so the core doesn't answer that nothing is there
moves : (t : Throttled) (r : RecordNow) (c : CoreNow) → has_frame r ≡ true → OnFeedNow r.core.live.feed (λ v. is_framing v.reading ≡ true) → AnswersFront t next.Rests r.core c → ⊥
moves t r c frame signed h = not-both r.core r.core.live.feed frame signed (all-rest r.core.live.feed h)
  where
    all-rest : (o : Option FeedNow) → OnFeedNow o (λ v. IsNext t next.Rests (heard_by r.core v.reading) r.core c) → OnFeedNow o (λ v. heard_by r.core v.reading ≡ rests)
    all-rest (Some v) k = rests-says t r.core c (heard_by r.core v.reading) k
    all-rest None k = absurd k

pub is-done : (t : Throttled) (r : RecordNow) (c : CoreNow) (x : CoreNext) → has_frame r ≡ true → OnFeedNow r.core.live.feed (λ v. is_framing v.reading ≡ true) → AnswersFront t x r.core c → IsDone x
is-done t r c next.Rests frame signed h = moves t r c frame signed h
is-done t r c next.Passed frame signed h = tt
is-done t r c next.Granted frame signed h = tt
is-done t r c (next.Acked number) frame signed h = tt
is-done t r c (next.Accepted a) frame signed h = tt
is-done t r c (next.Resets full) frame signed h = tt
is-done t r c (next.Full stage out) frame signed h = tt
is-done t r c (next.Again stage seen now) frame signed h = tt
is-done t r c (next.Fault cause) frame signed h = tt
is-done t r c next.NoMemory frame signed h = tt
