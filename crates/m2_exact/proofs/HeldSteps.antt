-- What is held by a record, behind each of its steps.
use Rattle.std.proofs.Common.{◌≡◌, ◌&&◌, ℕ, ◌+◌, ◌-◌, if◌then◌else◌, List, [], ◌∷◌, Bool, true, false, Option, None, Some, Result, Ok, Err, refl, sym, subst, ◌∙◌, ap, arith, inr}
use Rattle.std.specs.Prelude.{◌≢◌, IfSome}
use Rattle.std.specs.Option.{is_some}
use Rattle.m2_dispatch.specs.declared.parcel.Parcel.{Parcel}
use Rattle.m2_dispatch.specs.m2_shared.Gates.{Gate, Keep, Return, Stay, held, nothing_held, places, words}
use Rattle.m2_dispatch.specs.m2_shared.declared.more.More.{More}
use Rattle.m2_dispatch.specs.m2_shared.declared.more.More.TheVariants as more
use Rattle.m2_dispatch.specs.m2_shared.declared.peer_grants.PeerGrants.{PeerGrants}
use Rattle.m2_dispatch.specs.m2_shared.declared.peer_type.PeerType.{PeerType}
use Rattle.m2_dispatch.specs.m2_shared.declared.throttles.TakePasses.{TakePasses}
use Rattle.m2_fabric.specs.declared.end.EndRead.{EndRead}
use Rattle.m2_fabric.specs.declared.end.EndRead.TheVariants as read
use Rattle.m2_fabric.specs.m2_bytes.declared.memory.NoMemory as memory
use Rattle.m2_fabric.proofs.m2_lemmas.Options.{some_same}
use Rattle.m2_script.proofs.m2_center.m2_turn.m2_core.Helds as helds
use Rattle.m2_script.proofs.m2_center.m2_turn.m2_core.Holding.{nothing_at}
use Rattle.m2_script.proofs.m2_center.m2_turn.m2_record.Arriving.{session-sound}
use Rattle.m2_script.specs.m2_center.m2_core.CoreNow.{CoreNow}
use Rattle.m2_script.specs.m2_center.m2_core.Counting.{CountsIf, to_count}
use Rattle.m2_script.specs.m2_center.m2_core.Front as front
use Rattle.m2_script.specs.m2_center.m2_core.Front.{FrontHeard, heard_by}
use Rattle.m2_script.specs.m2_center.m2_core.Granting.{Throttled, after_asked}
use Rattle.m2_script.specs.m2_center.m2_core.Hearing as hearing
use Rattle.m2_script.specs.m2_center.m2_core.LiveCalls.{live_with}
use Rattle.m2_script.specs.m2_center.m2_core.LiveHearing.{after_answer, resumed_by_answer}
use Rattle.m2_script.specs.m2_center.m2_core.LiveNow.{HoldsNothing, LiveNow, OnFeedNow, asked_in, asked_on, is_ready}
use Rattle.m2_script.specs.m2_center.m2_core.Next.{IsNext, IsResetHeard}
use Rattle.m2_script.specs.m2_center.m2_core.OnFeed.{granted_feed}
use Rattle.m2_script.specs.m2_center.m2_core.ToCompose.{text_on, text_rows, to_compose}
use Rattle.m2_script.specs.m2_center.m2_core.declared.accepting.CoreAccepted.{CoreAccepted}
use Rattle.m2_script.specs.m2_center.m2_core.declared.next.CoreNext.{CoreNext}
use Rattle.m2_script.specs.m2_center.m2_core.declared.next.CoreNext.TheVariants as next
use Rattle.m2_script.specs.m2_center.m2_core.declared.to_compose.CoreText.{CoreText}
use Rattle.m2_script.specs.m2_center.m2_core.declared.to_compose.CoreText.TheVariants as text
use Rattle.m2_script.specs.m2_center.m2_feed.Calls.{is_empty}
use Rattle.m2_script.specs.m2_center.m2_feed.FeedNow.{FeedNow, Reading, is_framing}
use Rattle.m2_script.specs.m2_center.m2_feed.Heard.{event_of}
use Rattle.m2_script.specs.m2_center.m2_feed.declared.answers.FeedWrite.{FeedWrite}
use Rattle.m2_script.specs.m2_center.m2_feed.declared.answers.FeedWrite.TheVariants as put
use Rattle.m2_script.specs.m2_center.m2_feed.declared.frame_heard.FrameHeard.TheVariants as said
use Rattle.m2_script.specs.m2_center.m2_feed.declared.heard.Heard.{Heard}
use Rattle.m2_script.specs.m2_center.m2_feed.declared.heard.Heard.TheVariants as answer
use Rattle.m2_script.specs.m2_center.m2_feed.declared.wire_fault.WireFault.{WireFault}
use Rattle.m2_script.specs.m2_center.m2_feed.m2_journal.Laws.{SessionIsSound}
use Rattle.m2_script.specs.m2_center.m2_feed.m2_journal.SideFacts.{SideFacts}
use Rattle.m2_script.specs.m2_center.m2_feed.m2_journal.declared.facts.PlanStep.{PlanStep}
use Rattle.m2_script.specs.m2_center.m2_feed.m2_journal.declared.facts.PlanStep.TheVariants as step
use Rattle.m2_script.specs.m2_center.m2_feed.m2_session.Phases as phases
use Rattle.m2_script.specs.m2_center.m2_feed.m2_session.Steps.{step_of}
use Rattle.m2_script.specs.m2_center.m2_feed.m2_session.Table.{first_that_holds}
use Rattle.m2_script.specs.m2_center.m2_feed.m2_session.declared.event.Event.TheVariants as event
use Rattle.m2_script.specs.m2_center.m2_feed.m2_session.declared.session.Phase.{Phase}
use Rattle.m2_script.specs.m2_center.m2_feed.m2_session.declared.session.Phase.TheVariants as phase
use Rattle.m2_script.specs.m2_center.m2_record.Calls.{Breaks, ClosesFor, ComposesAs, CountsResumption, GoesDown, HandsOut, IsSameButRoom, Shakes, Writes, all_granted, fault_put, granted_in, returned_for}
use Rattle.m2_script.specs.m2_center.m2_record.Due.{due_step, next_step}
use Rattle.m2_script.specs.m2_center.m2_record.Framing.{AnswersFront, Frames, Greets, WordsFramed, letter_of}
use Rattle.m2_script.specs.m2_center.m2_record.IsRecord.{IsRecord}
use Rattle.m2_script.specs.m2_center.m2_record.Reading.{CountsAnswer, EndsRead, Reads, answer_by, answer_heard, fault_read, faulted_or}
use Rattle.m2_script.specs.m2_center.m2_record.RecordNow.{RecordNow}
use Rattle.m2_script.specs.m2_center.m2_record.Stepping.{FindsNoMemory, HandsAs, PlansAs, StepsAs, StepsBy, Worked, answer_composed, answer_framed, answer_planned, answer_put, returned_planned}
use Rattle.m2_script.specs.m2_center.m2_record.declared.composing.Composed.{Composed}
use Rattle.m2_script.specs.m2_center.m2_record.declared.composing.Composed.TheVariants as composed
use Rattle.m2_script.specs.m2_center.m2_record.declared.due.Due.{Due}
use Rattle.m2_script.specs.m2_center.m2_record.declared.due.Due.TheVariants as due
use Rattle.m2_script.specs.m2_center.m2_record.declared.framing.Framed.{Framed}
use Rattle.m2_script.specs.m2_center.m2_record.declared.framing.Framed.TheVariants as framed
use Rattle.m2_script.specs.m2_center.m2_record.declared.stepped.Stepped.{Stepped}
use Rattle.m2_script.specs.m2_center.m2_record.declared.stepped.Stepped.TheVariants as stepped
use Rattle.m2_script.specs.m2_center.m2_turn.m2_handshake.declared.answer.HalfStep.{HalfStep}
use Rattle.m2_script.specs.m2_center.m2_turn.m2_handshake.declared.answer.HalfStep.TheVariants as half
use Rattle.m2_exact.proofs.HeldCores as cores
use Rattle.m2_exact.proofs.HeldSums as sums
use Rattle.m2_exact.proofs.HeldSums.{Follows}
use Rattle.m2_exact.proofs.Leaving as leaving
use Rattle.m2_exact.proofs.Steps as steps
use Rattle.m2_exact.specs.Holding.{AreAlone, HoldsRightly, IsHeldRightly, held_in_record}

-- ---- words

-- so much less is held at each gate, rightly
pub record Less (n : Gate → ℕ) (old new : RecordNow) : Type 0 where
  pub amount : (gate : Gate) → held_in_record gate new + n gate ≡ held_in_record gate old
  pub right : HoldsRightly new

abbrev pub nothing : Gate → ℕ
nothing gate = 0

-- a record that is as it was, but for what isn't held by it
pub record IsLike (old new : RecordNow) : Type 0 where
  pub facts : new.core.facts ≡ old.core.facts
  pub granted : new.core.live.granted ≡ old.core.live.granted
  pub session : new.core.live.session ≡ old.core.live.session
  pub asked : is_some (asked_on old.core.live.feed) ≡ true → is_some (asked_on new.core.live.feed) ≡ true
  pub parcels : new.parcels ≡ old.parcels

-- a record as it stands, in other words
pub by : (P : RecordNow → Type 0) (new x : RecordNow) → new ≡ x → P x → P new
by P new x e p = subst P (sym e) p

-- the parcels have as much
abbrev pub GrantAlike : RecordNow → RecordNow → Type 0
GrantAlike old new = (gate : Gate) → all_granted new.parcels gate ≡ all_granted old.parcels gate

pub grant_alike : (old new : RecordNow) → new.parcels ≡ old.parcels → GrantAlike old new
grant_alike old new e gate = ap (λ (xs : List Parcel). all_granted xs gate) e

pub no_less : (old new : RecordNow) → new.core.live.granted ≡ old.core.live.granted → GrantAlike old new → (gate : Gate) → held_in_record gate new + 0 ≡ held_in_record gate old
no_less old new g p gate = let e = ap (λ (x : PeerGrants). held x gate) g in let q = p gate in omega (arith, e, q)

pub like : (old new : RecordNow) → HoldsRightly old → IsLike old new → Less nothing old new
like old new r h = record {
  amount = no_less old new h.granted (grant_alike old new h.parcels);
  right = subst (λ (f : SideFacts). IsHeldRightly f new.core.live) (sym h.facts) (cores.kept old.core.facts old.core.live new.core.live h.granted h.session h.asked r);
}

itself : (old : RecordNow) → IsLike old old
itself old = record { facts = refl; granted = refl; session = refl; asked = λ e. e; parcels = refl }

pub same : (old new : RecordNow) → HoldsRightly old → new ≡ old → Less nothing old new
same old new r e = by (Less nothing old) new old e (like old old r (itself old))

pub same_but_room : (old new : RecordNow) → HoldsRightly old → IsSameButRoom old new → Less nothing old new
same_but_room old new r e = by (Less nothing old) new _ e (record { amount = λ gate. omega arith; right = r })

-- nothing is held for a feed any more
pub drops : (old new : RecordNow) (peer : PeerType) → new.core.live.granted ≡ nothing_held peer → GrantAlike old new → Less (held old.core.live.granted) old new
drops old new peer none p = record {
  amount = λ gate. (let e = ap (λ (x : PeerGrants). held x gate) none in let zero = nothing_at peer gate in let q = p gate in omega (arith, e, zero, q));
  right = cores.none_right new.core.facts new.core.live (cores.none_of new.core.live.granted peer none);
}

-- less behind as much
pub then_less : (n : Gate → ℕ) (old mid new : RecordNow) → Less nothing old mid → Less n mid new → Less n old new
then_less n old mid new h g = record { amount = λ gate. (let one = h.amount gate in let other = g.amount gate in omega (arith, one, other)); right = g.right }

-- what was held, of grants that are the same
less_held : (g k : PeerGrants) (old new : RecordNow) → g ≡ k → Less (held g) old new → Less (held k) old new
less_held g k old new e h = subst (λ (x : PeerGrants). Less (held x) old new) e h

-- ---- the session is given up, or the feed closed

pub breaks : (now : ℕ) (old new : RecordNow) → Breaks now old new → Less (held old.core.live.granted) old new
breaks now old new h =
    drops old new old.core.live.granted.peer (ap (λ (r : RecordNow). r.core.live.granted) h ∙ helds.drops old.core.live)
    (λ gate. ap (λ (r : RecordNow). all_granted r.parcels gate) h ∙ sums.told_behind gate old.parcels old.place _ _)

pub goes_down : (planned : Bool) (old new : RecordNow) → GoesDown planned old new → Less (held old.core.live.granted) old new
goes_down planned old new h =
    drops old new old.core.live.granted.peer (ap (λ (r : RecordNow). r.core.live.granted) h ∙ cores.down_drops old.core.live)
    (λ gate. ap (λ (r : RecordNow). all_granted r.parcels gate) h
    ∙ sums.told_behind gate old.parcels old.place (step_of old.core.live.session event.MarkedDown).effects.discard (step_of old.core.live.session event.MarkedDown).effects.remote_reset)

-- ---- the plan

pub plans : (x : Option PlanStep) (a : Result (Unit {0}) memory.NoMemory) (now : ℕ) (old new : RecordNow) → HoldsRightly old → PlansAs x a now old new → Less (returned_planned x old) old new
plans (Some (step.Post p)) (Ok u) now old new r h = by (Less nothing old) new _ h (record { amount = λ gate. omega arith; right = cores.kept old.core.facts old.core.live _ refl refl (λ e. e) r })
plans (Some (step.Post p)) (Err e) now old new r h = same old new r h
plans (Some step.Dial) (Ok u) now old new r h = by (Less nothing old) new _ h (record { amount = λ gate. omega arith; right = r })
plans (Some step.Dial) (Err e) now old new r h = absurd h
plans (Some step.Down) (Ok u) now old new r h = goes_down true old new h
plans (Some step.Down) (Err e) now old new r h = absurd h
plans None a now old new r h = goes_down false old new h.1

-- ---- handing out

pub hands : (x : Parcel) (old new : RecordNow) → HoldsRightly old → HandsOut (Some x) old new → Less (granted_in x) old new
hands x old new r (first, only) = record {
  amount = λ gate. (
      let p = ap (λ (xs : List Parcel). all_granted xs gate) first in
      let e = ap (λ (z : RecordNow). held z.core.live.granted gate) only in
      omega (arith, p, e)
      );
  right = by HoldsRightly new _ only r;
}

-- ---- bytes

closes_for : (f : Option WireFault) (now : ℕ) (old mid new : RecordNow) → Less nothing old mid → mid.core.live.granted ≡ old.core.live.granted → ClosesFor f now mid new → Less (returned_for f old) old new
closes_for (Some f) now old mid new h g e =
    less_held mid.core.live.granted old.core.live.granted old new g (then_less (held mid.core.live.granted) old mid new h (breaks now mid new e))
closes_for None now old mid new h g e = by (Less nothing old) new mid e h

pub writes : (a : FeedWrite) (now : ℕ) (old new : RecordNow) → HoldsRightly old → Writes a now old new → Less (returned_for (fault_put a) old) old new
writes a now old new r h =
    let once = h.once.core in
    let granted : h.mid.core.live.granted ≡ old.core.live.granted = ap (λ (c : CoreNow). c.live.granted) once.only in
    closes_for (fault_put a) now old h.mid new
    (like old h.mid r (record {
      facts = ap (λ (c : CoreNow). c.facts) once.only;
      granted = granted;
      session = ap (λ (c : CoreNow). c.live.session) once.only;
      asked = λ e. ap is_some (cores.written a old.core.live.feed h.mid.core.live.feed once.writes) ∙ e;
      parcels = ap (λ (z : RecordNow). z.parcels) h.once.only;
    }))
    granted h.closes

-- what is held behind a read that was heeded
record Heeded (f : SideFacts) (l k : LiveNow) : Type 0 where
  pub granted : k.granted ≡ l.granted
  pub right : IsHeldRightly f k

heeds : (f : SideFacts) (a : EndRead) (h : Option Heard) (was old new : LiveNow) → IsHeldRightly f was → old ≡ live_with old.feed was → (is_some (asked_on was.feed) ≡ true → is_some (asked_on old.feed) ≡ true) → h ≡ hearing.heard_after a f old →
    hearing.Heeds h old new → Heeded f was new
heeds f a h was old new r is asked heard e = by_heard h heard e
  where
    granted : old.granted ≡ was.granted
    granted = ap (λ (l : LiveNow). l.granted) is

    right : IsHeldRightly f old
    right = cores.kept f was old granted (ap (λ (l : LiveNow). l.session) is) asked r

    stays : new ≡ old → Heeded f was new
    stays e = record { granted = ap (λ (l : LiveNow). l.granted) e ∙ granted; right = subst (IsHeldRightly f) (sym e) right }

    takes : (h : Heard) → Some h ≡ hearing.heard_after a f old → (t : Option FeedNow) → new ≡ after_answer h t old → Heeded f was new
    takes h heard t e =
        let idle = cores.idle f old right (cores.heard_idle a f old h (sym heard)) in
        let same : new.granted ≡ old.granted = ap (λ (l : LiveNow). l.granted) e ∙ cores.none_told (event_of h) (record old { feed = t; resumed = resumed_by_answer h old.resumed }) idle in
        record { granted = same ∙ granted; right = cores.none_right f new (subst HoldsNothing (sym same) idle) }

    by_heard : (h : Option Heard) → h ≡ hearing.heard_after a f old → hearing.Heeds h old new → Heeded f was new
    by_heard None heard e = stays e
    by_heard (Some (answer.Reset full)) heard e = stays e
    by_heard (Some (answer.Refused why)) heard e = stays e
    by_heard (Some h) heard e = takes h heard e.passed e.live

counts : (n : Option ℕ) (old new : RecordNow) → HoldsRightly old → CountsIf n old.core new.core → new.parcels ≡ old.parcels → Less nothing old new
counts (Some n) old new r h p = like old new r (record {
  facts = ap (λ (c : CoreNow). c.facts) h.only;
  granted = ap (λ (c : CoreNow). c.live.granted) h.only;
  session = ap (λ (c : CoreNow). c.live.session) h.only;
  asked = λ e. ap (λ (c : CoreNow). is_some (asked_on c.live.feed)) h.only ∙ e;
  parcels = p;
})
counts None old new r h p = like old new r (record {
  facts = ap (λ (c : CoreNow). c.facts) h;
  granted = ap (λ (c : CoreNow). c.live.granted) h;
  session = ap (λ (c : CoreNow). c.live.session) h;
  asked = λ e. ap (λ (c : CoreNow). is_some (asked_on c.live.feed)) h ∙ e;
  parcels = p;
})

pub counts_resumption : (old new : RecordNow) → HoldsRightly old → CountsResumption old new → Less nothing old new
counts_resumption old new r (h, only) = counts (to_count old.core.live) old new r h (ap (λ (z : RecordNow). z.parcels) only)

counts_answer : (h : Option Heard) (old new : RecordNow) → HoldsRightly old → CountsAnswer h old new → Less nothing old new
counts_answer (Some (answer.ReconnectOk seen)) old new r h = counts_resumption old new r h
counts_answer h old new r e = same old new r e

ends_read : (f : Option WireFault) (h : Option Heard) (now : ℕ) (old mid new : RecordNow) → Less nothing old mid → mid.core.live.granted ≡ old.core.live.granted → EndsRead f h now mid new → Less (returned_for f old) old new
ends_read (Some f) h now old mid new less g e =
    less_held mid.core.live.granted old.core.live.granted old new g (then_less (held mid.core.live.granted) old mid new less (breaks now mid new e))
ends_read None h now old mid new less g e = then_less nothing old mid new less (counts_answer h mid new less.right e)

pub reads : (x : _) (now : ℕ) (old new : RecordNow) → HoldsRightly old → Reads x now old new → Less (returned_for (fault_read x) old) old new
reads x now old new r h =
    let once = h.once.core in
    let asked = cores.reads x.answer old.core.live.feed once.feed once.reads in
    let heeded = heeds old.core.facts x.answer x.heard old.core.live (live_with once.feed old.core.live) h.mid.core.live r refl asked once.hears once.heeds in
    let parcels : h.mid.parcels ≡ old.parcels = ap (λ (z : RecordNow). z.parcels) h.once.only in
    let facts : h.mid.core.facts ≡ old.core.facts = ap (λ (c : CoreNow). c.facts) once.only in
    ends_read (fault_read x) x.heard now old h.mid new
    (record {
      amount = no_less old h.mid heeded.granted (grant_alike old h.mid parcels);
      right = subst (λ (f : SideFacts). IsHeldRightly f h.mid.core.live) (sym facts) heeded.right;
    })
    heeded.granted h.ends

-- ---- composing

-- an ask is composed in Connecting alone
asks_idle : (c : CoreNow) → to_compose c ≡ Some text.Ask → is_ready c.live ≡ false
asks_idle c e = by_feed c.live.feed e
  where
    connecting : (p : Phase) → phases.is p phase.Connecting ≡ true → phases.is p phase.Ready ≡ false
    connecting phase.Connecting e = refl
    connecting phase.Absent e = refl
    connecting phase.IdentSent e = refl
    connecting phase.ReconnectSent e = refl
    connecting phase.Ready e = absurd (cc e)
    connecting phase.Standby e = refl
    connecting phase.Wait e = refl

    rows : (a k m o : Bool) → (if a then Some text.Ask else (if k then Some text.KeepaliveAnswer else (if m then Some text.Message else (if o then Some text.Acknowledgement else None)))) ≡ Some text.Ask → a ≡ true
    rows true k m o e = refl
    rows false true m o e = absurd (cc e)
    rows false false true o e = absurd (cc e)
    rows false false false true e = absurd (cc e)
    rows false false false false e = absurd (cc e)

    chosen : (b : Bool) (o : Option CoreText) → (if b then o else None) ≡ Some text.Ask → o ≡ Some text.Ask
    chosen true o e = e
    chosen false o e = absurd (cc e)

    by_feed : (x : Option FeedNow) → text_on x c ≡ Some text.Ask → is_ready c.live ≡ false
    by_feed (Some v) e = connecting c.live.session.phase (rows _ _ _ _ (chosen (is_framing v.reading && is_empty v.composed) (first_that_holds (text_rows v c) None) e))
    by_feed None e = absurd (cc e)

left_asked : (x y : Option FeedNow) → leaving.IsLeft x y → is_some (asked_on x) ≡ true → is_some (asked_on y) ≡ true
left_asked (Some v) (Some w) h e = ap (λ (r : Reading). is_some (asked_in r)) h.1 ∙ e
left_asked (Some v) None h e = absurd h
left_asked None y h e = absurd h

composes_as : (t : CoreText) (x : Composed) (old new : RecordNow) → HoldsRightly old → x ≢ composed.NoMemory → (t ≡ text.Ask → is_ready old.core.live ≡ false) →
    (is_some (asked_on old.core.live.feed) ≡ true → is_some (asked_on new.core.live.feed) ≡ true) →
    ComposesAs t x old new → Less nothing old new
composes_as text.Ask (composed.Asked ident n) old new r k idle asked h =
    let granted : new.core.live.granted ≡ old.core.live.granted = ap (λ (c : CoreNow). c.live.granted) h.1.only in
    record {
      amount = no_less old new granted (grant_alike old new (ap (λ (z : RecordNow). z.parcels) h.2));
      right = cores.none_right new.core.facts new.core.live (subst HoldsNothing (sym granted) (cores.idle old.core.facts old.core.live r (idle refl)));
    }
composes_as text.Ask composed.Spent old new r k idle asked h = like old new r (record {
  facts = ap (λ (c : CoreNow). c.facts) h.1.1;
  granted = ap (λ (c : CoreNow). c.live.granted) h.1.1;
  session = ap (λ (c : CoreNow). c.live.session) h.1.1;
  asked = asked;
  parcels = ap (λ (z : RecordNow). z.parcels) h.2;
})
composes_as text.Ask (composed.Again seen now) old new r k idle asked h = like old new r (record {
  facts = ap (λ (c : CoreNow). c.facts) h.1.1;
  granted = ap (λ (c : CoreNow). c.live.granted) h.1.1;
  session = ap (λ (c : CoreNow). c.live.session) h.1.1;
  asked = asked;
  parcels = ap (λ (z : RecordNow). z.parcels) h.2;
})
composes_as text.KeepaliveAnswer composed.Answered old new r k idle asked h = like old new r (record {
  facts = ap (λ (c : CoreNow). c.facts) h.0.only;
  granted = ap (λ (c : CoreNow). c.live.granted) h.0.only;
  session = ap (λ (c : CoreNow). c.live.session) h.0.only;
  asked = asked;
  parcels = ap (λ (z : RecordNow). z.parcels) h.1;
})
composes_as text.Message (composed.Numbered n) old new r k idle asked h = like old new r (record {
  facts = ap (λ (c : CoreNow). c.facts) h.0.only;
  granted = ap (λ (c : CoreNow). c.live.granted) h.0.only;
  session = ap (λ (c : CoreNow). c.live.session) h.0.only;
  asked = asked;
  parcels = ap (λ (z : RecordNow). z.parcels) h.1;
})
composes_as text.Acknowledgement composed.Acknowledged old new r k idle asked h = like old new r (record {
  facts = ap (λ (c : CoreNow). c.facts) h.0.only;
  granted = ap (λ (c : CoreNow). c.live.granted) h.0.only;
  session = ap (λ (c : CoreNow). c.live.session) h.0.only;
  asked = asked;
  parcels = ap (λ (z : RecordNow). z.parcels) h.1;
})
composes_as text.Ask composed.NoMemory old new r k idle asked h = absurd (k refl)
composes_as text.KeepaliveAnswer composed.NoMemory old new r k idle asked h = absurd (k refl)
composes_as text.Message composed.NoMemory old new r k idle asked h = absurd (k refl)
composes_as text.Acknowledgement composed.NoMemory old new r k idle asked h = absurd (k refl)
composes_as t x old new r k idle asked h = absurd h

-- ---- the front

shakes : (a : HalfStep) (old new : RecordNow) → HoldsRightly old → Shakes a old new → Less nothing old new
shakes a old new r (h, only) = like old new r (record {
  facts = ap (λ (c : CoreNow). c.facts) h.only;
  granted = ap (λ (c : CoreNow). c.live.granted) h.only;
  session = ap (λ (c : CoreNow). c.live.session) h.only;
  asked = cores.greets a old.core.live.feed new.core.live.feed h.greets;
  parcels = ap (λ (z : RecordNow). z.parcels) only;
})

shakes_granted : (a : HalfStep) (old new : RecordNow) → Shakes a old new → new.core.live.granted ≡ old.core.live.granted
shakes_granted a old new (h, only) = ap (λ (c : CoreNow). c.live.granted) h.only

-- what is passed, what is accepted and what is said of a reset
next_passed : (t : Throttled) (f : FrontHeard) (c new : CoreNow) → IsNext t next.Passed f c new → new.live.granted ≡ nothing_held c.live.granted.peer
next_passed t (front.tells said.Nothing) c new h = ap (λ (z : CoreNow). z.live.granted) h.only
next_passed t (front.tells (said.Stamp k)) c new h = ap (λ (z : CoreNow). z.live.granted) h.only
next_passed t f c new h = absurd h

record Hands (a : CoreAccepted) (c new : CoreNow) : Type 0 where
  pub held : c.live.granted ≡ a.grants
  pub none : new.live.granted ≡ nothing_held c.live.granted.peer

next_accepted : (t : Throttled) (a : CoreAccepted) (f : FrontHeard) (c new : CoreNow) → IsNext t (next.Accepted a) f c new → Hands a c new
next_accepted t a (front.tells (said.Brings n)) c new h = record { held = h.1.grants; none = ap (λ (z : CoreNow). z.live.granted) h.1.only }
next_accepted t a f c new h = absurd h

next_resets : (t : Throttled) (full : Bool) (f : FrontHeard) (c new : CoreNow) → IsNext t (next.Resets full) f c new → IsResetHeard full c
next_resets t full (front.tells (said.Resets mark)) c new h = h.1
next_resets t full f c new h = absurd h

next_acked : (t : Throttled) (n : ℕ) (f : FrontHeard) (c new : CoreNow) → IsNext t (next.Acked n) f c new → (m : ℕ) × CountsIf (Some m) c new
next_acked t n (front.tells (said.Acknowledges m)) c new h = (m, h.1)
next_acked t n f c new h = absurd h

-- a size was asked for there
record IsAsked (c : CoreNow) (r : Reading) (g : More) (new : CoreNow) : Type 0 where
  pub asks : cores.AsksSize c r
  pub only : new ≡ record c { live = after_asked g new.live.granted c.live }

abbrev asked_answer : CoreNext → Option More
asked_answer next.Granted = Some more.Whole
asked_answer (next.Full stage out) = Some (more.Full stage out)
asked_answer (next.Again stage seen now) = Some (more.Again stage seen now)
asked_answer _ = None

next_asked : (t : Throttled) (a : CoreNext) (g : More) (f : FrontHeard) (c : CoreNow) (r : Reading) (new : CoreNow) → asked_answer a ≡ Some g → heard_by c r ≡ f → IsNext t a f c new → IsAsked c r g new
next_asked t next.Granted g (front.asks n) c r new is e h = record { asks = cores.asks_size c r n e; only = subst (λ (x : More). new ≡ record c { live = after_asked x new.live.granted c.live }) (some_same more.Whole g is) h.only }
next_asked t (next.Full stage out) g (front.asks n) c r new is e h =
    record { asks = cores.asks_size c r n e; only = subst (λ (x : More). new ≡ record c { live = after_asked x new.live.granted c.live }) (some_same (more.Full stage out) g is) h.only }
next_asked t (next.Again stage seen now) g (front.asks n) c r new is e h =
    record { asks = cores.asks_size c r n e; only = subst (λ (x : More). new ≡ record c { live = after_asked x new.live.granted c.live }) (some_same (more.Again stage seen now) g is) h.only }
next_asked t next.Granted g f c r new is e h = absurd h
next_asked t (next.Full stage out) g f c r new is e h = absurd h
next_asked t (next.Again stage seen now) g f c r new is e h = absurd h
next_asked t a g f c r new is e h = absurd (cc is)

-- of the feed that there is
at_front : (t : Throttled) (a : CoreNext) (c new : CoreNow) → AnswersFront t a c new → (v : FeedNow) × (c.live.feed ≡ Some v) × IsNext t a (heard_by c v.reading) c new
at_front t a c new h = by_feed c.live.feed h
  where
    by_feed : (x : Option FeedNow) → OnFeedNow x (λ v. IsNext t a (heard_by c v.reading) c new) → (v : FeedNow) × (x ≡ Some v) × IsNext t a (heard_by c v.reading) c new
    by_feed (Some v) h = (v, refl, h)
    by_feed None h = absurd h

-- what is held then is held rightly
asked_right : (g : More) (c : CoreNow) (v : FeedNow) → SessionIsSound c.facts c.live.session → c.live.feed ≡ Some v → cores.AsksSize c v.reading → (k : PeerGrants) → IsHeldRightly c.facts (after_asked g k c.live)
asked_right more.Whole c v sound fed asks k = inr (record {
  ready = asks.ready;
  asked = ap (λ (x : Option FeedNow). is_some (asked_on (granted_feed x))) fed ∙ ap is_some asks.telling ∙ asks.asked;
  session = sound;
})
asked_right (more.Full stage out) c v sound fed asks k = inr (record { ready = asks.ready; asked = ap (λ (x : Option FeedNow). is_some (asked_on x)) fed ∙ asks.asked; session = sound })
asked_right (more.Again stage seen now) c v sound fed asks k = inr (record { ready = asks.ready; asked = ap (λ (x : Option FeedNow). is_some (asked_on x)) fed ∙ asks.asked; session = sound })

asked_now : (t : Throttled) (a : CoreNext) (g : More) (c new : CoreNow) → asked_answer a ≡ Some g → SessionIsSound c.facts c.live.session → AnswersFront t a c new → IsHeldRightly new.facts new.live
asked_now t a g c new is sound h =
    let (v, fed, answers) = at_front t a c new h in
    let asked = next_asked t a g (heard_by c v.reading) c v.reading new is refl answers in
    subst (λ (z : CoreNow). IsHeldRightly z.facts z.live) (sym asked.only) (asked_right g c v sound fed asked.asks new.live.granted)

-- ---- words beside what is held

-- each word goes along with what is held at its gate, rightly
pub record Goes (t : Throttled) (old new : RecordNow) : Type 0 where
  pub word : (gate : Gate) → Follows (words t.before gate) (words t.behind gate) (held_in_record gate old) (held_in_record gate new)
  pub right : HoldsRightly new

by_less : (n : Gate → ℕ) (t : Throttled) (old new : RecordNow) → AreAlone (places t.throttles) → Return n t.throttles t.before t.behind → Less n old new → Goes t old new
by_less n t old new alone w h = record {
  word = λ gate. sums.given (n gate) (words t.before gate) (words t.behind gate) (held_in_record gate old) (held_in_record gate new) (w gate (alone gate)) (h.amount gate);
  right = h.right;
}

by_none : (t : Throttled) (old new : RecordNow) → AreAlone (places t.throttles) → Stay t.throttles t.before t.behind → Less nothing old new → Goes t old new
by_none t old new alone w h = by_less nothing t old new alone (λ gate a. (let e = w gate a in omega (arith, e))) h

-- where the passes are as they were
pub same_words : (before behind : TakePasses) (gate : Gate) → behind ≡ before → words behind gate ≡ words before gate
same_words before behind gate e = ap (λ (p : TakePasses). words p gate) e

stay_so : (t : Throttled) → t.behind ≡ t.before → Stay t.throttles t.before t.behind
stay_so t e gate alone = same_words t.before t.behind gate e

frames_asked : (t : Throttled) (a : CoreNext) (g : More) (old new : RecordNow) → asked_answer a ≡ Some g → AreAlone (places t.throttles) → SessionIsSound old.core.facts old.core.live.session →
    Keep (held old.core.live.granted) (held new.core.live.granted) t.throttles t.before t.behind → AnswersFront t a old.core new.core → GrantAlike old new → Goes t old new
frames_asked t a g old new is alone sound k h p = record {
  word = λ gate. sums.kept (held old.core.live.granted gate) (held new.core.live.granted gate) (words t.before gate) (words t.behind gate) (held_in_record gate old) (held_in_record gate new)
      (k gate (alone gate)) (let q = p gate in omega (arith, q));
  right = asked_now t a g old.core new.core is sound h;
}

accepts_one : (t : Throttled) (number now : ℕ) (old new : RecordNow) → Frames t (framed.Accepted number) now old new → Less nothing old new
accepts_one t number now old new (a, is, h, only) =
    let (v, fed, answers) = at_front t (next.Accepted a) old.core new.core h in
    let hands = next_accepted t a (heard_by old.core v.reading) old.core new.core answers in
    record {
      amount = λ gate. (
          let was = ap (λ (x : PeerGrants). held x gate) hands.held in
          let now_held = ap (λ (x : PeerGrants). held x gate) hands.none ∙ nothing_at old.core.live.granted.peer gate in
          let all = ap (λ (z : RecordNow). all_granted z.parcels gate) only in
          let more = sums.granted_behind gate old.parcels (letter_of old.place a ∷ []) in
          omega (arith, was, now_held, all, more)
          );
      right = cores.none_right new.core.facts new.core.live (cores.none_of new.core.live.granted old.core.live.granted.peer hands.none);
    }

obeys : (t : Throttled) (full : Bool) (now : ℕ) (old new : RecordNow) → HoldsRightly old → Frames t (framed.Obeyed full) now old new → Less nothing old new
obeys t full now old new r (mid, (h, room), (o, only)) =
    let (v, fed, answers) = at_front t (next.Resets full) old.core mid.core h in
    let heard = next_resets t full (heard_by old.core v.reading) old.core mid.core answers in
    let none : HoldsNothing old.core.live.granted = cores.idle old.core.facts old.core.live r (cores.heard_idle (read.Got 0) old.core.facts old.core.live (answer.Reset full) heard) in
    let mid_same : mid.core.live.granted ≡ old.core.live.granted = ap (λ (z : RecordNow). z.core.live.granted) room in
    let mid_none : HoldsNothing mid.core.live.granted = subst HoldsNothing (sym mid_same) none in
    let same : new.core.live.granted ≡ old.core.live.granted =
    ap (λ (l : LiveNow). l.granted) o.obeys.live ∙ cores.none_still (event.GotReset full) (live_with o.obeys.passed mid.core.live) mid_none ∙ mid_same in
    let parcels : GrantAlike old new =
    λ gate. ap (λ (z : RecordNow). all_granted z.parcels gate) only ∙ sums.told_behind gate mid.parcels mid.place full full ∙ ap (λ (z : RecordNow). all_granted z.parcels gate) room in
    record { amount = no_less old new same parcels; right = cores.none_right new.core.facts new.core.live (subst HoldsNothing (sym same) none) }

passes : (t : Throttled) (old new : RecordNow) → AnswersFront t next.Passed old.core new.core → GrantAlike old new → Less (held old.core.live.granted) old new
passes t old new h p =
    let (v, fed, answers) = at_front t next.Passed old.core new.core h in
    drops old new old.core.live.granted.peer (next_passed t (heard_by old.core v.reading) old.core new.core answers) p

acks : (t : Throttled) (n : ℕ) (old new : RecordNow) → HoldsRightly old → AnswersFront t (next.Acked n) old.core new.core → new.parcels ≡ old.parcels → Less nothing old new
acks t n old new r h p =
    let (v, fed, answers) = at_front t (next.Acked n) old.core new.core h in
    let (m, counted) = next_acked t n (heard_by old.core v.reading) old.core new.core answers in
    counts (Some m) old new r counted p

faults : (e : _) (now : ℕ) (old new : RecordNow) → HoldsRightly old → Greets (half.Fault e) now old new → Less (held old.core.live.granted) old new
faults e now old new r (mid, h, g) =
    less_held mid.core.live.granted old.core.live.granted old new (shakes_granted (half.Fault e) old mid h)
    (then_less (held mid.core.live.granted) old mid new (shakes (half.Fault e) old mid r h) (breaks now mid new g))

parcels_alike : (old new x : RecordNow) → new ≡ x → x.parcels ≡ old.parcels → GrantAlike old new
parcels_alike old new x e p = grant_alike old new (ap (λ (z : RecordNow). z.parcels) e ∙ p)

pub frames : (t : Throttled) (f : Framed) (now : ℕ) (old new : RecordNow) → AreAlone (places t.throttles) → SessionIsSound old.core.facts old.core.live.session → HoldsRightly old →
    WordsFramed f t (held old.core.live.granted) (held new.core.live.granted) → Frames t f now old new → Goes t old new
frames t (framed.Half half.NotYet) now old new alone sound r e h = by_none t old new alone e (shakes half.NotYet old new r h)
frames t (framed.Half half.Wrote) now old new alone sound r e h = by_none t old new alone e (shakes half.Wrote old new r h)
frames t (framed.Half half.Authed) now old new alone sound r e h = by_none t old new alone e (shakes half.Authed old new r h)
frames t (framed.Half half.NoMemory) now old new alone sound r e h = by_none t old new alone e (shakes half.NoMemory old new r h)
frames t (framed.Half (half.Fault why)) now old new alone sound r e h = by_less (held old.core.live.granted) t old new alone e (faults why now old new r h)
frames t framed.Passed now old new alone sound r e (h, only) = by_less (held old.core.live.granted) t old new alone e (passes t old new h (parcels_alike old new _ only refl))
frames t framed.Granted now old new alone sound r e (h, only) = frames_asked t next.Granted more.Whole old new refl alone sound e h (parcels_alike old new _ only refl)
frames t (framed.Acked n) now old new alone sound r e (h, only) = by_none t old new alone e (acks t n old new r h (ap (λ (z : RecordNow). z.parcels) only))
frames t (framed.Accepted n) now old new alone sound r e h = by_none t old new alone e (accepts_one t n now old new h)
frames t (framed.Obeyed full) now old new alone sound r e h = by_none t old new alone e (obeys t full now old new r h)
frames t (framed.Faulted cause) now old new alone sound r e (h, broken) = by_less (held old.core.live.granted) t old new alone e (breaks now old new broken)
frames t (framed.Full stage out) now old new alone sound r e (h, only) = frames_asked t (next.Full stage out) (more.Full stage out) old new refl alone sound e h (parcels_alike old new _ only refl)
frames t (framed.Again stage seen at) now old new alone sound r e (h, only) = frames_asked t (next.Again stage seen at) (more.Again stage seen at) old new refl alone sound e h (parcels_alike old new _ only refl)
frames t framed.NoMemory now old new alone sound r e (h, room) = by_none t old new alone e (same_but_room old new r room)

-- ---- a step

-- what was granted for a parcel that is handed out
abbrev pub handed_by : Stepped → Gate → ℕ
handed_by (stepped.Hand x) gate = granted_in x gate
handed_by answer gate = 0

planned_none : (a : Result (Unit {0}) memory.NoMemory) (gate : Gate) → handed_by (answer_planned a) gate ≡ 0
planned_none (Ok u) gate = refl
planned_none (Err e) gate = refl

put_none : (a : FeedWrite) (gate : Gate) → handed_by (answer_put a) gate ≡ 0
put_none (put.Put n b) gate = refl
put_none put.NotYet gate = refl
put_none put.Failed gate = refl
put_none put.NoMemory gate = refl

framed_none : (f : Framed) (gate : Gate) → handed_by (answer_framed f) gate ≡ 0
framed_none (framed.Half half.NotYet) gate = refl
framed_none (framed.Half half.Wrote) gate = refl
framed_none (framed.Half half.Authed) gate = refl
framed_none (framed.Half half.NoMemory) gate = refl
framed_none (framed.Half (half.Fault e)) gate = refl
framed_none framed.Passed gate = refl
framed_none framed.Granted gate = refl
framed_none (framed.Acked n) gate = refl
framed_none (framed.Accepted n) gate = refl
framed_none (framed.Obeyed full) gate = refl
framed_none (framed.Faulted cause) gate = refl
framed_none (framed.Full stage out) gate = refl
framed_none (framed.Again stage seen at) gate = refl
framed_none framed.NoMemory gate = refl

composed_none : (c : Composed) (gate : Gate) → handed_by (answer_composed c) gate ≡ 0
composed_none (composed.Asked ident n) gate = refl
composed_none composed.Answered gate = refl
composed_none (composed.Numbered n) gate = refl
composed_none composed.Acknowledged gate = refl
composed_none composed.Spent gate = refl
composed_none (composed.Again seen now) gate = refl
composed_none composed.NoMemory gate = refl

heard_none : (h : Option Heard) (gate : Gate) → handed_by (answer_heard h) gate ≡ 0
heard_none (Some answer.Wait) gate = refl
heard_none (Some (answer.ServerIdent cookie global)) gate = refl
heard_none (Some (answer.ReconnectOk seen)) gate = refl
heard_none (Some (answer.Retry n)) gate = refl
heard_none (Some (answer.RetryGlobal n)) gate = refl
heard_none (Some (answer.Reset full)) gate = refl
heard_none (Some (answer.Refused e)) gate = refl
heard_none None gate = refl

by_none_read : (a : EndRead) (h : Option Heard) (gate : Gate) → handed_by (answer_by a h) gate ≡ 0
by_none_read (read.Got n) h gate = heard_none h gate
by_none_read read.NotYet h gate = refl
by_none_read read.Ended h gate = refl
by_none_read read.Failed h gate = refl
by_none_read read.NoMemory h gate = refl

read_none : (f : Option WireFault) (a : EndRead) (h : Option Heard) (gate : Gate) → handed_by (faulted_or f (answer_by a h)) gate ≡ 0
read_none (Some f) a h gate = refl
read_none None a h gate = by_none_read a h gate

-- Each word goes along with what the record holds at its gate and with what was granted there for the parcel that the step hands out.
pub record Steps (w : Worked) (old new : RecordNow) : Type 0 where
  pub word : (gate : Gate) → Follows (words w.bytes.before gate) (words w.bytes.behind gate) (held_in_record gate old) (held_in_record gate new + handed_by w.answer gate)
  pub right : HoldsRightly new

by_goes : (w : Worked) (old new : RecordNow) (a : Stepped) → w.answer ≡ a → ((gate : Gate) → handed_by a gate ≡ 0) → Goes w.bytes old new → Steps w old new
by_goes w old new a is none g = record {
  word = λ gate rest e. (
      let follows = g.word gate rest e in
      let zero = ap (λ (x : Stepped). handed_by x gate) is ∙ none gate in
      omega (arith, follows, zero)
      );
  right = g.right;
}

by_due : (d : Due) (w : Worked) (old new : RecordNow) → AreAlone (places w.bytes.throttles) → SessionIsSound old.core.facts old.core.live.session → HoldsRightly old → w.answer ≢ stepped.NoMemory →
    (d ≡ due.Compose → is_some (to_compose old.core) ≡ true) → StepsBy d w old new → Steps w old new
by_due due.Nothing w old new alone sound r k some h =
    by_goes w old new _ h.answers (λ gate. refl) (by_none w.bytes old new alone (stay_so w.bytes h.bytes) (by (Less nothing old) new _ h.only (record { amount = λ gate. omega arith; right = r })))
by_due due.Plan w old new alone sound r k some h =
    by_goes w old new _ h.answers (planned_none h.taken) (by_less (returned_planned (next_step old) old) w.bytes old new alone h.bytes (plans (next_step old) h.taken w.now old new r h.plans))
by_due due.Hand w old new alone sound r k some h = handed w.answer h.hands
  where
    bytes : w.bytes.behind ≡ w.bytes.before
    bytes = h.bytes

    handed : (a : Stepped) → HandsAs a old new → Steps (record w { answer = a }) old new
    handed (stepped.Hand x) h = (let less = hands x old new r h in record {
      word = λ gate rest e. (
          let amount = less.amount gate in
          let word = same_words w.bytes.before w.bytes.behind gate bytes in
          omega (arith, amount, word, e)
          );
      right = less.right;
    })
    handed a h = absurd h
by_due (due.Connect at) w old new alone sound r k some h =
    by_goes w old new _ h.answers (λ gate. refl) (by_none w.bytes old new alone (stay_so w.bytes h.bytes) (by (Less nothing old) new _ h.only (record { amount = λ gate. omega arith; right = r })))
by_due due.Write w old new alone sound r k some h =
    by_goes w old new _ h.answers (put_none h.put) (by_less (returned_for (fault_put h.put) old) w.bytes old new alone h.bytes (writes h.put w.now old new r h.writes))
by_due due.Frame w old new alone sound r k some h = by_goes w old new _ h.answers (framed_none h.framed) (frames w.bytes h.framed w.now old new alone sound r h.bytes h.frames)
by_due due.Read w old new alone sound r k some h =
    by_goes w old new _ h.answers (read_none (fault_read h.read) h.read.answer h.read.heard)
    (by_less (returned_for (fault_read h.read) old) w.bytes old new alone h.bytes (reads h.read w.now old new r h.reads))
by_due due.Compose w old new alone sound r k some h =
    by_goes w old new _ h.answers (composed_none h.composed) (by_none w.bytes old new alone (stay_so w.bytes h.bytes) (by_text (to_compose old.core) refl (some refl) h.composes))
  where
    by_text : (o : Option CoreText) → to_compose old.core ≡ o → is_some o ≡ true → IfSome o (λ t. ComposesAs t h.composed old new) → Less nothing old new
    by_text (Some t) is e c =
        composes_as t h.composed old new r (λ z. k (h.answers ∙ ap answer_composed z)) (λ z. asks_idle old.core (is ∙ ap (λ (x : CoreText). Some x) z))
        (left_asked old.core.live.feed new.core.live.feed (leaving.composed_so w old new k (some refl) h)) c
    by_text None is e c = absurd (cc e)

pub steps_on : (w : Worked) (old new : RecordNow) → AreAlone (places w.bytes.throttles) → IsRecord old → HoldsRightly old → w.answer ≢ stepped.NoMemory → StepsAs w.answer w old new → Steps w old new
steps_on w old new alone is r k h =
    let (mid, room, taken) = steps.takes w.answer w old new k h in
    let stepped = by_due (due_step w.now mid) w mid new alone (by (λ (z : RecordNow). SessionIsSound z.core.facts z.core.live.session) mid _ room (session-sound old is)) (by HoldsRightly mid _ room r) k
    (steps.compose_is_due w.now mid) taken in
    record {
      word = λ gate rest e. (let held : held_in_record gate mid ≡ held_in_record gate old = ap (held_in_record gate) room in stepped.word gate rest (omega (arith, held, e)));
      right = stepped.right;
    }

-- for want of memory a record holds what it held, and nothing is granted or given back
pub lacks : (w : Worked) (old new : RecordNow) → AreAlone (places w.bytes.throttles) → FindsNoMemory w old new →
    (gate : Gate) → Follows (words w.bytes.before gate) (words w.bytes.behind gate) (held_in_record gate old) (held_in_record gate new)
lacks w old new alone h gate =
    sums.stays (words w.bytes.before gate) (words w.bytes.behind gate) (held_in_record gate old) (held_in_record gate new) (h.bytes gate (alone gate)) (ap (held_in_record gate) h.nothing.only)
