-- Records that are alike step alike, but for want of memory.
use Rattle.std.proofs.Common.{◌≡◌, ℕ, ◌+◌, ◌-◌, ◌++◌, List, Bool, true, false, if◌then◌else◌, Option, None, Some, Result, Ok, Err, refl, sym, subst, ◌∙◌, ap, arith}
use Rattle.std.proofs.Math.Path.{fun_ext}
use Rattle.std.specs.Prelude.{◌≢◌, IfSome}
use Rattle.std.specs.Option.{is_some, option_map, option_to_list}
use Rattle.m2_fabric.specs.m2_bytes.declared.memory.NoMemory as memory
use Rattle.m2_script.specs.m2_center.m2_core.CoreNow.{CoreNow, IsAskedIfSigned}
use Rattle.m2_script.specs.m2_center.m2_core.Counting.{CountsIf, to_count}
use Rattle.m2_script.specs.m2_center.m2_core.Hearing.{ReadNow}
use Rattle.m2_script.specs.m2_center.m2_core.LiveHearing.{raised_by}
use Rattle.m2_script.specs.m2_center.m2_core.Granting.{Throttled}
use Rattle.m2_script.specs.m2_center.m2_core.ToCompose.{to_compose}
use Rattle.m2_script.specs.m2_center.m2_core.declared.to_compose.CoreText.{CoreText}
use Rattle.m2_dispatch.specs.declared.parcel.Parcel.{Parcel}
use Rattle.m2_dispatch.specs.m2_shared.Numbers.{SeenNumberPass}
use Rattle.m2_dispatch.specs.m2_shared.Gates.{Gate, Keep, Return, Stay, held, places, words}
use Rattle.m2_dispatch.specs.m2_shared.Place.{IsAlone}
use Rattle.m2_dispatch.specs.m2_shared.declared.peer_grants.PeerGrants.{PeerGrants}
use Rattle.m2_dispatch.specs.m2_shared.declared.throttles.TakePasses.{TakePasses}
use Rattle.m2_dispatch.specs.m2_shared.declared.throttles.Throttles.{Throttles}
use Rattle.m2_fabric.specs.End.{SeenEnd}
use Rattle.m2_fabric.specs.declared.end.EndRead.{EndRead}
use Rattle.m2_fabric.specs.declared.end.EndRead.TheVariants as read
use Rattle.m2_script.specs.m2_center.m2_feed.FeedNow.{FeedNow}
use Rattle.m2_script.specs.m2_center.m2_feed.declared.answers.FeedWrite.{FeedWrite}
use Rattle.m2_script.specs.m2_center.m2_feed.declared.answers.FeedWrite.TheVariants as put
use Rattle.m2_script.specs.m2_center.m2_feed.declared.heard.Heard.{Heard}
use Rattle.m2_script.specs.m2_center.m2_feed.declared.heard.Heard.TheVariants as heard
use Rattle.m2_script.specs.m2_center.m2_feed.declared.wire_fault.WireFault.{WireFault}
use Rattle.m2_script.specs.m2_center.m2_feed.m2_journal.declared.entry.Entry.{Entry}
use Rattle.m2_script.specs.m2_center.m2_feed.m2_journal.declared.facts.PlanStep.{PlanStep}
use Rattle.m2_script.specs.m2_center.m2_feed.m2_journal.declared.facts.PlanStep.TheVariants as step
use Rattle.m2_script.specs.m2_center.m2_record.Calls.{ClosesFor, ComposesAs, CountsResumption, HandsOut, IsSameButRoom, Writes, WritesFeedOnce, acked_entries, after_post, closed_entries, fault_put, held_after, moment_after, returned_for, with_dial, wrote_entries}
use Rattle.m2_script.specs.m2_center.m2_record.Due.{due_step, has_frame, has_parcel, has_plan, may_compose, may_connect, may_read, may_write, next_step}
use Rattle.m2_script.specs.m2_center.m2_record.IsRecord.{no_room}
use Rattle.m2_script.specs.m2_center.m2_record.Reading.{CountsAnswer, EndsRead, Reads, ReadsFeedOnce, answer_read, fault_read, held_read, moment_read, read_entries, waits_read}
use Rattle.m2_script.specs.m2_center.m2_record.RecordNow.{RecordNow}
use Rattle.m2_script.specs.m2_center.m2_record.Stepping.{GivesBack, HandsAs, PlansAs, Rests, StepsAs, StepsBy, StepsCompose, StepsFrame, StepsHand, StepsPlan, StepsRead, StepsWrite, TakesDue, Worked, answer_composed, answer_framed, answer_planned, answer_put, returned_planned}
use Rattle.m2_script.specs.m2_center.m2_record.Framing.{Frames, WordsFramed}
use Rattle.m2_script.specs.m2_center.m2_record.declared.composing.Composed.{Composed}
use Rattle.m2_script.specs.m2_center.m2_record.declared.composing.Composed.TheVariants as composed
use Rattle.m2_script.specs.m2_center.m2_record.declared.due.Due.{Due}
use Rattle.m2_script.specs.m2_center.m2_record.declared.due.Due.TheVariants as due
use Rattle.m2_script.specs.m2_center.m2_record.declared.framing.Framed.{Framed}
use Rattle.m2_script.specs.m2_center.m2_record.declared.framing.Framed.TheVariants as framed
use Rattle.m2_script.specs.m2_center.m2_record.declared.reading.RecordRead.{RecordRead}
use Rattle.m2_script.specs.m2_center.m2_record.declared.stepped.Stepped.{Stepped}
use Rattle.m2_script.specs.m2_center.m2_record.declared.stepped.Stepped.TheVariants as stepped
use Rattle.m2_script.specs.m2_center.m2_turn.m2_handshake.declared.answer.HalfStep.TheVariants as half
use Rattle.m2_exact.proofs.Composing as composing
use Rattle.m2_exact.proofs.Cores as cores
use Rattle.m2_exact.proofs.Framing as framing
use Rattle.m2_exact.proofs.Nexts as nexts
use Rattle.m2_exact.proofs.Plain as calls
use Rattle.m2_exact.specs.Cores.{FeedIsInMemory, roomless, roomless_feed}
use Rattle.m2_exact.specs.Holding.{AreAlone}
use Rattle.m2_exact.specs.Records.{Begun, Took, WorkIsAlone, bare_numbers, begun, done, plain}
use Rattle.m2_fabric.proofs.m2_lemmas.Lists.{cons_same}

-- ---- which step is due

abbrev with_feed : Option FeedNow → RecordNow → RecordNow
with_feed x r = record r { core = record r.core { live = record r.core.live { feed = x } } }

due_plain : (now : ℕ) (r : RecordNow) → due_step now r ≡ due_step now (plain r)
due_plain now r = by r.core.live.feed
  where
    by : (x : Option FeedNow) → due_step now (with_feed x r) ≡ due_step now (with_feed (option_map roomless_feed x) r)
    by (Some v) = refl
    by None = refl

pub due_one : (now : ℕ) (r s : RecordNow) → plain r ≡ plain s → due_step now r ≡ due_step now s
due_one now r s like = due_plain now r ∙ ap (due_step now) like ∙ sym (due_plain now s)

-- ---- what is counted

pub counts : (h : Option ℕ) (r s new behind : RecordNow) → plain r ≡ plain s → to_count r.core.live ≡ h → CountsResumption r new → CountsResumption s behind → plain new ≡ plain behind
counts h r s new behind like is (c, g) (d, k) =
    let core = ap (λ (x : RecordNow). x.core) like in
    let same : to_count s.core.live ≡ h = sym (ap (λ (x : CoreNow). to_count x.live) core) ∙ is in
    composing.gets r s new behind like (by h (subst (λ (x : Option ℕ). CountsIf x r.core new.core) is c) (subst (λ (x : Option ℕ). CountsIf x s.core behind.core) same d)) _ _
    (ap acked_entries (is ∙ sym same)) g k
  where
    by : (h : Option ℕ) → CountsIf h r.core new.core → CountsIf h s.core behind.core → roomless new.core ≡ roomless behind.core
    by (Some n) c d = nexts.counted r.core s.core new.core behind.core (ap (λ (x : RecordNow). x.core) like) n c d
    by None c d = ap roomless c ∙ ap (λ (x : RecordNow). x.core) like ∙ sym (ap roomless d)

-- ---- a write

wrote_plain : (a : FeedWrite) (x : Option FeedNow) → wrote_entries a x ≡ wrote_entries a (option_map roomless_feed x)
wrote_plain (put.Put n b) (Some v) = refl
wrote_plain (put.Put n b) None = refl
wrote_plain put.NotYet x = refl
wrote_plain put.Failed x = refl
wrote_plain put.NoMemory x = refl

abbrev with_written : FeedWrite → ℕ → CoreNow → RecordNow → RecordNow
with_written a now c p = record p { core = c; journal = p.journal ++ wrote_entries a p.core.live.feed; last = moment_after a now p.last; held = held_after a p.held }

written_once : (a : FeedWrite) (now : ℕ) (r new : RecordNow) → WritesFeedOnce a now r new → plain new ≡ with_written a now (roomless new.core) (plain r)
written_once a now r new h =
    ap plain h.only
    ∙ ap (λ (es : List Entry). record (plain r) { core = roomless new.core; journal = r.journal ++ es; last = moment_after a now r.last; held = held_after a r.held }) (wrote_plain a r.core.live.feed)

closes_for : (f g : Option WireFault) (now : ℕ) (r s new behind : RecordNow) → f ≡ g → plain r ≡ plain s → ClosesFor f now r new → ClosesFor g now s behind → plain new ≡ plain behind
closes_for (Some f) (Some g) now r s new behind same like h k = calls.breaks now r s new behind like h k
closes_for None None now r s new behind same like h k = ap plain h ∙ like ∙ sym (ap plain k)
closes_for (Some f) None now r s new behind same like h k = absurd (cc same)
closes_for None (Some g) now r s new behind same like h k = absurd (cc same)

writes : (a b : FeedWrite) (now : ℕ) (r s new behind : RecordNow) → FeedIsInMemory r.core → plain r ≡ plain s → a ≢ put.NoMemory → b ≢ put.NoMemory → Writes a now r new → Writes b now s behind →
    (a ≡ b) × (plain new ≡ plain behind)
writes a b now r s new behind here like m k h g =
    let both = cores.exact.writes a b r.core s.core h.mid.core g.mid.core here (ap (λ (x : RecordNow). x.core) like) m k h.once.core g.once.core in
    let mid : plain h.mid ≡ plain g.mid =
    written_once a now r h.mid h.once
    ∙ ap (λ (c : CoreNow). with_written a now c (plain r)) both.1
    ∙ ap (λ (x : FeedWrite). with_written x now (roomless g.mid.core) (plain r)) both.0
    ∙ ap (λ (x : RecordNow). with_written b now (roomless g.mid.core) x) like
    ∙ sym (written_once b now s g.mid g.once) in
    (both.0, closes_for (fault_put a) (fault_put b) now h.mid g.mid new behind (ap fault_put both.0) mid h.closes g.closes)

-- ---- a read

read_plain : (a : EndRead) (x : Option FeedNow) → read_entries a x ≡ read_entries a (option_map roomless_feed x)
read_plain (read.Got n) (Some v) = refl
read_plain (read.Got n) None = refl
read_plain read.NotYet x = refl
read_plain read.Ended x = refl
read_plain read.Failed x = refl
read_plain read.NoMemory x = refl

abbrev with_read : ReadNow → ℕ → CoreNow → RecordNow → RecordNow
with_read x now c p = record p {
  core = c;
  journal = (p.journal ++ read_entries x.answer p.core.live.feed) ++ closed_entries x.closed;
  spent = p.spent ++ option_to_list x.closed;
  waits = waits_read x.answer p.core.facts.node now p.core.live.session.phase c.live.session.phase p.waits;
  held = held_read x.answer (is_some x.closed) p.held;
  last = moment_read x.answer now p.last;
}

abbrev read_now : RecordRead → Option SeenEnd → ReadNow
read_now x closed = record { answer = x.answer; heard = x.heard; closed = closed }

read_once : (x : RecordRead) (now : ℕ) (r new : RecordNow) (h : ReadsFeedOnce x now r new) → plain new ≡ with_read (read_now x h.closed) now (roomless new.core) (plain r)
read_once x now r new h =
    ap plain h.only
    ∙ ap (λ (es : List Entry). record (plain r) {
      core = roomless new.core;
      journal = (r.journal ++ es) ++ closed_entries h.closed;
      spent = r.spent ++ option_to_list h.closed;
      waits = waits_read x.answer r.core.facts.node now r.core.live.session.phase new.core.live.session.phase r.waits;
      held = held_read x.answer (is_some h.closed) r.held;
      last = moment_read x.answer now r.last;
    }) (read_plain x.answer r.core.live.feed)

counts_answer : (h g : Option Heard) (r s new behind : RecordNow) → h ≡ g → plain r ≡ plain s → CountsAnswer h r new → CountsAnswer g s behind → plain new ≡ plain behind
counts_answer h g r s new behind same like c d = by h c (subst (λ (x : Option Heard). CountsAnswer x s behind) (sym same) d)
  where
    stays : new ≡ r → behind ≡ s → plain new ≡ plain behind
    stays c d = ap plain c ∙ like ∙ sym (ap plain d)

    by : (h : Option Heard) → CountsAnswer h r new → CountsAnswer h s behind → plain new ≡ plain behind
    by (Some (heard.ReconnectOk seen)) c d = counts (to_count r.core.live) r s new behind like refl c d
    by h c d = stays c d

ends_read : (f : Option WireFault) (h g : Option Heard) (now : ℕ) (r s new behind : RecordNow) → h ≡ g → plain r ≡ plain s → EndsRead f h now r new → EndsRead f g now s behind → plain new ≡ plain behind
ends_read (Some f) h g now r s new behind same like c d = calls.breaks now r s new behind like c d
ends_read None h g now r s new behind same like c d = counts_answer h g r s new behind same like c d

reads : (x y : RecordRead) (now : ℕ) (r s new behind : RecordNow) → FeedIsInMemory r.core → plain r ≡ plain s → x.answer ≢ read.NoMemory → y.answer ≢ read.NoMemory → Reads x now r new → Reads y now s behind →
    (x ≡ y) × (plain new ≡ plain behind)
reads x y now r s new behind here like m k h g =
    let one = read_now x h.once.closed in
    let other = read_now y g.once.closed in
    let both = cores.exact.reads one other r.core s.core h.mid.core g.mid.core here (ap (λ (z : RecordNow). z.core) like) m k h.once.core g.once.core in
    let same : x ≡ y = ap (λ (z : ReadNow). record { answer = z.answer; heard = z.heard }) both.0 in
    let mid : plain h.mid ≡ plain g.mid =
    read_once x now r h.mid h.once
    ∙ ap (λ (c : CoreNow). with_read one now c (plain r)) both.1
    ∙ ap (λ (z : ReadNow). with_read z now (roomless g.mid.core) (plain r)) both.0
    ∙ ap (λ (z : RecordNow). with_read other now (roomless g.mid.core) z) like
    ∙ sym (read_once y now s g.mid g.once) in (
      same,
      ends_read (fault_read y) x.heard y.heard now h.mid g.mid new behind (ap (λ (z : RecordRead). z.heard) same) mid
          (subst (λ (z : RecordRead). EndsRead (fault_read z) x.heard now h.mid new) same h.ends) g.ends,
    )

-- ---- what is handed out

hands : (x y : Parcel) (r s new behind : RecordNow) → plain r ≡ plain s → HandsOut (Some x) r new → HandsOut (Some y) s behind → (x ≡ y) × (plain new ≡ plain behind)
hands x y r s new behind like (is, only) (are, last) =
    let both = cons_same x y new.parcels behind.parcels (sym is ∙ ap (λ (z : RecordNow). z.parcels) like ∙ are) in (
      both.0,
      ap plain only
          ∙ ap (λ (ps : List Parcel). record (plain r) { parcels = ps; handed = r.handed + 1 }) both.1
          ∙ ap (λ (z : RecordNow). record z { parcels = behind.parcels; handed = z.handed + 1 }) like
          ∙ sym (ap plain last),
    )

-- ---- the plan

pub plan_some : (x : PlanStep) (a b : Result (Unit {0}) memory.NoMemory) (now : ℕ) (r s new behind : RecordNow) → plain r ≡ plain s → answer_planned a ≢ stepped.NoMemory → answer_planned b ≢ stepped.NoMemory →
    PlansAs (Some x) a now r new → PlansAs (Some x) b now s behind → plain new ≡ plain behind
plan_some x (Err e) b now r s new behind like m k h g = absurd (m refl)
plan_some x (Ok u) (Err e) now r s new behind like m k h g = absurd (k refl)
plan_some (step.Post p) (Ok u) (Ok w) now r s new behind like m k h g =
    ap plain h ∙ ap (λ (z : RecordNow). record (after_post p now z) { room = no_room }) like ∙ sym (ap plain g)
plan_some step.Dial (Ok u) (Ok w) now r s new behind like m k h g =
    ap plain h ∙ ap (λ (z : RecordNow). record (with_dial z) { room = no_room }) like ∙ sym (ap plain g)
plan_some step.Down (Ok u) (Ok w) now r s new behind like m k h g = calls.goes_down true r s new behind like h g

plans : (x : Option PlanStep) (a b : Result (Unit {0}) memory.NoMemory) (now : ℕ) (r s new behind : RecordNow) → plain r ≡ plain s → answer_planned a ≢ stepped.NoMemory → answer_planned b ≢ stepped.NoMemory →
    PlansAs x a now r new → PlansAs x b now s behind → plain new ≡ plain behind
plans (Some x) a b now r s new behind like m k h g = plan_some x a b now r s new behind like m k h g
plans None a b now r s new behind like m k h g = calls.goes_down false r s new behind like h.1 g.1

planned_one : (a b : Result (Unit {0}) memory.NoMemory) → answer_planned a ≢ stepped.NoMemory → answer_planned b ≢ stepped.NoMemory → answer_planned a ≡ answer_planned b
planned_one (Ok u) (Ok w) m k = refl
planned_one (Ok u) (Err e) m k = absurd (k refl)
planned_one (Err e) b m k = absurd (m refl)

returned_plain : (r : RecordNow) (x : Option PlanStep) → returned_planned x r ≡ returned_planned x (plain r)
returned_plain r (Some step.Down) = refl
returned_plain r (Some step.Dial) = refl
returned_plain r (Some (step.Post p)) = refl
returned_plain r None = refl

-- ---- what an answer leaves of the words

module _ (t u : Throttled) (before behind : Gate → ℕ) (alone : AreAlone (places t.throttles)) (here : AreAlone (places u.throttles)) (same : (gate : Gate) → words t.before gate ≡ words u.before gate) where
  kept : Keep before behind t.throttles t.before t.behind → Keep before behind u.throttles u.before u.behind → (gate : Gate) → words t.behind gate ≡ words u.behind gate
  kept h g gate = let one = h gate (alone gate) in let other = g gate (here gate) in let was = same gate in omega (arith, one, other, was)

  returned : Return before t.throttles t.before t.behind → Return before u.throttles u.before u.behind → (gate : Gate) → words t.behind gate ≡ words u.behind gate
  returned h g gate = let one = h gate (alone gate) in let other = g gate (here gate) in let was = same gate in omega (arith, one, other, was)

  stayed : Stay t.throttles t.before t.behind → Stay u.throttles u.before u.behind → (gate : Gate) → words t.behind gate ≡ words u.behind gate
  stayed h g gate = let one = h gate (alone gate) in let other = g gate (here gate) in let was = same gate in omega (arith, one, other, was)

framed_words : (f : Framed) (t u : Throttled) (before behind : Gate → ℕ) → AreAlone (places t.throttles) → AreAlone (places u.throttles) → ((gate : Gate) → words t.before gate ≡ words u.before gate) →
    WordsFramed f t before behind → WordsFramed f u before behind → (gate : Gate) → words t.behind gate ≡ words u.behind gate
framed_words framed.Granted t u before behind alone here same h g = kept t u before behind alone here same h g
framed_words (framed.Full stage out) t u before behind alone here same h g = kept t u before behind alone here same h g
framed_words (framed.Again stage seen now) t u before behind alone here same h g = kept t u before behind alone here same h g
framed_words framed.Passed t u before behind alone here same h g = returned t u before behind alone here same h g
framed_words (framed.Faulted cause) t u before behind alone here same h g = returned t u before behind alone here same h g
framed_words (framed.Half (half.Fault e)) t u before behind alone here same h g = returned t u before behind alone here same h g
framed_words (framed.Half half.NotYet) t u before behind alone here same h g = stayed t u before behind alone here same h g
framed_words (framed.Half half.Wrote) t u before behind alone here same h g = stayed t u before behind alone here same h g
framed_words (framed.Half half.Authed) t u before behind alone here same h g = stayed t u before behind alone here same h g
framed_words (framed.Half half.NoMemory) t u before behind alone here same h g = stayed t u before behind alone here same h g
framed_words (framed.Acked number) t u before behind alone here same h g = stayed t u before behind alone here same h g
framed_words (framed.Accepted number) t u before behind alone here same h g = stayed t u before behind alone here same h g
framed_words (framed.Obeyed full) t u before behind alone here same h g = stayed t u before behind alone here same h g
framed_words framed.NoMemory t u before behind alone here same h g = stayed t u before behind alone here same h g

-- ---- the rows

-- two steps that begin alike
module _ (w v : Worked) (alone : WorkIsAlone w) (like : begun w ≡ begun v) (m : w.answer ≢ stepped.NoMemory) (k : v.answer ≢ stepped.NoMemory) (r s new behind : RecordNow) (same : plain r ≡ plain s) where
  now : w.now ≡ v.now
  now = ap (λ (b : Begun). b.now) like

  same_throttles : w.bytes.throttles ≡ v.bytes.throttles
  same_throttles = ap (λ (b : Begun). b.throttles) like

  word : (gate : Gate) → words w.bytes.before gate ≡ words v.bytes.before gate
  word gate = ap (λ (b : Begun). b.bytes gate) like

  numbers : bare_numbers w.numbers.before ≡ bare_numbers v.numbers.before
  numbers = ap (λ (b : Begun). b.numbers) like

  here : AreAlone (places v.bytes.throttles)
  here gate = sym (ap (λ (t : Throttles). places t gate) same_throttles) ∙ alone.throttles gate

  there : IsAlone v.numbers.place
  there = subst IsAlone (ap (λ (b : Begun). b.counter) like) alone.counter

  held_same : r.core.live.granted ≡ s.core.live.granted
  held_same = ap (λ (x : RecordNow). x.core.live.granted) same

  throttles : nexts.LikeThrottles w.bytes v.bytes
  throttles = record { alone = alone.throttles; throttles = same_throttles; word = word }

  -- what they come to, by its parts
  comes : w.answer ≡ v.answer → ((gate : Gate) → words w.bytes.behind gate ≡ words v.bytes.behind gate) → bare_numbers w.numbers.behind ≡ bare_numbers v.numbers.behind → done w ≡ done v
  comes a b n =
      ap (λ (x : Stepped). record { answer = x; bytes = words w.bytes.behind; numbers = bare_numbers w.numbers.behind }) a
      ∙ ap (λ (x : Gate → ℕ). record { answer = v.answer; bytes = x; numbers = bare_numbers w.numbers.behind }) (fun_ext b)
      ∙ ap (λ (x : SeenNumberPass). record { answer = v.answer; bytes = words v.bytes.behind; numbers = x }) n

  took_nothing : w.bytes.behind ≡ w.bytes.before → v.bytes.behind ≡ v.bytes.before → (gate : Gate) → words w.bytes.behind gate ≡ words v.bytes.behind gate
  took_nothing h g gate = ap (λ (p : TakePasses). words p gate) h ∙ word gate ∙ sym (ap (λ (p : TakePasses). words p gate) g)

  drew_nothing : w.numbers.behind ≡ w.numbers.before → v.numbers.behind ≡ v.numbers.before → bare_numbers w.numbers.behind ≡ bare_numbers v.numbers.behind
  drew_nothing h g = ap bare_numbers h ∙ numbers ∙ sym (ap bare_numbers g)

  gave_back : (i j : Gate → ℕ) → i ≡ j → GivesBack i w.bytes → GivesBack j v.bytes → (gate : Gate) → words w.bytes.behind gate ≡ words v.bytes.behind gate
  gave_back i j e h g gate =
      h gate (alone.throttles gate) ∙ ap (λ (x : ℕ). x - i gate) (word gate) ∙ ap (λ (n : Gate → ℕ). words v.bytes.before gate - n gate) e ∙ sym (g gate (here gate))

  answered : (a b : Stepped) → w.answer ≡ a → v.answer ≡ b → a ≡ b → w.answer ≡ v.answer
  answered a b h g e = h ∙ e ∙ sym g

  rests : Rests w r new → Rests v s behind → (done w ≡ done v) × (plain new ≡ plain behind)
  rests h g = (
    comes (answered _ _ h.answers g.answers refl) (took_nothing h.bytes g.bytes) (drew_nothing h.numbers g.numbers),
    ap plain h.only ∙ ap (λ (x : RecordNow). record x { held = false }) same ∙ sym (ap plain g.only),
  )

  returned_one : returned_planned (next_step r) r ≡ returned_planned (next_step s) s
  returned_one = returned_plain r (next_step r) ∙ ap (λ (x : RecordNow). returned_planned (next_step x) x) same ∙ sym (returned_plain s (next_step s))

  step_plan : StepsPlan w r new → StepsPlan v s behind → (done w ≡ done v) × (plain new ≡ plain behind)
  step_plan h g =
      let first : answer_planned h.taken ≢ stepped.NoMemory = λ e. m (h.answers ∙ e) in
      let last : answer_planned g.taken ≢ stepped.NoMemory = λ e. k (g.answers ∙ e) in
      let step : next_step s ≡ next_step r = sym (ap (λ (x : RecordNow). next_step x) same) in
      let planned : PlansAs (next_step r) g.taken w.now s behind =
      subst (λ (x : Option PlanStep). PlansAs x g.taken w.now s behind) step (subst (λ (n : ℕ). PlansAs (next_step s) g.taken n s behind) (sym now) g.plans) in (
        comes (answered _ _ h.answers g.answers (planned_one h.taken g.taken first last)) (gave_back _ _ returned_one h.bytes g.bytes) (drew_nothing h.numbers g.numbers),
        plans (next_step r) h.taken g.taken w.now r s new behind same first last h.plans planned,
      )

  step_hand : StepsHand w r new → StepsHand v s behind → (done w ≡ done v) × (plain new ≡ plain behind)
  step_hand h g =
      let (x, is, a) = handed w.answer r new h.hands in
      let (y, are, b) = handed v.answer s behind g.hands in
      let both = hands x y r s new behind same a b in
      (comes (is ∙ ap (λ (p : Parcel). stepped.Hand p) both.0 ∙ sym are) (took_nothing h.bytes g.bytes) (drew_nothing h.numbers g.numbers), both.1)
    where
      handed : (a : Stepped) (r new : RecordNow) → HandsAs a r new → (x : Parcel) × (a ≡ stepped.Hand x) × HandsOut (Some x) r new
      handed (stepped.Hand x) r new h = (x, refl, h)
      handed a r new h = absurd h

  fault_returned : (f g : Option WireFault) → f ≡ g → returned_for f r ≡ returned_for g s
  fault_returned f g e = by f ∙ ap (λ (x : Option WireFault). returned_for x s) e
    where
      by : (f : Option WireFault) → returned_for f r ≡ returned_for f s
      by (Some f) = ap held held_same
      by None = refl

  step_write : FeedIsInMemory r.core → StepsWrite w r new → StepsWrite v s behind → (done w ≡ done v) × (plain new ≡ plain behind)
  step_write there h g =
      let both = writes h.put g.put w.now r s new behind there same (λ e. m (h.answers ∙ ap answer_put e)) (λ e. k (g.answers ∙ ap answer_put e)) h.writes
      (subst (λ (n : ℕ). Writes g.put n s behind) (sym now) g.writes) in (
        comes (answered _ _ h.answers g.answers (ap answer_put both.0)) (gave_back _ _ (fault_returned _ _ (ap fault_put both.0)) h.bytes g.bytes) (drew_nothing h.numbers g.numbers),
        both.1,
      )

  read_memory : (x : RecordRead) → answer_read x ≢ stepped.NoMemory → x.answer ≢ read.NoMemory
  read_memory x m e = m (ap (λ (a : EndRead). answer_read (record x { answer = a })) e)

  step_read : FeedIsInMemory r.core → StepsRead w r new → StepsRead v s behind → (done w ≡ done v) × (plain new ≡ plain behind)
  step_read there h g =
      let both = reads h.read g.read w.now r s new behind there same (read_memory h.read (λ e. m (h.answers ∙ e))) (read_memory g.read (λ e. k (g.answers ∙ e))) h.reads
      (subst (λ (n : ℕ). Reads g.read n s behind) (sym now) g.reads) in
      let raised : bare_numbers w.numbers.behind ≡ bare_numbers v.numbers.behind =
      ap bare_numbers h.numbers ∙ raised_plain h.read.heard w.numbers.before ∙ ap (raised_by h.read.heard) numbers
      ∙ ap (λ (x : RecordRead). raised_by x.heard (bare_numbers v.numbers.before)) both.0 ∙ sym (raised_plain g.read.heard v.numbers.before) ∙ sym (ap bare_numbers g.numbers) in
      (comes (answered _ _ h.answers g.answers (ap answer_read both.0)) (gave_back _ _ (fault_returned _ _ (ap fault_read both.0)) h.bytes g.bytes) raised, both.1)
    where
      raised_plain : (h : Option Heard) (p : SeenNumberPass) → bare_numbers (raised_by h p) ≡ raised_by h (bare_numbers p)
      raised_plain (Some (heard.RetryGlobal n)) p = refl
      raised_plain h p = refl

  composed_memory : (c : Composed) → answer_composed c ≢ stepped.NoMemory → c ≢ composed.NoMemory
  composed_memory c m e = m (ap answer_composed e)

  step_compose : is_some (to_compose r.core) ≡ true → StepsCompose w r new → StepsCompose v s behind → (done w ≡ done v) × (plain new ≡ plain behind)
  step_compose some h g =
      let texts : to_compose r.core ≡ to_compose s.core =
      composing.to_compose_plain r.core ∙ ap (λ (x : RecordNow). to_compose x.core) same ∙ sym (composing.to_compose_plain s.core) in
      let (t, a, b) = texted (λ t. ComposesAs t h.composed r new) (λ t. ComposesAs t g.composed s behind) (to_compose r.core) some h.composes
      (subst (λ (o : Option CoreText). IfSome o (λ t. ComposesAs t g.composed s behind)) (sym texts) g.composes) in
      let both = composing.composes_one h.composed g.composed (composed_memory h.composed (λ e. m (h.answers ∙ e))) (composed_memory g.composed (λ e. k (g.answers ∙ e))) r s new behind same
      w.numbers.place v.numbers.place alone.counter there w.numbers.before w.numbers.behind v.numbers.before v.numbers.behind numbers t a b h.numbers g.numbers in
      (comes (answered _ _ h.answers g.answers (ap answer_composed both.answers)) (took_nothing h.bytes g.bytes) both.numbers, both.records)
    where
      texted : (P Q : CoreText → Type 0) (o : Option CoreText) → is_some o ≡ true → IfSome o P → IfSome o Q → (t : CoreText) × P t × Q t
      texted P Q (Some t) e a b = (t, a, b)
      texted P Q None e a b = absurd (cc e)

  framed_memory : (f : Framed) → answer_framed f ≢ stepped.NoMemory → framing.is_memory f ≡ true
  framed_memory framed.NoMemory m = absurd (m refl)
  framed_memory (framed.Half half.NoMemory) m = absurd (m refl)
  framed_memory (framed.Half half.NotYet) m = refl
  framed_memory (framed.Half half.Wrote) m = refl
  framed_memory (framed.Half half.Authed) m = refl
  framed_memory (framed.Half (half.Fault e)) m = refl
  framed_memory f m = refl

  step_frame : IsAskedIfSigned r.core.live.session.phase r.core.live.feed → StepsFrame w r new → StepsFrame v s behind → (done w ≡ done v) × (plain new ≡ plain behind)
  step_frame asked h g =
      let both = framing.frames_one w.bytes v.bytes throttles w.now r s new behind asked same h.framed g.framed (framed_memory h.framed (λ e. m (h.answers ∙ e))) (framed_memory g.framed (λ e. k (g.answers ∙ e)))
      h.frames (subst (λ (n : ℕ). Frames v.bytes g.framed n s behind) (sym now) g.frames) in
      let left : new.core.live.granted ≡ behind.core.live.granted = ap (λ (x : RecordNow). x.core.live.granted) both.1 in
      let other : WordsFramed h.framed v.bytes (held r.core.live.granted) (held new.core.live.granted) =
      subst (λ (f : Framed). WordsFramed f v.bytes (held r.core.live.granted) (held new.core.live.granted)) (sym both.0)
      (subst (λ (x : PeerGrants). WordsFramed g.framed v.bytes (held x) (held new.core.live.granted)) (sym held_same)
      (subst (λ (x : PeerGrants). WordsFramed g.framed v.bytes (held s.core.live.granted) (held x)) (sym left) g.bytes)) in (
        comes (answered _ _ h.answers g.answers (ap answer_framed both.0))
            (framed_words h.framed w.bytes v.bytes (held r.core.live.granted) (held new.core.live.granted) alone.throttles here word h.bytes other) (drew_nothing h.numbers g.numbers),
        both.1,
      )

  by_due : (d : Due) → FeedIsInMemory r.core → IsAskedIfSigned r.core.live.session.phase r.core.live.feed → (d ≡ due.Compose → is_some (to_compose r.core) ≡ true) → StepsBy d w r new → StepsBy d v s behind →
      (done w ≡ done v) × (plain new ≡ plain behind)
  by_due due.Nothing in_memory asked some h g = rests h g
  by_due due.Plan in_memory asked some h g = step_plan h g
  by_due due.Hand in_memory asked some h g = step_hand h g
  by_due (due.Connect at) in_memory asked some h g = rests h g
  by_due due.Write in_memory asked some h g = step_write in_memory h g
  by_due due.Frame in_memory asked some h g = step_frame asked h g
  by_due due.Read in_memory asked some h g = step_read in_memory h g
  by_due due.Compose in_memory asked some h g = step_compose (some refl) h g

-- ---- a step

compose_due : (a b c d e f g : Bool) (at : ℕ) →
    (if a then due.Plan else (if b then due.Hand else (if c then due.Connect at else (if d then due.Write else (if e then due.Frame else (if f then due.Read else (if g then due.Compose else due.Nothing)))))))
    ≡ due.Compose → g ≡ true
compose_due true b c d e f g at h = absurd (cc h)
compose_due false true c d e f g at h = absurd (cc h)
compose_due false false true d e f g at h = absurd (cc h)
compose_due false false false true e f g at h = absurd (cc h)
compose_due false false false false true f g at h = absurd (cc h)
compose_due false false false false false true g at h = absurd (cc h)
compose_due false false false false false false true at h = refl
compose_due false false false false false false false at h = absurd (cc h)

pub compose_is_due : (now : ℕ) (r : RecordNow) → due_step now r ≡ due.Compose → is_some (to_compose r.core) ≡ true
compose_is_due now r =
    compose_due (has_plan r) (has_parcel r.parcels) (may_connect now r) (may_write r) (has_frame r) (may_read r) (may_compose r) r.waits.next_dial

-- room is made, and then the step that is due is taken
pub takes : (a : Stepped) (w : Worked) (r new : RecordNow) → a ≢ stepped.NoMemory → StepsAs a w r new → (mid : RecordNow) × IsSameButRoom r mid × TakesDue w mid new
takes stepped.NoMemory w r new m h = absurd (m refl)
takes stepped.Moved w r new m h = h
takes (stepped.Hand x) w r new m h = h
takes stepped.Dry w r new m h = h
takes (stepped.Full stage out) w r new m h = h
takes (stepped.Again stage seen now) w r new m h = h
takes stepped.Spent w r new m h = h
takes (stepped.Faulted cause) w r new m h = h

pub steps : (w v : Worked) (r s new behind : RecordNow) → FeedIsInMemory r.core → IsAskedIfSigned r.core.live.session.phase r.core.live.feed → WorkIsAlone w → begun w ≡ begun v → plain r ≡ plain s →
    Took w r new → Took v s behind → (done w ≡ done v) × (plain new ≡ plain behind)
steps w v r s new behind here asked alone like same h g =
    let (mid, room, one) = takes w.answer w r new h.memory h.steps in
    let (amid, space, other) = takes v.answer v s behind g.memory g.steps in
    let both : plain mid ≡ plain amid = ap plain room ∙ same ∙ sym (ap plain space) in
    let dues : due_step v.now amid ≡ due_step w.now mid =
    ap (λ (n : ℕ). due_step n amid) (sym (ap (λ (b : Begun). b.now) like)) ∙ due_one w.now amid mid (sym both) in
    by_due w v alone like h.memory g.memory mid amid new behind both (due_step w.now mid)
    (subst (λ (x : RecordNow). FeedIsInMemory x.core) (sym room) here) (subst (λ (x : RecordNow). IsAskedIfSigned x.core.live.session.phase x.core.live.feed) (sym room) asked)
    (compose_is_due w.now mid)
    one (subst (λ (d : Due). StepsBy d v amid behind) dues other)
