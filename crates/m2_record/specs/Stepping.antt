-- One step of a record: the first that is due, what it leaves, and what it answers. Which step is due is a table, and this is
-- its other half: for each of its rows what the step does. This project's own.
use Rattle.std.specs.Prelude.{◌≡◌, ℕ, ◌≤◌, false, Option, Some, None, Result, Ok, Err, IfSome}
use Rattle.m2_bytes.specs.declared.memory.NoMemory as memory
use Rattle.m2_core.specs.LiveNow as live
use Rattle.m2_core.specs.LiveHearing.{raised_by}
use Rattle.m2_core.specs.Granting.{Throttled}
use Rattle.m2_core.specs.ToCompose.{to_compose}
use Rattle.m2_dispatch.specs.Parcel.{IsOwned}
use Rattle.m2_feed.specs.FeedNow.{FeedNow}
use Rattle.m2_feed.specs.declared.answers.FeedWrite.{FeedWrite}
use Rattle.m2_feed.specs.declared.answers.FeedWrite.TheVariants as put
use Rattle.m2_handshake.specs.declared.answer.HalfStep.TheVariants as half
use Rattle.m2_feed.specs.declared.wire_fault.WireFault.TheVariants as fault
use Rattle.m2_journal.specs.declared.facts.PlanStep.{PlanStep}
use Rattle.m2_shared.specs.declared.limits.TheConstants.{LAST_NUMBER}
use Rattle.m2_shared.specs.Numbers.{SeenNumberPass}
use Rattle.m2_shared.specs.Place.{Place}
use Rattle.m2_shared.specs.Gates.{Gate, Places, Return, Stay, held}
use Rattle.m2_record.specs.declared.composing.Composed.{Composed}
use Rattle.m2_record.specs.declared.composing.Composed.TheVariants as composed
use Rattle.m2_record.specs.declared.due.Due.{Due}
use Rattle.m2_record.specs.declared.due.Due.TheVariants as due
use Rattle.m2_record.specs.declared.framing.Framed.{Framed}
use Rattle.m2_record.specs.declared.framing.Framed.TheVariants as framed
use Rattle.m2_record.specs.declared.reading.RecordRead.{RecordRead}
use Rattle.m2_record.specs.declared.stepped.Stepped.{Stepped}
use Rattle.m2_record.specs.declared.stepped.Stepped.TheVariants as stepped
use Rattle.m2_record.specs.declared.work.Work.{Work}
use Rattle.m2_record.specs.Calls.{ComposesAs, DrawsAs, GoesDown, HandsOut, IsSameButRoom, TakesNext, Writes, fault_put, returned_by, returned_for}
use Rattle.m2_record.specs.Due.{due_step, next_step}
use Rattle.m2_record.specs.Framing.{Frames, WordsFramed}
use Rattle.m2_record.specs.Reading.{Reads, answer_read, fault_read}
use Rattle.m2_record.specs.RecordNow.{RecordNow}

-- ---- what a step works with

-- the place of a counter's word, and the pass before the step and behind it
pub record Counted : Type 0 where
  pub place : Place
  pub before : SeenNumberPass
  pub behind : SeenNumberPass

-- the moment and the answer of a step; the throttle and the counter of global numbers, with their passes before and behind
pub record Worked : Type 0 where
  pub now : ℕ
  pub answer : Stepped
  pub bytes : Throttled
  pub numbers : Counted

abbrev pub worked : (now : ℕ) → Stepped → Work → Work → Worked
worked now answer old new = record {
  now = now;
  answer = answer;
  bytes = record { throttles = old.throttles.now; before = old.passes.now; behind = new.passes.now };
  numbers = record { place = old.numbers.now.place; before = old.number_pass.now; behind = new.number_pass.now };
}

-- so much is given back to the throttles that are alone
abbrev pub GivesBack : (Gate → ℕ) → Throttled → Type 0
GivesBack n t = Return n t.throttles t.before t.behind

abbrev pub TakesNothing : Throttled → Type 0
TakesNothing t = t.behind ≡ t.before

-- each throttle that is alone has as much out as before
abbrev pub KeepsWords : Throttled → Type 0
KeepsWords t = Stay t.throttles t.before t.behind

abbrev pub DrawsNothing : Counted → Type 0
DrawsNothing n = n.behind ≡ n.before

-- each number that the pass knew the counter to have come to, it knows so still
abbrev pub KeepsReached : (before behind : SeenNumberPass) → Type 0
KeepsReached before behind = (n : ℕ) → n ≤ LAST_NUMBER → n ≤ before.least → n ≤ behind.least

-- a work has the same counter and the same throttles still
pub record IsSameWork (old new : Work) : Type 0 where
  pub numbers : new.numbers.now ≡ old.numbers.now
  pub throttles : new.throttles.now ≡ old.throttles.now

-- ---- what the answers of its calls say

abbrev pub answer_planned : Result (Unit {0}) memory.NoMemory → Stepped
answer_planned (Ok _) = stepped.Moved
answer_planned (Err _) = stepped.NoMemory

abbrev pub answer_put : FeedWrite → Stepped
answer_put (put.Put n acknowledged) = stepped.Moved
answer_put put.NotYet = stepped.Moved
answer_put put.Failed = stepped.Faulted fault.Failed
answer_put put.NoMemory = stepped.NoMemory

abbrev pub answer_framed : Framed → Stepped
answer_framed (framed.Half (half.Fault e)) = stepped.Faulted (fault.Half e)
answer_framed (framed.Half half.NoMemory) = stepped.NoMemory
answer_framed (framed.Faulted cause) = stepped.Faulted cause
answer_framed (framed.Full stage held) = stepped.Full stage held
answer_framed (framed.Again stage seen now) = stepped.Again (Some stage) seen now
answer_framed framed.NoMemory = stepped.NoMemory
answer_framed _ = stepped.Moved

abbrev pub answer_composed : Composed → Stepped
answer_composed composed.Spent = stepped.Spent
answer_composed (composed.Again seen now) = stepped.Again None seen now
answer_composed composed.NoMemory = stepped.NoMemory
answer_composed _ = stepped.Moved

-- ---- the rows of the table

-- the plan's next step; where none is left, the session is given up since a number is used up
abbrev pub PlansAs : Option PlanStep → Result (Unit {0}) memory.NoMemory → (now : ℕ) → RecordNow → RecordNow → Type 0
PlansAs (Some x) answer now old new = TakesNext (Some x) answer now old new
PlansAs None answer now old new = (answer ≡ Ok tt) × GoesDown false old new

abbrev pub returned_planned : Option PlanStep → RecordNow → Gate → ℕ
returned_planned (Some x) r gate = returned_by (Some x) r gate
returned_planned None r gate = held r.core.live.granted gate

pub record StepsPlan (w : Worked) (old new : RecordNow) : Type 0 where
  pub taken : Result (Unit {0}) memory.NoMemory
  pub plans : PlansAs (next_step old) taken w.now old new
  pub answers : w.answer ≡ answer_planned taken
  pub bytes : GivesBack (returned_planned (next_step old) old) w.bytes
  pub numbers : DrawsNothing w.numbers

-- the first parcel that is ready
abbrev pub HandsAs : Stepped → RecordNow → RecordNow → Type 0
HandsAs (stepped.Hand x) old new = HandsOut (Some x) old new
HandsAs answer old new = ⊥

pub record StepsHand (w : Worked) (old new : RecordNow) : Type 0 where
  pub hands : HandsAs w.answer old new
  pub bytes : TakesNothing w.bytes
  pub numbers : DrawsNothing w.numbers

pub record StepsWrite (w : Worked) (old new : RecordNow) : Type 0 where
  pub put : FeedWrite
  pub writes : Writes put w.now old new
  pub answers : w.answer ≡ answer_put put
  pub bytes : GivesBack (returned_for (fault_put put) old) w.bytes
  pub numbers : DrawsNothing w.numbers

pub record StepsFrame (w : Worked) (old new : RecordNow) : Type 0 where
  pub framed : Framed
  pub frames : Frames w.bytes framed w.now old new
  pub answers : w.answer ≡ answer_framed framed
  pub bytes : WordsFramed framed w.bytes (held old.core.live.granted) (held new.core.live.granted)
  pub numbers : DrawsNothing w.numbers

-- a number that the peer tells raises the counter
pub record StepsRead (w : Worked) (old new : RecordNow) : Type 0 where
  pub read : RecordRead
  pub reads : Reads read w.now old new
  pub answers : w.answer ≡ answer_read read
  pub bytes : GivesBack (returned_for (fault_read read) old) w.bytes
  pub numbers : w.numbers.behind ≡ raised_by read.heard w.numbers.before

pub record StepsCompose (w : Worked) (old new : RecordNow) : Type 0 where
  pub composed : Composed
  pub composes : IfSome (to_compose old.core) (λ t. ComposesAs t composed old new)
  pub answers : w.answer ≡ answer_composed composed
  pub bytes : TakesNothing w.bytes
  pub numbers : DrawsAs composed w.numbers.place w.numbers.before w.numbers.behind

-- Nothing but a connect is due: the feed is held no more.
pub record Rests (w : Worked) (old new : RecordNow) : Type 0 where
  pub only : new ≡ record old { held = false; room = new.room }
  pub answers : w.answer ≡ stepped.Dry
  pub bytes : TakesNothing w.bytes
  pub numbers : DrawsNothing w.numbers

abbrev pub StepsBy : Due → Worked → RecordNow → RecordNow → Type 0
StepsBy due.Nothing w old new = Rests w old new
StepsBy due.Plan w old new = StepsPlan w old new
StepsBy due.Hand w old new = StepsHand w old new
StepsBy (due.Connect at) w old new = Rests w old new
StepsBy due.Write w old new = StepsWrite w old new
StepsBy due.Frame w old new = StepsFrame w old new
StepsBy due.Read w old new = StepsRead w old new
StepsBy due.Compose w old new = StepsCompose w old new

-- the first step that is due
abbrev pub TakesDue : Worked → RecordNow → RecordNow → Type 0
TakesDue w old new = StepsBy (due_step w.now old) w old new

-- ---- want of memory

-- but for how far a half of the handshake has come with what was read, and for room
abbrev pub FeedStays : Option FeedNow → Option FeedNow → Type 0
FeedStays (Some v) (Some x) = x ≡ record v { reading = x.reading; room = x.room }
FeedStays None None = Unit {0}
FeedStays v x = ⊥

-- all stays but room, and what a half of the handshake has looked at
pub record NothingDone (old new : RecordNow) : Type 0 where
  pub feed : FeedStays old.core.live.feed new.core.live.feed
  pub only : new ≡ record old { core = record old.core { live = record old.core.live { feed = new.core.live.feed } }; room = new.room }

-- nothing is done to the record, nothing is granted or given back, and no number is drawn
pub record FindsNoMemory (w : Worked) (old new : RecordNow) : Type 0 where
  pub nothing : NothingDone old new
  pub bytes : KeepsWords w.bytes
  pub numbers : DrawsNothing w.numbers

-- this for want of memory
abbrev pub IfMemory : Stepped → Type 0 → Type 0
IfMemory stepped.NoMemory P = P
IfMemory answer P = Unit {0}

-- ---- a step

-- The first step that is due is taken, behind room that was made for it; for want of memory nothing is done.
abbrev pub StepsAs : Stepped → Worked → RecordNow → RecordNow → Type 0
StepsAs stepped.NoMemory w old new = FindsNoMemory w old new
StepsAs answer w old new = (mid : RecordNow) × IsSameButRoom old mid × TakesDue w mid new

-- a parcel that a step hands out was granted by the throttles whose words lie there
abbrev pub IsHandedOwned : Places → Stepped → Type 0
IsHandedOwned places (stepped.Hand x) = IsOwned places x
IsHandedOwned places answer = Unit {0}
