-- What a core does with the front of its feed: one entry at most, by what stands there.
use Rattle.std.specs.Prelude.{◌≡◌, ℕ, ◌<◌, ◌≤◌, Bool, true, false, Some}
use Rattle.m2_feed.specs.Calls.{IsBad, Owes, Rests}
use Rattle.m2_feed.specs.FeedNow.{Reading}
use Rattle.m2_frame.specs.Frame.{message_tag}
use Rattle.m2_feed.specs.declared.wire_fault.WireFault.TheVariants as fault
use Rattle.m2_feed.specs.declared.frame_heard.FrameHeard.{FrameHeard}
use Rattle.m2_feed.specs.declared.frame_heard.FrameHeard.TheVariants as heard
use Rattle.m2_feed.specs.declared.heard.Heard.TheVariants as answer
use Rattle.m2_journal.specs.Items as item
use Rattle.m2_session.specs.declared.event.Effects.{Effects}
use Rattle.m2_session.specs.declared.event.Event.TheVariants as event
use Rattle.m2_session.specs.Steps.{nothing, step_of}
use Rattle.m2_shared.specs.Gates.{Gate, Keep, Return, Stay}
use Rattle.m2_shared.specs.declared.more.More.{More}
use Rattle.m2_shared.specs.declared.more.More.TheVariants as more
use Rattle.m2_shared.specs.declared.throttles.TakePasses.{TakePasses}
use Rattle.m2_core.specs.LiveNow.{LiveNow, OnFeedNow, is_ready, is_waiting}
use Rattle.m2_core.specs.LiveCalls.{after_counted, after_fault}
use Rattle.m2_core.specs.declared.next.CoreNext.{CoreNext}
use Rattle.m2_core.specs.declared.next.CoreNext.TheVariants as next
use Rattle.m2_core.specs.declared.resting.CoreRest.{CoreRest}
use Rattle.m2_core.specs.declared.resting.CoreRest.TheVariants as rest
use Rattle.m2_core.specs.Accepting.{Accepts}
use Rattle.m2_core.specs.Agrees.{IsBroken, IsToldTo, LeadsOn, MayCome}
use Rattle.m2_core.specs.CoreNow.{CoreNow}
use Rattle.m2_core.specs.Front.{FrontHeard, HearsOn, asks, rests, tells}
use Rattle.m2_core.specs.Granting.{HasAsked, Throttled}
use Rattle.m2_core.specs.Hearing.{hearing}
use Rattle.m2_core.specs.Passing.{HasPassed, HasStamped}

-- ---- where no whole frame stands at the front

abbrev pub RestSays : CoreRest → Reading → (before after : CoreNow) → Type 0
RestSays rest.Rests r before after = Rests r × (after ≡ before)
RestSays (rest.Asks n) r before after = Owes r n × (after ≡ before)
RestSays (rest.Fault f) r before after = IsBad r f × (after ≡ before)
RestSays rest.Passed r before after = HasPassed before after

-- ---- what has to be so before what was heard is heeded

-- an acknowledgement that may be counted
pub record CanCount (number : ℕ) (c : CoreNow) : Type 0 where
  pub ready : is_ready c.live ≡ true
  pub told : IsToldTo number c
  pub above : c.live.out.queue.base < number
  pub written : number ≤ c.live.out.queue.written

-- the frame at the front is a reset with this mark, which may be obeyed
abbrev pub IsResetHeard : (full : Bool) → CoreNow → Type 0
IsResetHeard full c = hearing c.facts c.live ≡ Some (answer.Reset full)

abbrev pub CanHeed : FrameHeard → CoreNow → Type 0
CanHeed (heard.Acknowledges n) c = CanCount n c
CanHeed (heard.Fault cause) c = IsBroken c
CanHeed (heard.Resets full) c = IsResetHeard full c
CanHeed says c = HearsOn c says

-- ---- what is done

-- the feed is closed for what stands at its front, whether its end is broken too or not
pub record Closes (before after : CoreNow) : Type 0 where
  pub broken : IsBroken before
  pub only : after ≡ record before { live = after_fault before.live }
  pub may : OnFeedNow before.live.feed (λ v. (broken : Bool) → MayCome (item.closed v.end.id broken) before)
  pub leads : OnFeedNow before.live.feed (λ v. (broken : Bool) → LeadsOn (item.closed v.end.id broken) before after)

-- an acknowledgement is counted
pub record Counts (number : ℕ) (before after : CoreNow) : Type 0 where
  pub only : after ≡ record before { live = after_counted number before.live }
  pub may : MayCome (item.acked number) before
  pub leads : LeadsOn (item.acked number) before after

-- each answer, where this stands at the front
abbrev pub IsNext : Throttled → CoreNext → FrontHeard → (before after : CoreNow) → Type 0
IsNext t next.Rests rests before after = after ≡ before
IsNext t next.Granted (asks n) before after = HasAsked more.Whole t n before after
IsNext t (next.Full stage held) (asks n) before after = HasAsked (more.Full stage held) t n before after
IsNext t (next.Again stage seen now) (asks n) before after = HasAsked (more.Again stage seen now) t n before after
IsNext t next.Passed (tells heard.Nothing) before after = HasPassed before after
IsNext t next.Passed (tells (heard.Stamp k)) before after = HasStamped k before after
IsNext t next.NoMemory (tells (heard.Stamp k)) before after = after ≡ before
IsNext t (next.Acked number) (tells (heard.Acknowledges n)) before after = (number ≡ n) × Counts n before after
IsNext t (next.Accepted a) (tells (heard.Brings n)) before after = (a.number ≡ n) × Accepts a before after
IsNext t next.NoMemory (tells (heard.Brings n)) before after = after ≡ before
IsNext t (next.Resets full) (tells (heard.Resets mark)) before after = (full ≡ mark) × IsResetHeard full before × (after ≡ before)
IsNext t (next.Fault cause) (tells (heard.Fault why)) before after = (cause ≡ why) × Closes before after
IsNext t _ _ before after = ⊥

-- where it is a reset, it may be obeyed
abbrev pub MayObeyIfReset : CoreNext → CoreNow → Type 0
MayObeyIfReset (next.Resets full) c = IsResetHeard full c
MayObeyIfReset _ c = Unit {0}

-- what the size of a MESSAGE says, in Ready and outside it
abbrev pub size_front : Bool → ℕ → FrontHeard
size_front true n = asks n
size_front false n = tells (heard.Fault (fault.Unexpected message_tag))

-- the answer of the stages
abbrev pub granted_next : More → CoreNext
granted_next more.Whole = next.Granted
granted_next (more.Full stage held) = next.Full stage held
granted_next (more.Again stage seen now) = next.Again stage seen now

-- ---- what is held

-- The words of throttles that are alone, by what is held for the feed before and behind: what a stage grants is drawn when it
-- grants, and what is held is given back where its text is passed, or the feed closed. What is handed out stays drawn.
abbrev pub WordsNext : CoreNext → Throttled → (before behind : Gate → ℕ) → Type 0
WordsNext next.Granted t before behind = Keep before behind t.throttles t.before t.behind
WordsNext (next.Full stage out) t before behind = Keep before behind t.throttles t.before t.behind
WordsNext (next.Again stage seen now) t before behind = Keep before behind t.throttles t.before t.behind
WordsNext next.Passed t before behind = Return before t.throttles t.before t.behind
WordsNext (next.Fault cause) t before behind = Return before t.throttles t.before t.behind
WordsNext _ t before behind = Stay t.throttles t.before t.behind

abbrev pub WordsRest : CoreRest → Throttled → (before : Gate → ℕ) → Type 0
WordsRest rest.Passed t before = Return before t.throttles t.before t.behind
WordsRest _ t before = Stay t.throttles t.before t.behind

-- what is left of the passes: where nothing was passed, all
abbrev pub LeavesRest : CoreRest → (before after : TakePasses) → Type 0
LeavesRest rest.Passed before after = Unit {0}
LeavesRest _ before after = after ≡ before

-- ---- what is left for the record

-- the effects of the fault, where there is one
abbrev pub effects_next : CoreNext → LiveNow → Effects
effects_next (next.Fault cause) l = (step_of l.session (event.Faulted (is_waiting l))).effects
effects_next _ l = nothing
