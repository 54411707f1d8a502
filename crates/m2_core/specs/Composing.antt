-- What composing a text that no entry names leaves of a core.
use Rattle.std.specs.Prelude.{◌≡◌, true, false, Result}
use Rattle.m2_bytes.specs.declared.memory.NoMemory as memory
use Rattle.m2_feed.specs.declared.writing.Writing.TheVariants as writing
use Rattle.m2_journal.specs.Laws.{CanBePaid, IfFed}
use Rattle.m2_journal.specs.OutFrames as out
use Rattle.m2_journal.specs.State.{State}
use Rattle.m2_core.specs.LiveNow.{is_ready}
use Rattle.m2_core.specs.OnFeed.{AnswersStamp, ComposesFeed}
use Rattle.m2_core.specs.LiveCalls.{live_with}
use Rattle.m2_core.specs.Agrees.{Agrees, Stays}
use Rattle.m2_core.specs.CoreNow.{CoreNow}

-- an acknowledgement is due
pub record OwesOne (c : CoreNow) : Type 0 where
  pub ready : is_ready c.live ≡ true
  pub owes : c.owes ≡ true
  pub kept : c.facts.policy.lossy ≡ false

-- Wherever one of the last accepted number may be put. Each replay of lawful entries is such a state.
abbrev pub StaysWherePaid : CoreNow → CoreNow → Type 0
StaysWherePaid old new = (s : State) → Agrees old s → IfFed s.feed (CanBePaid s) → Agrees new s

pub record HasAcknowledged (r : Result (Unit {0}) memory.NoMemory) (before after : CoreNow) : Type 0 where
  pub composes : ComposesFeed r (writing.Acknowledgement before.live.last false) (out.text_of before.facts (out.acknowledgement before.live.last)) before.live.feed after.live.feed
  pub only : after ≡ record before { live = live_with after.live.feed before.live }
  pub stays : StaysWherePaid before after

pub record HasAnswered (r : Result (Unit {0}) memory.NoMemory) (before after : CoreNow) : Type 0 where
  pub composes : AnswersStamp r before.live.feed after.live.feed
  pub only : after ≡ record before { live = live_with after.live.feed before.live }
  pub stays : Stays before after
