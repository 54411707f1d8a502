-- What a core reads, what it hears there where it has asked, and what obeying a reset leaves of it.
use Rattle.std.specs.Prelude.{◌≡◌, ℕ, ◌<◌, Bool, if◌then◌else◌, List, ◌++◌, length, Option, Some, None}
use Rattle.m2_fabric.specs.End.{SeenEnd}
use Rattle.m2_fabric.specs.declared.end.EndRead.{EndRead}
use Rattle.m2_fabric.specs.declared.end.EndRead.TheVariants as read
use Rattle.m2_feed.specs.FeedNow.{FeedNow}
use Rattle.m2_feed.specs.declared.heard.Heard.{Heard}
use Rattle.m2_feed.specs.declared.heard.Heard.TheVariants as heard
use Rattle.m2_feed.specs.Heard.{event_of}
use Rattle.m2_journal.specs.Items as item
use Rattle.m2_journal.specs.SideFacts.{SideFacts}
use Rattle.m2_session.specs.declared.event.Effects.{Effects}
use Rattle.m2_session.specs.declared.session.Session.{Session}
use Rattle.m2_session.specs.Steps.{nothing}
use Rattle.m2_core.specs.LiveNow.{LiveNow, is_ready}
use Rattle.m2_core.specs.Effects.{closed_if, effects_of}
use Rattle.m2_core.specs.OnFeed.{ReadsFeed}
use Rattle.m2_core.specs.LiveCalls.{live_with}
use Rattle.m2_core.specs.LiveHearing.{ObeysReset, TakesAnswer, heard_on}
use Rattle.m2_core.specs.Agrees.{IsBroken, LeadsOn, MayCome, Stays}
use Rattle.m2_core.specs.CoreNow.{CoreNow}

-- ---- what is heard

-- what the frame at the front says before Ready
abbrev pub hearing : SideFacts → LiveNow → Option Heard
hearing f l = if is_ready l then None else heard_on f.peer f.policy l.session.phase l.feed

-- what a read leaves to be heard
abbrev pub heard_after : EndRead → SideFacts → LiveNow → Option Heard
heard_after (read.Got n) f l = hearing f l
heard_after _ f l = None

-- ---- what is taken

-- An answer is taken; a reset, which is obeyed apart, and a fault stay at the front.
abbrev pub Heeds : Option Heard → LiveNow → LiveNow → Type 0
Heeds None old new = new ≡ old
Heeds (Some (heard.Reset full)) old new = new ≡ old
Heeds (Some (heard.Refused e)) old new = new ≡ old
Heeds (Some h) old new = TakesAnswer h old new

-- what the step that was told of it leaves
abbrev pub effects_heard : Option Heard → Session → Effects
effects_heard (Some h) s = effects_of (event_of h) s
effects_heard None s = nothing

-- a refusal is a fault
abbrev pub IsFaultHeard : Option Heard → CoreNow → Type 0
IsFaultHeard (Some (heard.Refused e)) c = IsBroken c
IsFaultHeard _ c = Unit {0}

-- ---- reading

-- These bytes came, behind all that came before: the entry Read, of which the answer that they complete is a part.
pub record IsReadEntry (n : ℕ) (old mid : FeedNow) (before after : CoreNow) : Type 0 where
  pub bytes : List ℕ
  pub some : 0 < n
  pub count : length bytes ≡ n
  pub log : mid.end.log.got ≡ old.end.log.got ++ bytes
  pub may : MayCome (item.read old.end.id bytes) before
  pub leads : LeadsOn (item.read old.end.id bytes) before after

abbrev pub IsRead : EndRead → Option FeedNow → Option FeedNow → (before after : CoreNow) → Type 0
IsRead (read.Got n) (Some old) (Some mid) before after = IsReadEntry n old mid before after
IsRead (read.Got n) _ _ before after = ⊥
IsRead _ _ _ before after = Stays before after

-- what a read answers
pub record ReadNow : Type 0 where
  pub answer : EndRead
  pub heard : Option Heard
  -- the end of the feed that was left, closed
  pub closed : Option SeenEnd

pub record HasRead (r : ReadNow) (before after : CoreNow) : Type 0 where
  -- the feed as the read leaves it, before anything is taken
  pub feed : Option FeedNow
  pub reads : ReadsFeed r.answer before.live.feed feed
  pub hears : r.heard ≡ heard_after r.answer before.facts (live_with feed before.live)
  pub heeds : Heeds r.heard (live_with feed before.live) after.live
  pub only : after ≡ record before { live = after.live }
  pub closes : r.closed ≡ closed_if (effects_heard r.heard before.live.session).close feed
  pub entry : IsRead r.answer before.live.feed feed before after

-- ---- obeying

pub record HasObeyed (full : Bool) (before after : CoreNow) : Type 0 where
  pub obeys : ObeysReset full before.live after.live
  pub only : after ≡ record before { live = after.live }
  pub may : MayCome (item.obeyed full) before
  pub leads : LeadsOn (item.obeyed full) before after
