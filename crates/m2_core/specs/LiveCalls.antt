-- What calls leave of what a session's step can change.
use Rattle.std.specs.Prelude.{◌≡◌, ℕ, Option, Some, None, if◌then◌else◌, Result, Ok, Err, ◌-◌}
use Rattle.m2_session.specs.declared.ask.AskFacts.{AskFacts}
use Rattle.m2_bytes.specs.declared.memory.NoMemory as memory
use Rattle.m2_control.specs.declared.keepalive.Keepalive.{Keepalive}
use Rattle.m2_feed.specs.FeedNow.{FeedNow}
use Rattle.m2_message.specs.Message.{Content}
use Rattle.m2_queues.specs.OutQueues.{after_acked, after_post}
use Rattle.m2_session.specs.declared.event.Event.TheVariants as event
use Rattle.m2_session.specs.declared.event.Event.{Event}
use Rattle.m2_shared.specs.Gates.{nothing_held}
use Rattle.m2_core.specs.LiveNow.{LiveNow, is_waiting}
use Rattle.m2_core.specs.Effects.{tells}
use Rattle.m2_core.specs.OnFeed.{NotesFeed, PassesFeed}

-- ---- the feed

-- this is the feed
abbrev pub live_with : Option FeedNow → LiveNow → LiveNow
live_with x l = record l { feed = x }

-- what stood at its front is passed, and what was held for it given back
abbrev pub passed_live : Option FeedNow → LiveNow → LiveNow
passed_live x l = record l { feed = x; granted = nothing_held l.granted.peer }

-- the frame at the front is
pub record LivePasses (old new : LiveNow) : Type 0 where
  pub feed : PassesFeed old.feed new.feed
  pub only : new ≡ passed_live new.feed old

-- a keepalive is, where memory lasts
abbrev pub LiveNotes : Result (Unit {0}) memory.NoMemory → Keepalive → LiveNow → LiveNow → Type 0
LiveNotes (Ok u) k old new = NotesFeed (Ok u) k old.feed new.feed × (new ≡ passed_live new.feed old)
LiveNotes (Err _) k old new = new ≡ old

-- ---- the queue

-- a message waits to be sent
abbrev pub after_posted : Content → LiveNow → LiveNow
after_posted m l = record l { out = record { queue = after_post l.out.queue m; spare = l.out.spare - 1 } }

-- the messages up to this number were acknowledged
abbrev pub after_counted : ℕ → LiveNow → LiveNow
after_counted number l = record l { out = record l.out { queue = after_acked l.out.queue number } }

-- ---- the session

-- the feed is closed for a fault
abbrev pub after_fault : LiveNow → LiveNow
after_fault l = tells (event.Faulted (is_waiting l)) l

-- the session is told what there is to tell
abbrev pub tells_if : Option Event → LiveNow → LiveNow
tells_if (Some e) l = tells e l
tells_if None l = l

-- up to where a resumption acknowledges
abbrev pub resumed_by_ask : AskFacts → ℕ
resumed_by_ask a = if a.ident then 0 else a.seen

-- The session is told, by which the old feed is closed, and the socket is the feed.
abbrev pub with_taken : Option Event → FeedNow → (resumed : ℕ) → LiveNow → LiveNow
with_taken e d resumed l = record (tells_if e l) { feed = Some d; resumed = resumed }
