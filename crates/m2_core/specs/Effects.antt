-- What a session's step leaves of what it can change: the effects of the table, in its order. What they hand out is the
-- caller's.
use Rattle.std.specs.Prelude.{◌≡◌, ℕ, Bool, true, false, Option, Some, None, if◌then◌else◌}
use Rattle.m2_fabric.specs.End.{SeenEnd, after_closing}
use Rattle.m2_feed.specs.FeedNow.{FeedNow}
use Rattle.m2_queues.specs.OutQueues.{Outgoing, after_requeue, after_discard, after_renumber, Queue}
use Rattle.m2_session.specs.Steps.{nothing, step_of}
use Rattle.m2_session.specs.declared.event.Effects.{Effects}
use Rattle.m2_session.specs.declared.event.Event.{Event}
use Rattle.m2_session.specs.declared.session.Session.{Session}
use Rattle.m2_shared.specs.Gates.{nothing_held}
use Rattle.m2_core.specs.LiveNow.{LiveNow}

abbrev pub where_true : Bool → (LiveNow → LiveNow) → LiveNow → LiveNow
where_true true change l = change l
where_true false change l = l

-- the feed goes, with what is granted for it
abbrev pub closes : LiveNow → LiveNow
closes l = record l { feed = None; granted = nothing_held l.granted.peer; resumed = 0 }

-- what was sent and isn't acknowledged is to be sent again
abbrev pub requeues : LiveNow → LiveNow
requeues l = record l { out = record l.out { queue = after_requeue l.out.queue } }

-- numbers begin again in both directions, and with them a life, which is named by the server cookie that the session keeps
abbrev pub sets_back : LiveNow → LiveNow
sets_back l = record l { last = 0; life = l.session.server_cookie; out = record l.out { queue = after_renumber l.out.queue } }

-- what is kept and what waits is thrown away
abbrev pub discards : LiveNow → LiveNow
discards l = record l { out = record l.out { queue = after_discard l.out.queue } }

-- all of them, the first below
abbrev pub has_effects : Effects → LiveNow → LiveNow
has_effects e l =
    where_true e.discard discards
    (where_true e.set_back sets_back
    (where_true e.requeue requeues
    (where_true e.close closes l)))

-- the session is told of an event
abbrev pub tells : Event → LiveNow → LiveNow
tells e l = has_effects (step_of l.session e).effects (record l { session = (step_of l.session e).session })

-- and of what there is to tell, where there is something
abbrev pub effects_of : Option Event → Session → Effects
effects_of (Some e) s = (step_of s e).effects
effects_of None s = nothing

-- ---- the numbers alone

abbrev pub moved_queue : Effects → Queue → Queue
moved_queue e q =
    let requeued = if e.requeue then after_requeue q else q in
    let renumbered = if e.set_back then after_renumber requeued else requeued in
    if e.discard then after_discard renumbered else renumbered

abbrev pub moved : Effects → Outgoing → Outgoing
moved e out = record out { queue = moved_queue e out.queue }

-- the last accepted one
abbrev pub moved_last : Effects → ℕ → ℕ
moved_last e last = if e.set_back then 0 else last

-- the name of the life, where the session keeps this server cookie
abbrev pub moved_life : Effects → (cookie : ℕ) → ℕ → ℕ
moved_life e cookie life = if e.set_back then cookie else life

-- ---- what the caller is handed

-- the end of the feed that was left, closed
abbrev pub closed_of : Option FeedNow → Option SeenEnd
closed_of (Some v) = Some (after_closing v.end)
closed_of None = None

abbrev pub closed_if : Bool → Option FeedNow → Option SeenEnd
closed_if true feed = closed_of feed
closed_if false feed = None

-- what an aftermath tells, where it is that of these effects on this feed
pub record IsAftermath (e : Effects) (feed : Option FeedNow) (closed : Option SeenEnd) (discarded remote_reset : Bool) : Type 0 where
  pub end : closed ≡ closed_if e.close feed
  pub thrown_away : discarded ≡ e.discard
  pub reset : remote_reset ≡ e.remote_reset
