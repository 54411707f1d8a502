-- The ends of a center by their sockets, what they are told of the other side, and what that leaves alone. This project's own.
use Rattle.std.specs.Prelude.{ℕ, ◌++◌, Bool, if◌then◌else◌, List, [], map, Option, Some, None}
use Rattle.std.specs.List.{flat_map, list_any}
use Rattle.std.specs.Option.{option_map}
use Rattle.m2_fabric.specs.declared.end.News.{News}
use Rattle.m2_fabric.specs.declared.socket.SocketId.{SocketId}
use Rattle.m2_fabric.specs.End.{SeenEnd}
use Rattle.m2_fabric.specs.Port.{SeenPort, with_news}
use Rattle.m2_fabric.specs.Sockets.{same_socket}
use Rattle.m2_turn.specs.m2_feed.FeedNow.{FeedNow}
use Rattle.m2_record.specs.m2_core.LiveCalls.{live_with}
use Rattle.m2_record.specs.RecordNow.{RecordNow, ends_of}
use Rattle.m2_trail.specs.Arrivals.{LooseNow}
use Rattle.m2_turn.specs.Halves.{AllHalves}
use Rattle.m2_turn.specs.Hearing as halves
use Rattle.m2_turn.specs.Sessions.{PendingNow}
use Rattle.m2_center.specs.Center.{CenterNow}
use Rattle.m2_center.specs.RecordEnds.{has_end, records_hear}

-- ---- its ends

-- those of its records in the order of the links, of its halves, and of those that are over
abbrev pub ends_in : {D : Type 0} → CenterNow D → List SeenEnd
ends_in c = flat_map ends_of c.records ++ halves.ends_in c.halves

-- those that wait for an accept at a port in memory; none at another
abbrev pub ends_or_none : Option (List SeenEnd) → List SeenEnd
ends_or_none (Some es) = es
ends_or_none None = []

abbrev pub waiting_at : SeenPort → List SeenEnd
waiting_at p = ends_or_none p.waiting

-- its ends, and then those that wait
abbrev pub all_ends_in : {D : Type 0} → CenterNow D → List SeenEnd
all_ends_in c = ends_in c ++ waiting_at c.port

-- ---- what they are told

abbrev pub has_half : SocketId → AllHalves → Bool
has_half id h = list_any (λ (e : SeenEnd). same_socket id e.id) (halves.ends_in h)

-- The end of the socket is told: of the first record that has one, else of a half, else one that waits at the port.
abbrev pub after_hearing : {D : Type 0} → SocketId → News → List ℕ → CenterNow D → CenterNow D
after_hearing id news bytes c =
    if list_any (has_end id) c.records then record c { records = records_hear id news bytes c.records }
    else (if has_half id c.halves then record c { halves = halves.after_hearing id news bytes c.halves }
    else record c { port = with_news id news bytes c.port })

-- ---- the rest

-- an end, without what it was told
abbrev pub untold : SeenEnd → SeenEnd
untold e = record e { inflow = None }

abbrev pub untold_feed : FeedNow → FeedNow
untold_feed v = record v { end = untold v.end }

abbrev pub untold_record : RecordNow → RecordNow
untold_record r = record r {
  core = record r.core { live = live_with (option_map untold_feed r.core.live.feed) r.core.live };
  spent = map untold r.spent;
}

abbrev pub untold_half : PendingNow → PendingNow
untold_half p = record p { half = record p.half { end = untold p.half.end } }

abbrev pub untold_loose : LooseNow → LooseNow
untold_loose l = record l { end = untold l.end }

-- The center, without what its ends were told and without those that wait at its port. Its journals, trails, facts, plans and
-- parcels, what it handed out and what is queued, the sockets that its port made and its passes are all in it.
abbrev pub rest_in : {D : Type 0} → CenterNow D → CenterNow D
rest_in c = record c {
  port = record c.port { waiting = None };
  records = map untold_record c.records;
  halves = record { pending = map untold_half c.halves.pending; loose = map untold_loose c.halves.loose };
}
