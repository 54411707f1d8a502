-- A feed that no entry has closed, and room for its end.
use Rattle.std.proofs.Common.{◌≡◌, List, [], ◌∷◌, ◌++◌, Option, Some, None, refl, sym, ap, subst, ◌∙◌}
use Rattle.std.proofs.lemmas.List.{append-nil}
use Rattle.std.proofs.lemmas.List.Elements.{filter_map-append}
use Rattle.m2_fabric.specs.declared.socket.SocketId.{SocketId}
use Rattle.m2_fabric.specs.End.{SeenEnd}
use Rattle.m2_fabric.specs.Sockets.{IsNewTo}
use Rattle.m2_feed.specs.FeedNow.{FeedNow}
use Rattle.m2_journal.specs.declared.entry.Entry.{Entry}
use Rattle.m2_record.specs.IsRecord.{FeedHasRoom, FeedIsOpen, IsRecord, closed_by, closed_in}
use Rattle.m2_record.specs.RecordNow.{RecordNow, Rooms}
use Rattle.m2_record.proofs.Kept.{kept-in-room}

-- an entry that closes nothing
closes-none : (e : Entry) → closed_by e ≡ None → closed_in (e ∷ []) ≡ []
closes-none e h = rw h refl

pub closed-more : (journal : List Entry) (e : Entry) → closed_by e ≡ None → closed_in (journal ++ e ∷ []) ≡ closed_in journal
closed-more journal e h = filter_map-append closed_by journal (e ∷ []) ∙ ap (λ (l : List SocketId). closed_in journal ++ l) (closes-none e h) ∙ append-nil (closed_in journal)

pub still-open : (spent : List SeenEnd) (journal : List Entry) (e : Entry) (feed : Option FeedNow) → closed_by e ≡ None → FeedIsOpen spent journal feed → FeedIsOpen spent (journal ++ e ∷ []) feed
still-open spent journal e None h o = tt
still-open spent journal e (Some v) h o = record { unspent = o.unspent; unclosed = subst (λ (l : List SocketId). IsNewTo l v.end.id) (sym (closed-more journal e h)) o.unclosed }

-- room is no part of what a record is, but for the feed's end
pub in_room : (r : RecordNow) (room : Rooms) → room.ends ≡ r.room.ends → IsRecord r → IsRecord (record r { room = room })
in_room r room ends h = record {
  state = h.state;
  at_state = record {
    replay = h.at_state.replay;
    core = h.at_state.core;
    steps = h.at_state.steps;
    reach = h.at_state.reach;
    parcels = h.at_state.parcels;
    spent = h.at_state.spent;
    feed = h.at_state.feed;
    room = subst (λ n. FeedHasRoom n r.core.live.feed) (sym ends) h.at_state.room;
    few = h.at_state.few;
  };
  settled = h.settled;
  closed = h.closed;
  trails = h.trails;
  kept = kept-in-room r room h.kept;
}
