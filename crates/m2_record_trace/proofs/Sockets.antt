-- Sockets that entries name, one entry at a time.
use Rattle.std.proofs.Common.{◌≡◌, List, ◌∷◌, Option, Some, None, refl}
use Rattle.std.specs.Prelude.{◌||◌}
use Rattle.std.specs.List.{cons_option}
use Rattle.m2_fabric.specs.declared.socket.SocketId.{SocketId}
use Rattle.m2_fabric.specs.Sockets.{is_among}
use Rattle.m2_journal.specs.declared.entry.Entry.{Entry}
use Rattle.m2_record.specs.IsRecord.{named_in, socket_of}
use Rattle.m2_record_trace.specs.Sockets.{is_one}

one_more : (socket : SocketId) (o : Option SocketId) (ks : List SocketId) → is_among socket (cons_option o ks) ≡ (is_one socket o || is_among socket ks)
one_more socket (Some k) ks = refl
one_more socket None ks = refl

-- a socket that a journal names is named by its first entry, or behind it
pub named_more : (socket : SocketId) (e : Entry) (journal : List Entry) → is_among socket (named_in (e ∷ journal)) ≡ (is_one socket (socket_of e) || is_among socket (named_in journal))
named_more socket e journal = one_more socket (socket_of e) (named_in journal)
