-- The ends of a center's records by their sockets: what they are told of the other side, and what they did. This project's own.
use Rattle.std.specs.Prelude.{ℕ, Bool, if◌then◌else◌, List, [], ◌∷◌}
use Rattle.m2_fabric.specs.declared.end.News.{News}
use Rattle.m2_fabric.specs.declared.socket.SocketId.{SocketId}
use Rattle.m2_fabric.specs.Sockets.{is_among}
use Rattle.m2_record.specs.Calls as record_
use Rattle.m2_record.specs.RecordNow.{RecordNow, ends_of, ids_of}

abbrev pub has_end : SocketId → RecordNow → Bool
has_end id r = is_among id (ids_of (ends_of r))

-- the first record that has an end of it is told
abbrev pub records_hear : SocketId → News → List ℕ → List RecordNow → List RecordNow
records_hear id news bytes [] = []
records_hear id news bytes (r ∷ rs) = if has_end id r then record_.after_news id news bytes r ∷ rs else r ∷ records_hear id news bytes rs
