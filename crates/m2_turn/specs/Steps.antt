-- What a record's steps do with sockets. This project's own.
use Rattle.std.specs.Prelude.{◌≡◌, List, ◌++◌, Option, Some, None}
use Rattle.std.specs.List.{AllByRecursion, filter_map}
use Rattle.m2_fabric.specs.declared.socket.SocketId.{SocketId}
use Rattle.m2_feed.specs.m2_journal.declared.entry.Entry.{Entry}
use Rattle.m2_feed.specs.m2_journal.declared.entry.Entry.TheVariants as entry
use Rattle.m2_record.specs.RecordNow.{RecordNow}

-- an entry that neither opens a socket nor judges an ask
abbrev pub BringsNoSocket : Entry → Type 0
BringsNoSocket (entry.Opened socket) = ⊥
BringsNoSocket (entry.Judged socket ask number answer) = ⊥
BringsNoSocket _ = Unit {0}

-- the sockets that entries opened, or on which they judged an ask
abbrev pub came_by : Entry → Option SocketId
came_by (entry.Opened socket) = Some socket
came_by (entry.Judged socket ask number answer) = Some socket
came_by _ = None

abbrev pub came_in : List Entry → List SocketId
came_in journal = filter_map came_by journal

-- the journal goes on, no socket came, and what never changes is the same
pub record GoesOn (old new : RecordNow) : Type 0 where
  pub more : List Entry
  pub journal : new.journal ≡ old.journal ++ more
  pub facts : new.core.facts ≡ old.core.facts
  pub no_socket : AllByRecursion BringsNoSocket more
