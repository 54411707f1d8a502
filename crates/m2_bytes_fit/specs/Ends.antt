-- What a side has got and put on each socket where an order of entries has come: by its journal, and before that by the
-- half on a socket of the peer.
use Rattle.std.specs.Prelude.{ℕ, ◌&&◌, if◌then◌else◌, List, [], ◌++◌, Option, Some, None}
use Rattle.std.specs.List.{flat_map, filter_map}
use Rattle.m2_feed.specs.m2_fabric.declared.socket.SocketId.{SocketId}
use Rattle.m2_feed.specs.m2_fabric.Sockets.{same_socket}
use Rattle.m2_feed.specs.m2_session.SessionLaws.{takes}
use Rattle.m2_feed.specs.m2_journal.declared.entry.JudgedItem.{JudgedItem}
use Rattle.m2_feed.specs.m2_journal.Items as item
use Rattle.m2_feed.specs.m2_journal.Items.{JournalItem}
use Rattle.m2_feed.specs.m2_journal.Lawful.{judged_on}
use Rattle.m2_feed.specs.m2_journal.Replay.{after_items}
use Rattle.m2_feed.specs.m2_journal.SideFacts.{SideFacts}
use Rattle.m2_feed.specs.m2_journal.State.{State, start}
use Rattle.m2_trail.specs.Trails.{HalfBytes}

-- Of one side what has come so far: the entries of its journal, and on each socket the bytes of its half there.
pub record Side : Type 0 where
  pub facts : SideFacts
  pub entries : List JournalItem
  pub halves : SocketId → HalfBytes

-- where its journal leads
abbrev pub state_of : Side → State
state_of a = after_items a.facts a.entries (start a.facts)

-- what its record has judged on a socket so far
abbrev pub judged_at : Side → SocketId → List JudgedItem
judged_at a k = judged_on k (state_of a).judgements

-- ---- the bytes of a journal's entries on a socket

abbrev pub read_in : SocketId → JournalItem → List ℕ
read_in k (item.read socket bytes) = if same_socket k socket then bytes else []
read_in k _ = []

abbrev pub wrote_in : SocketId → JournalItem → List ℕ
wrote_in k (item.wrote socket bytes) = if same_socket k socket then bytes else []
wrote_in k _ = []

abbrev pub read_on : SocketId → List JournalItem → List ℕ
read_on k entries = flat_map (read_in k) entries

abbrev pub wrote_on : SocketId → List JournalItem → List ℕ
wrote_on k entries = flat_map (wrote_in k) entries

-- what the half on a socket had left unread, where an entry has taken it
abbrev pub taken_in : SocketId → JournalItem → Option (List ℕ)
taken_in k (item.judged socket ask number answer unread trail) =
    if same_socket k socket && takes answer then Some unread else None
taken_in k _ = None

abbrev pub takings_on : SocketId → List JournalItem → List (List ℕ)
takings_on k entries = filter_map (taken_in k) entries

-- ---- all that a side's end has got and put

abbrev pub got_at : Side → SocketId → List ℕ
got_at a k = (a.halves k).got ++ read_on k a.entries

abbrev pub put_at : Side → SocketId → List ℕ
put_at a k = (a.halves k).put ++ wrote_on k a.entries
