-- From where two journals lead to the link between their sides.
use Rattle.std.specs.Prelude.{ℕ, ◌&&◌, max, Bool, false, not, nat_lt, if◌then◌else◌, List, [], ◌∷◌, length, take, map, Option, Some, None}
use Rattle.std.specs.List.{filter}
use Rattle.m2_journal.specs.m2_fabric.declared.socket.SocketId.{SocketId}
use Rattle.m2_journal.specs.m2_fabric.Sockets.{same_socket}
use Rattle.m2_queues.specs.m2_frame.Reading.{Item}
use Rattle.m2_queues.specs.m2_message.Message.{Content, unnumbered}
use Rattle.m2_session.specs.declared.session.Phase.{Phase}
use Rattle.m2_session.specs.declared.session.Phase.TheVariants as phase
use Rattle.m2_journal.specs.Feeds.{told_by}
use Rattle.m2_journal.specs.Lawful.{judged_sockets}
use Rattle.m2_journal.specs.OutFrames as out
use Rattle.m2_journal.specs.OutFrames.{OutFrame}
use Rattle.m2_journal.specs.Said.{said}
use Rattle.m2_journal.specs.SideFacts.{SideFacts}
use Rattle.m2_journal.specs.State as state
use Rattle.m2_journal.specs.State.{Feed, SentFrame, Delivery, State}
use Rattle.m2_never_reset.specs.Asks.{Ask, reset, retry, wait, Asks}
use Rattle.m2_never_reset.specs.Link.{Stand, absent, standby, waiting, connecting, asking, refused, offered, resumed, ready}
use Rattle.m2_never_reset.specs.Link.{Node, Joined, apart, by_near, by_far, Link, link}
use Rattle.m2_never_reset.specs.Roles as roles
use Rattle.m2_never_reset.specs.Roles.{Role}
use Rattle.m2_never_reset.specs.Frames.{asks_on, no_ask, last_ask, ask_now, to_come, mails}

-- what never changes of a side
abbrev pub role_of : SideFacts → Role
role_of f = roles.role_of f.policy f.node.number f.node.salt

-- ---- where a side stands

-- on its last ask, by the first of what is to come
abbrev pub stand_asking : Ask → List OutFrame → Stand
stand_asking a (out.server_ident cookie global ∷ frames) = offered cookie global (mails frames)
stand_asking a (out.reconnect_ok seen ∷ frames) = resumed seen (mails frames)
stand_asking a (out.reset full ∷ frames) = refused a (reset full)
stand_asking a (out.retry connect ∷ frames) = refused a retry
stand_asking a (out.retry_global global ∷ frames) = refused a retry
stand_asking a (out.wait ∷ frames) = refused a wait
stand_asking a _ = asking a

abbrev pub stand_on : Phase → Feed → (mine theirs : List SentFrame) → Stand
stand_on phase.Connecting d mine theirs = connecting
stand_on phase.IdentSent d mine theirs = stand_asking (ask_now d mine) (to_come d theirs)
stand_on phase.ReconnectSent d mine theirs = stand_asking (ask_now d mine) (to_come d theirs)
stand_on phase.Ready d mine theirs = ready (mails (to_come d theirs))
stand_on _ d mine theirs = absent

abbrev pub stand_off : Phase → Stand
stand_off phase.Standby = standby
stand_off phase.Wait = waiting
stand_off _ = absent

abbrev pub stand_by : Option Feed → Phase → (mine theirs : List SentFrame) → Stand
stand_by (Some d) p mine theirs = stand_on p d mine theirs
stand_by None p mine theirs = stand_off p

abbrev pub stand_of : State → State → Stand
stand_of s other = stand_by s.feed s.session.phase s.sent other.sent

-- ---- a side

-- the messages that were accepted
abbrev pub letters : List Delivery → List Content
letters [] = []
letters (state.letter number life key m ∷ ds) = unnumbered m ∷ letters ds
letters (_ ∷ ds) = letters ds

abbrev pub is_feed : Option Feed → SocketId → Bool
is_feed (Some d) socket = same_socket socket d.socket
is_feed None socket = false

-- how many of a side's asks on a socket the other side has judged
abbrev pub judged_count : SocketId → List SocketId → ℕ
judged_count socket judged = length (filter (same_socket socket) judged)

-- there is an ask on the socket that isn't judged
abbrev pub is_unjudged : SocketId → (mine : List SentFrame) → (judged : List SocketId) → Bool
is_unjudged socket mine judged = nat_lt (judged_count socket judged) (length (asks_on socket mine))

-- of each socket that isn't the feed the last ask, where that isn't judged
abbrev pub asks_left : Option Feed → (mine : List SentFrame) → (judged : List SocketId) → Asks
asks_left feed mine judged socket =
    if not (is_feed feed socket) && is_unjudged socket mine judged
    then Some (last_ask no_ask (asks_on socket mine)) else None

-- up to where the texts acknowledge, and what was acknowledged before them
abbrev pub raised_by : ℕ → Option ℕ → ℕ
raised_by heard (Some n) = max heard n
raised_by heard None = heard

abbrev pub heard_in : ℕ → List Item → ℕ
heard_in heard [] = heard
heard_in heard (i ∷ is) = heard_in (raised_by heard (told_by (said i))) is

abbrev pub heard_first : Option ℕ → ℕ
heard_first (Some n) = n
heard_first None = 0

-- up to where what was taken on the feed acknowledges
abbrev pub heard_on : Option Feed → ℕ
heard_on (Some d) = heard_in (heard_first d.resumed) (take d.taken d.got)
heard_on None = 0

-- of a record, and of the sockets on which the other has judged an ask
abbrev pub node_of : State → (judged : List SocketId) → Node
node_of s judged = record {
  client = s.session.client_cookie;
  server = s.session.server_cookie;
  peer_global = s.session.peer_global;
  greatest = s.top;
  last = s.last;
  base = s.out.queue.base;
  heard = heard_on s.feed;
  numbered = map unnumbered s.out.numbered;
  accepted = letters s.deliveries;
  asks = asks_left s.feed s.sent judged;
}

-- ---- the link

abbrev pub joined_by : (near far : Option Feed) → Joined
joined_by (Some d) (Some e) = if same_socket e.socket d.socket then (if d.opened then by_near else by_far) else apart
joined_by _ _ = apart

-- with the trouble that there was, which the two states don't tell
abbrev pub link_of : (trouble : ℕ) → (near far : State) → Link
link_of trouble a b =
    link (node_of a (judged_sockets b)) (stand_of a b) (node_of b (judged_sockets a)) (stand_of b a)
    (joined_by a.feed b.feed) trouble
