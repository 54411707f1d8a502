-- What was sent on a socket, as a link sees it: asks, answers, mail. What is said here speaks of the lists and the one
-- feed that it needs, and of no whole state, so that it stays as it is where another field changes.
use Rattle.std.specs.Prelude.{Bool, true, false, not, List, [], ◌∷◌, map, drop, Option, Some, None}
use Rattle.std.specs.List.{filter, filter_map}
use Rattle.m2_journal.specs.m2_fabric.declared.socket.SocketId.{SocketId}
use Rattle.m2_journal.specs.m2_fabric.Sockets.{same_socket}
use Rattle.m2_queues.specs.m2_message.Message.{unnumbered}
use Rattle.m2_journal.specs.OutFrames as out
use Rattle.m2_journal.specs.OutFrames.{OutFrame}
use Rattle.m2_journal.specs.State.{Feed, SentFrame}
use Rattle.m2_never_reset.specs.Asks.{Ask, by_ident, by_reconnect}
use Rattle.m2_never_reset.specs.Mails.{Mail, letter, ack}

abbrev pub frames_on : SocketId → List SentFrame → List OutFrame
frames_on socket sent = map (λ x. x.frame) (filter (λ x. same_socket socket x.socket) sent)

-- ---- asks

abbrev pub ask_of : OutFrame → Option Ask
ask_of (out.ident cookie global) = Some (by_ident (record { cookie = cookie; global = global }))
ask_of (out.reconnect client server global connect seen) = Some (by_reconnect (record {
  client = client;
  server = server;
  global = global;
  connect = connect;
  seen = seen;
}))
ask_of _ = None

abbrev pub asks_on : SocketId → List SentFrame → List Ask
asks_on socket sent = filter_map ask_of (frames_on socket sent)

-- where there is none
abbrev pub no_ask : Ask
no_ask = by_ident (record { cookie = 0; global = 0 })

abbrev pub last_ask : Ask → List Ask → Ask
last_ask a [] = a
last_ask a (b ∷ bs) = last_ask b bs

-- the ask on which the side stands that has this feed
abbrev pub ask_now : Feed → List SentFrame → Ask
ask_now d mine = last_ask no_ask (asks_on d.socket mine)

-- ---- answers to asks, and what follows them

abbrev pub is_ask : OutFrame → Bool
is_ask (out.ident cookie global) = true
is_ask (out.reconnect client server global connect seen) = true
is_ask _ = false

abbrev pub answers_on : SocketId → List SentFrame → List OutFrame
answers_on socket sent = filter (λ w. not (is_ask w)) (frames_on socket sent)

-- what the other side has sent on the feed and this side hasn't taken
abbrev pub to_come : Feed → List SentFrame → List OutFrame
to_come d theirs = drop d.taken (answers_on d.socket theirs)

-- ---- mail

abbrev pub mail_of : OutFrame → Option Mail
mail_of (out.message number acked m) = Some (letter number acked (unnumbered m))
mail_of (out.acknowledgement number) = Some (ack number)
mail_of _ = None

abbrev pub mails : List OutFrame → List Mail
mails frames = filter_map mail_of frames
