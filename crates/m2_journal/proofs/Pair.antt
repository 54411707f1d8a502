-- Two records and a half between them, driven by hand: the bytes of each go to the other.
use Rattle.std.specs.Prelude.{ℕ, List, [], ◌∷◌, ◌++◌, take, drop, Option, Some, None}
use Rattle.m2_policy.specs.m2_addr.declared.addr.Addr.{Addr}
use Rattle.m2_handshake.specs.Course.{Course, course_of, text_of}
use Rattle.m2_handshake.specs.Standing.{Standing, fed, acceptor_at_start}
use Rattle.m2_message.specs.Message.{Content}
use Rattle.m2_policy.specs.Policy.{lossless_peer}
use Rattle.m2_policy.specs.Rules.{profile}
use Rattle.m2_fabric.specs.declared.socket.SocketId.{SocketId}
use Rattle.m2_journal.specs.SideFacts.{SideFacts}
use Rattle.m2_journal.specs.Feeds.{texts_at}
use Rattle.m2_journal.specs.Items.{JournalItem, read, wrote}
use Rattle.m2_journal.specs.State.{PartText, Feed, State, start}
use Rattle.m2_journal.specs.Steps.{after}

abbrev pub here : Addr
here = record { kind = 2; nonce = 1; ip = 0x0100007F; port = 7001 }

abbrev pub there : Addr
there = record { kind = 2; nonce = 2; ip = 0x0100007F; port = 7002 }

abbrev pub facts_of_a : SideFacts
facts_of_a = record {
  mine = here;
  peer = there;
  policy = lossless_peer;
  node = record {
    entity = 4;
    number = 0;
    supports = 1;
    requires_ = 0;
    fast = [];
    first_wait = 1;
    most_wait = 1;
    salt = 5;
    rules = profile;
  };
}

abbrev pub facts_of_b : SideFacts
facts_of_b = record {
  mine = there;
  peer = here;
  policy = lossless_peer;
  node = record {
    entity = 4;
    number = 1;
    supports = 1;
    requires_ = 0;
    fast = [];
    first_wait = 1;
    most_wait = 1;
    salt = 6;
    rules = profile;
  };
}

abbrev pub socket : ℕ → SocketId
socket turn = record { from_ip = 0x0100007F; from_port = 7001; to_ip = 0x0100007F; to_port = 7002; turn = turn }

abbrev pub hello_message : Content
hello_message = record {
  header = record {
    seq = 0;
    tid = 0;
    kind = 7;
    priority = 127;
    version = 1;
    pre_padding = 0;
    data_off = 0;
    ack_seq = 0;
    flags = 0;
    compat = 1;
    reserved = 0;
  };
  front = 0x61 ∷ [];
  middle = [];
  tail = [];
}

pub record World : Type 0 where
  pub a : State
  pub b : State
  pub half : Standing
  pub to_a : List ℕ
  pub to_b : List ℕ
  pub of_a : List JournalItem
  pub of_b : List JournalItem

abbrev pub half_at_start : Standing
half_at_start = acceptor_at_start 4 here

abbrev pub before_all : World
before_all = record { a = start facts_of_a; b = start facts_of_b; half = half_at_start; to_a = []; to_b = []; of_a = []; of_b = [] }

abbrev pub a_does : JournalItem → World → World
a_does i w = record w { a = after facts_of_a i w.a; of_a = w.of_a ++ i ∷ [] }

abbrev pub b_does : JournalItem → World → World
b_does i w = record w { b = after facts_of_b i w.b; of_b = w.of_b ++ i ∷ [] }

-- an acknowledgement is of the last accepted number
abbrev pub last_left : List ℕ → List PartText → List ℕ
last_left bytes [] = bytes
last_left bytes (t ∷ ts) = last_left t.left ts

abbrev pub left_at : SideFacts → State → Option Feed → List ℕ
left_at f s (Some d) = last_left [] (texts_at f s d)
left_at f s None = []

abbrev pub left_of : SideFacts → State → List ℕ
left_of f s = left_at f s s.feed

-- so many bytes at most of what is to be written
abbrev pub a_puts : ℕ → List ℕ → World → World
a_puts turn bytes w = a_does (wrote (socket turn) bytes) (record w { to_b = w.to_b ++ bytes })

abbrev pub a_writes : ℕ → ℕ → World → World
a_writes turn n w = a_puts turn (take n (left_of facts_of_a w.a)) w

abbrev pub b_puts : ℕ → List ℕ → World → World
b_puts turn bytes w = b_does (wrote (socket turn) bytes) (record w { to_a = w.to_a ++ bytes })

abbrev pub b_writes : ℕ → ℕ → World → World
b_writes turn n w = b_puts turn (take n (left_of facts_of_b w.b)) w

abbrev pub a_reads : ℕ → ℕ → World → World
a_reads turn n w = a_does (read (socket turn) (take n w.to_a)) (record w { to_a = drop n w.to_a })

abbrev pub b_reads : ℕ → ℕ → World → World
b_reads turn n w = b_does (read (socket turn) (take n w.to_b)) (record w { to_b = drop n w.to_b })

-- the half reads all that is there, and what it writes is on its way
abbrev pub course_now : World → Course
course_now w = course_of (fed w.half w.to_b) []

abbrev pub half_goes_on : World → World
half_goes_on w = record w { half = (course_now w).standing; to_b = []; to_a = w.to_a ++ text_of (course_now w).events }

-- a socket of which nothing was said yet
abbrev pub new_half : World → World
new_half w = half_goes_on (record w { half = half_at_start; to_a = []; to_b = [] })

-- the opener reads and writes, and then the half does
abbrev pub turns : ℕ → World → World
turns turn w = half_goes_on (a_writes turn 1000 (a_reads turn 1000 w))

-- until both sides have signed
abbrev pub shakes_hands : ℕ → World → World
shakes_hands turn w = turns turn (turns turn (half_goes_on (a_writes turn 1000 (new_half w))))
