-- A link as its crossing connects see it: of each side what it keeps, where it stands, and what is on its way to it
-- on its feed. It has no bytes, no handshake and no queue. It is seen from one side, the near one; the other is the
-- far one. This is the project's own; the frames that it speaks of are Ceph's (msgr2).
use Rattle.std.specs.Prelude.{ℕ, List, [], None}
use Rattle.m2_queues.specs.m2_message.Message.{Content}
use Rattle.m2_never_reset.specs.Asks.{Ask, Refusal, Asks}
use Rattle.m2_never_reset.specs.Mails.{Mail}

-- Where a side stands, and what is on its way to it. After an ask that was judged this is the answer: a refusal;
-- SERVER_IDENT with its cookie and its global number, and what follows it; SESSION_RECONNECT_OK with the last message
-- that was accepted, and what follows it.
pub data Stand : Type 0 where
  absent : Stand
  standby : Stand
  waiting : Stand
  connecting : Stand
  asking : Ask → Stand
  refused : Ask → Refusal → Stand
  offered : (cookie global : ℕ) → List Mail → Stand
  resumed : (seen : ℕ) → List Mail → Stand
  ready : List Mail → Stand

pub record Node : Type 0 where
  pub client : ℕ
  pub server : ℕ
  pub peer_global : ℕ
  -- the greatest global number that it has drawn
  pub greatest : ℕ
  -- the number of the last message that it has accepted
  pub last : ℕ
  -- up to where its own messages count as acknowledged, and up to where this feed has acknowledged them
  pub base : ℕ
  pub heard : ℕ
  -- what got a number since numbers were last set back, and all that was accepted; each without the two numbers that
  -- the runtime writes
  pub numbered : List Content
  pub accepted : List Content
  pub asks : Asks

-- whether the two feeds are one socket, and who opened it
pub data Joined : Type 0 where
  apart : Joined
  by_near : Joined
  by_far : Joined

pub record Link : Type 0 where
  pub near : Node
  pub near_stand : Stand
  pub far : Node
  pub far_stand : Stand
  pub joined : Joined
  -- how often messages were thrown away, and how many had been accepted by either side each time that numbers were
  -- set back
  pub trouble : ℕ

abbrev pub link : (near : Node) → Stand → (far : Node) → Stand → Joined → (trouble : ℕ) → Link
link x s y t j n = record { near = x; near_stand = s; far = y; far_stand = t; joined = j; trouble = n }

abbrev pub turned : Joined → Joined
turned apart = apart
turned by_near = by_far
turned by_far = by_near

-- the link as the other side sees it
abbrev pub flip : Link → Link
flip l = link l.far l.far_stand l.near l.near_stand (turned l.joined) l.trouble

abbrev pub new_node : Node
new_node = record {
  client = 0;
  server = 0;
  peer_global = 0;
  greatest = 0;
  last = 0;
  base = 0;
  heard = 0;
  numbered = [];
  accepted = [];
  asks = λ k. None;
}

-- before anything happened
abbrev pub new_link : Link
new_link = link new_node absent new_node absent apart 0
