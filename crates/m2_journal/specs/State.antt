-- Where a record stands by its journal. This project's own.
use Rattle.std.specs.Prelude.{ℕ, Bool, false, not, List, [], Option, None}
use Rattle.m2_fabric.specs.declared.socket.SocketId.{SocketId}
use Rattle.m2_message.specs.m2_frame.Reading.{Item}
use Rattle.m2_handshake.specs.Standing.{Standing}
use Rattle.m2_message.specs.Message.{Content}
use Rattle.m2_policy.specs.declared.path.Key.{Key}
use Rattle.m2_queues.specs.QueueLaws.{History, start_of}
use Rattle.m2_session.specs.declared.session.Session.{Session}
use Rattle.m2_journal.specs.declared.entry.JudgedItem.{JudgedItem}
use Rattle.m2_journal.specs.OutFrames.{OutFrame}
use Rattle.m2_journal.specs.SideFacts.{SideFacts, absent}

-- a frame that is being written, and what of its text isn't put yet
pub record PartText : Type 0 where
  pub frame : OutFrame
  pub left : List ℕ

-- the one open socket of a record
pub record Feed : Type 0 where
  pub socket : SocketId
  -- whether this record opened it
  pub opened : Bool
  -- the opener's handshake, until both sides have signed; a socket that was taken has none
  pub hand : Option Standing
  -- the texts got since then (of a taken socket since its ask), how many of them were taken, and the bytes behind
  pub got : List Item
  pub taken : ℕ
  pub rest : List ℕ
  -- what is being written: one of these, which agree in what is put; none where nothing is begun
  pub texts : List PartText
  -- the last accepted number when the text before was wholly put, and whether an acknowledgement was owed then; since
  -- numbers were last set back
  pub floor : ℕ
  pub owed : Bool
  -- how many keepalives were answered
  pub answered : ℕ
  -- up to where the ask that was resumed acknowledges
  pub resumed : Option ℕ

-- an ask that was judged, and on which socket
pub record Judgement : Type 0 where
  pub socket : SocketId
  pub item : JudgedItem

-- what is handed to the dispatcher: a message with its number, the name of the life that it was accepted in, and its key; that
-- those not dispatched yet are thrown away; that the peer has reset the session
pub data Delivery : Type 0 where
  letter : (number life : ℕ) → Key → Content → Delivery
  discarded : Delivery
  remote_reset : Delivery

-- a frame that was composed for a socket; one that no entry names is here once it is wholly put
pub record SentFrame : Type 0 where
  pub socket : SocketId
  pub frame : OutFrame

pub record State : Type 0 where
  pub session : Session
  -- the queue, with the messages since the last discard
  pub out : History
  -- the last accepted number, and whether a message was accepted since one was acknowledged
  pub last : ℕ
  pub owes : Bool
  -- the name of the life that it is in: the server cookie that was kept where numbers were last set back, 0 where none was
  pub life : ℕ
  -- how many steps of the plan were taken, and whether a dial is still to be made
  pub steps : ℕ
  pub dials : Bool
  -- the greatest global number used
  pub top : ℕ
  -- the sockets that were opened, and the asks that were judged, in order
  pub opened : List SocketId
  pub judgements : List Judgement
  pub feed : Option Feed
  -- sockets that were the feed and are not closed by an entry yet
  pub spent : List SocketId
  pub sent : List SentFrame
  -- all that was handed to the dispatcher or is still to be, in order
  pub deliveries : List Delivery

abbrev pub start : SideFacts → State
start f = record {
  session = absent f;
  out = start_of (not f.policy.lossy);
  last = 0;
  owes = false;
  life = 0;
  steps = 0;
  dials = false;
  top = 0;
  opened = [];
  judgements = [];
  feed = None;
  spent = [];
  sent = [];
  deliveries = [];
}
