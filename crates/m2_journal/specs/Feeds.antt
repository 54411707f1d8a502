-- A feed that hears bytes, what it says next, and what may be put on it. Which texts are passed over and which
-- acknowledge is Ceph's ProtocolV2; when an acknowledgement is owed is this project's profile.
use Rattle.std.specs.Prelude.{ℕ, ◌+◌, ◌-◌, ◌==◌, ◌&&◌, not, Bool, true, false, nat_le, if◌then◌else◌, List, [], ◌∷◌, ◌++◌, length, drop, take, map, slice_get, Option, Some, None}
use Rattle.std.specs.List.{filter, filter_map, find, range_with_len, prefix_len}
use Rattle.std.specs.Option.{option_map, option_to_list}
use Rattle.m2_handshake.specs.m2_control.declared.control.Control.TheVariants as control
use Rattle.m2_handshake.specs.m2_control.declared.keepalive.Keepalive.{Keepalive}
use Rattle.m2_handshake.specs.m2_control.Banner.{begins}
use Rattle.m2_fabric.specs.declared.socket.SocketId.{SocketId}
use Rattle.m2_message.specs.m2_frame.Reading.{Item}
use Rattle.m2_handshake.specs.Course as hand
use Rattle.m2_handshake.specs.Course.{Course, course_of}
use Rattle.m2_handshake.specs.Moves.{is_authed}
use Rattle.m2_handshake.specs.Standing.{Standing, fed}
use Rattle.m2_session.specs.declared.session.Phase.TheVariants.{Ready}
use Rattle.m2_session.specs.Phases as phase
use Rattle.m2_journal.specs.OutFrames.{OutFrame, greeting, acknowledgement, keepalive_answer, text_of}
use Rattle.m2_journal.specs.Said.{Split, split, Said, says, brings, aborts, garbles, said}
use Rattle.m2_journal.specs.SideFacts.{SideFacts, opener_half}
use Rattle.m2_journal.specs.State.{PartText, Feed, State}

-- ---- hearing

abbrev pub split_into : Split → Feed → Feed
split_into c d = record d { got = d.got ++ c.items; rest = c.rest }

-- a handshake's text goes behind what it has begun
abbrev pub greets : List ℕ → List PartText → List PartText
greets [] texts = texts
greets (b ∷ bs) [] = record { frame = greeting; left = b ∷ bs } ∷ []
greets (b ∷ bs) (t ∷ ts) = record t { left = t.left ++ b ∷ bs } ∷ []

-- where both sides have signed, what is unread is split into texts
abbrev pub signs : Standing → Feed → Feed
signs s d =
    if is_authed s.stage then split_into (split s.rest) (record d { hand = None })
    else record d { hand = Some s }

abbrev pub goes_on : Course → Feed → Feed
goes_on c d = signs c.standing (record d { texts = greets (hand.text_of c.events) d.texts })

abbrev pub hears_at : Option Standing → List ℕ → Feed → Feed
hears_at (Some s) bytes d = goes_on (course_of (fed s bytes) []) d
hears_at None bytes d = split_into (split (d.rest ++ bytes)) d

abbrev pub hears : List ℕ → Feed → Feed
hears bytes d = hears_at d.hand bytes d

-- a socket on which nothing was heard and nothing is begun, where so much was accepted
abbrev pub silent_feed : SocketId → (opened : Bool) → (last : ℕ) → (owes : Bool) → Feed
silent_feed socket opened last owes = record {
  socket = socket;
  opened = opened;
  hand = None;
  got = [];
  taken = 0;
  rest = [];
  texts = [];
  floor = last;
  owed = owes;
  answered = 0;
  resumed = None;
}

-- a socket that is opened, with the banner to be written
abbrev pub opened_feed : SideFacts → SocketId → (last : ℕ) → (owes : Bool) → Feed
opened_feed f socket last owes = goes_on (course_of (opener_half f) []) (silent_feed socket true last owes)

-- a socket of the peer that is taken, with the bytes that its half had left unread, and up to where its ask acknowledges
abbrev pub taken_feed : SocketId → (unread : List ℕ) → (resumed : Option ℕ) → (last : ℕ) → (owes : Bool) → Feed
taken_feed socket unread resumed last owes = split_into (split unread) (record (silent_feed socket false last owes) { resumed = resumed })

-- ---- what is next

abbrev pub said_at : List Item → ℕ → Option Said
said_at items place = option_map said (slice_get items place)

-- outside Ready nothing is passed over: the next text is the answer to an ask
abbrev pub answer_said : Feed → Option Said
answer_said d = said_at d.got d.taken

-- passed over in Ready, where `last` was accepted: an acknowledgement, a keepalive, what was aborted, an old message
abbrev pub is_passed : (last : ℕ) → Said → Bool
is_passed last (says (control.Ack p)) = true
is_passed last (says (control.Keepalive p)) = true
is_passed last (says (control.KeepaliveAck p)) = true
is_passed last (says _) = false
is_passed last (brings m) = nat_le m.header.seq last
is_passed last aborts = true
is_passed last garbles = false

-- the place of the next text that isn't passed over
abbrev pub next_place : (last : ℕ) → Feed → ℕ
next_place last d = d.taken + prefix_len (λ item. is_passed last (said item)) (drop d.taken d.got)

abbrev pub next_said : (last : ℕ) → Feed → Option Said
next_said last d = said_at d.got (next_place last d)

-- ---- what is acknowledged

-- the number up to which a text acknowledges
abbrev pub told_by : Said → Option ℕ
told_by (brings m) = Some m.header.ack_seq
told_by (says (control.Ack p)) = Some p.seen
told_by (says (control.SessionReconnectOk p)) = Some p.seen
told_by _ = None

-- all numbers that were acknowledged on this feed
abbrev pub told : Feed → List ℕ
told d = option_to_list d.resumed ++ filter_map (λ item. told_by (said item)) d.got

-- ---- putting

abbrev pub begun : SideFacts → OutFrame → PartText
begun f w = record { frame = w; left = text_of f w }

-- keepalives are answered once each, in order
abbrev pub stamp_of : Said → Option Keepalive
stamp_of (says (control.Keepalive p)) = Some p
stamp_of _ = None

-- those of the first texts
abbrev pub stamps_in : List Item → List Keepalive
stamps_in items = filter_map (λ item. stamp_of (said item)) items

-- the next one that isn't answered, before the next text that isn't passed over
abbrev pub next_stamp : (last : ℕ) → Feed → Option Keepalive
next_stamp last d = slice_get (stamps_in (take (next_place last d) d.got)) d.answered

-- the least number of an acknowledgement: a new one, but where one was owed already when the text before was put, or when
-- numbers were last set back
abbrev pub first_owed : Feed → ℕ
first_owed d = if d.owed then d.floor else d.floor + 1

-- the numbers up to which may be acknowledged: one that was accepted since the text before
abbrev pub owed_numbers : State → Feed → List ℕ
owed_numbers s d = range_with_len (first_owed d) (s.last + 1 - first_owed d)

abbrev pub acknowledgements : SideFacts → State → Feed → List PartText
acknowledgements f s d = if s.owes && not f.policy.lossy then map (λ n. begun f (acknowledgement n)) (owed_numbers s d) else []

abbrev pub keepalive_answers : SideFacts → State → Feed → List PartText
keepalive_answers f s d = map (λ k. begun f (keepalive_answer k)) (option_to_list (next_stamp s.last d))

-- the texts that no entry names
abbrev pub unnamed : SideFacts → State → Feed → List PartText
unnamed f s d = if phase.is s.session.phase Ready then acknowledgements f s d ++ keepalive_answers f s d else []

-- what may be put: what is begun, or where that is nothing a text that no entry names
abbrev pub texts_at : SideFacts → State → Feed → List PartText
texts_at f s d = if length d.texts == 0 then unnamed f s d else d.texts

abbrev pub without_first : ℕ → PartText → PartText
without_first n t = record t { left = drop n t.left }

-- those of the texts that go on with these bytes, behind them
abbrev pub narrowed : List ℕ → List PartText → List PartText
narrowed bytes texts = map (without_first (length bytes)) (filter (λ t. begins bytes t.left) texts)

-- the text that is wholly put
abbrev pub finished : List PartText → Option PartText
finished texts = find (λ t. length t.left == 0) texts
