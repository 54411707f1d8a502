-- What holds of every journal and its replay, and of a stream that comes in pieces.
use Rattle.std.specs.Prelude.{◌≡◌, ◌≢◌, if◌then◌else◌, not, Bool, ℕ, ◌≤◌, ◌⊎◌, true, false, IsTrue, IfSome, List, [], ◌∷◌, ◌++◌, length, take, drop, map, Option, Some, None}
use Rattle.std.specs.List.{AllByRecursion, IsDistinct, filter, flat_map}
use Rattle.std.specs.Option.{is_some, option_to_list}
use Rattle.m2_session.specs.declared.frame.Carried.{Carried}
use Rattle.m2_session.specs.Frames as answers
use Rattle.m2_session.specs.Frames.{frame_of}
use Rattle.m2_fabric.specs.declared.socket.SocketId.{SocketId}
use Rattle.m2_fabric.specs.Sockets as sockets
use Rattle.m2_fabric.specs.Sockets.{same_socket}
use Rattle.m2_message.specs.m2_frame.Frame.{Parts, Fits}
use Rattle.m2_message.specs.m2_frame.Grammar.{AreBytes}
use Rattle.m2_message.specs.m2_frame.Reading.{Item, whole, text, judge}
use Rattle.m2_message.specs.m2_frame.Stream.{Splits, IsOpen}
use Rattle.m2_message.specs.m2_frame.Text as frame
use Rattle.m2_handshake.specs.Texts.{frame_text}
use Rattle.m2_queues.specs.QueueLaws.{Call, History, history_of}
use Rattle.m2_session.specs.declared.answer.Answer.{Answer}
use Rattle.m2_session.specs.declared.answer.Answer.TheVariants.{Resume}
use Rattle.m2_session.specs.declared.event.Event.{Event}
use Rattle.m2_session.specs.declared.session.Phase.TheVariants.{Ready}
use Rattle.m2_session.specs.declared.session.Session.{Session}
use Rattle.m2_session.specs.SessionLaws as session
use Rattle.m2_session.specs.Phases.{is_among, with_feed}
use Rattle.m2_session.specs.Steps.{is_lawful, step_of}
use Rattle.m2_journal.specs.declared.entry.Entry.{Entry}
use Rattle.m2_journal.specs.Feeds.{first_owed}
use Rattle.m2_journal.specs.Growth.{Continues}
use Rattle.m2_journal.specs.Items.{JournalItem, Sources, AreCovering, item_of, reach_of}
use Rattle.m2_journal.specs.Lawful.{Lawful}
use Rattle.m2_journal.specs.Replay.{AreLawful, IsReplay, after_items}
use Rattle.m2_journal.specs.Said.{Split, split, behind}
use Rattle.m2_journal.specs.OutFrames.{OutFrame, ident, reconnect, server_ident, reconnect_ok, replies_of, server_ident_of, text_of}
use Rattle.m2_journal.specs.SideFacts.{SideFacts, speaker_of}
use Rattle.m2_journal.specs.State.{Feed, Judgement, State, start}
use Rattle.m2_journal.specs.Steps.{after, event_at}

-- ---- words

-- of the feed, where there is one
abbrev pub IfFed : Option Feed → (Feed → Type 0) → Type 0
IfFed (Some d) P = P d
IfFed None P = Unit {0}

-- ---- the session

-- the replayed session is told the event of each entry, and nothing else changes it
abbrev pub SessionGoesByTheTable : Type 0
SessionGoesByTheTable = (f : SideFacts) (i : JournalItem) (s : State) → (after f i s).session ≡ session.told s.session (event_at f i s)

-- The name of a life behind what a session is told: where that sets numbers back, the server cookie that the session keeps then, and
-- else what it was.
abbrev pub life_told : Option Event → Session → (life : ℕ) → ℕ
life_told (Some e) s life = if (step_of s e).effects.set_back then (step_of s e).session.server_cookie else life
life_told None s life = life

-- a life begins where numbers are set back, and is named there and nowhere else
abbrev pub LivesBeginWhereNumbersDo : Type 0
LivesBeginWhereNumbersDo = (f : SideFacts) (i : JournalItem) (s : State) → (after f i s).life ≡ life_told (event_at f i s) s.session s.life

-- there is a feed exactly where the phase is one with a feed
abbrev pub IsFed : State → Type 0
IsFed s = is_some s.feed ≡ is_among s.session.phase with_feed

-- the events of lawful entries are lawful in the phase
abbrev pub EventIsLawful : SideFacts → JournalItem → State → Type 0
EventIsLawful f i s = IfSome (event_at f i s) (λ e. IsTrue (is_lawful s.session e))

-- Wherever lawful entries have led, there is a feed exactly where the phase has one, and the event of the next lawful entry
-- has a row in the table of steps.
pub record EventsAreLawful : Type 0 where
  pub fed : (f : SideFacts) (is : List JournalItem) → AreLawful f is (start f) → IsFed (after_items f is (start f))
  pub lawful : (f : SideFacts) (is : List JournalItem) (i : JournalItem) → AreLawful f is (start f) →
      Lawful f i (after_items f is (start f)) → EventIsLawful f i (after_items f is (start f))

-- ---- what holds where lawful entries have led

-- what calls have made of a new queue
abbrev pub IsOfCalls : (keeps : Bool) → History → Type 0
IsOfCalls keeps h = (calls : List Call) × (h ≡ history_of keeps calls)

-- the global number that was drawn for a frame
abbrev pub drawn_for : OutFrame → Option ℕ
drawn_for (ident cookie global) = Some global
drawn_for (reconnect client server global connect seen) = Some global
drawn_for (server_ident cookie global) = Some global
drawn_for _ = None

-- the sockets on which an ask was answered by taking them
abbrev pub taken_among : List Judgement → List SocketId
taken_among js = map (λ j. j.socket) (filter (λ j. session.takes j.item.answer) js)

-- A session is that of the facts, and has the cookies of its policy: none of its client where that is lossy, and one of its
-- server in Ready where it isn't.
pub record SessionIsSound (f : SideFacts) (s : Session) : Type 0 where
  pub mine : s.mine ≡ f.mine
  pub peer : s.peer ≡ f.peer
  pub policy : s.policy ≡ f.policy
  pub client : f.policy.lossy ≡ true → s.client_cookie ≡ 0
  pub server : f.policy.lossy ≡ false → s.phase ≡ Ready → s.server_cookie ≢ 0

-- What a replayed record has sent carries no global number above its greatest. Its feed is a socket that it opened, or one
-- that it took by an answer, and so was each that is spent. None was spent twice, nor was the feed.
pub record ReplayedIsSound (f : SideFacts) (s : State) : Type 0 where
  pub session : SessionIsSound f s.session
  pub queue : IsOfCalls (not f.policy.lossy) s.out
  pub sent : AllByRecursion (λ w. IfSome (drawn_for w.frame) (λ n. n ≤ s.top)) s.sent
  pub feed : IfFed s.feed (λ d. IsTrue (sockets.is_among d.socket (if d.opened then s.opened else taken_among s.judgements)))
  pub spent : AllByRecursion (λ k. IsTrue (sockets.is_among k s.opened) ⊎ IsTrue (sockets.is_among k (taken_among s.judgements))) s.spent
  pub once : IsDistinct same_socket s.spent
  pub unspent : IfFed s.feed (λ d. sockets.is_among d.socket s.spent ≡ false)

abbrev pub ReplaysAreSound : Type 0
ReplaysAreSound = (f : SideFacts) (is : List JournalItem) → AreLawful f is (start f) → ReplayedIsSound f (after_items f is (start f))

-- ---- answers

-- The frame of an answer that takes no socket is the one that is written for it; that of one that takes it says the cookie
-- and the number that were drawn, or up to where was accepted.
pub record AnswersAreWritten : Type 0 where
  pub replies : (f : SideFacts) (c : Carried) (a : Answer) → session.takes a ≡ false →
      map (text_of f) (replies_of a) ≡ map frame_text (option_to_list (frame_of (speaker_of f) c a))
  pub accepts : (f : SideFacts) (c : Carried) (a : Answer) → answers.accepts a ≡ true →
      frame_of (speaker_of f) c a ≡ Some (server_ident_of f c.cookie c.global)
  pub resumes : (f : SideFacts) (c : Carried) → text_of f (reconnect_ok c.last) ∷ [] ≡ map frame_text (option_to_list (frame_of (speaker_of f) c Resume))

-- ---- growing

-- What an entry leads to stays: a replay goes on being one where the logs and the plan grow, as long as the entries cover
-- what is new.
abbrev pub ReplaysStay : Type 0
ReplaysStay = (f : SideFacts) (old new : Sources) (journal : List Entry) (s : State) →
    IsReplay f old journal s → Continues old new journal → AreCovering new journal → IsReplay f new journal s

-- One more entry leads on, where it is lawful and the journal then covers what it speaks of.
abbrev pub OneMoreLeadsOn : Type 0
OneMoreLeadsOn = (f : SideFacts) (old new : Sources) (journal : List Entry) (e : Entry) (s : State) →
    IsReplay f old journal s → Continues old new journal → AreCovering new (journal ++ e ∷ []) →
    Lawful f (item_of new (reach_of journal) e) s →
    IsReplay f new (journal ++ e ∷ []) (after f (item_of new (reach_of journal) e) s)

-- ---- a stream in pieces

-- the whole texts and the rest are the one reading of a stream
pub record SplitIsTheReading : Type 0 where
  pub splits : (bytes : List ℕ) → Splits bytes (split bytes).items (split bytes).rest
  pub is_open : (bytes : List ℕ) → IsOpen (split bytes).rest
  pub only : (bytes : List ℕ) (c : Split) → Splits bytes c.items c.rest → IsOpen c.rest → split bytes ≡ c

-- more bytes are read behind those that were left
abbrev pub split_on : Split → List ℕ → Split
split_on c more = record { items = c.items ++ (split (c.rest ++ more)).items; rest = (split (c.rest ++ more)).rest }

pub record ReadsInPieces : Type 0 where
  pub more : (bytes more : List ℕ) → split (bytes ++ more) ≡ split_on (split bytes) more
  pub next : (bytes : List ℕ) (i : Item) (n : ℕ) → judge bytes ≡ text i n → split bytes ≡ behind i (split (drop n bytes))
  pub none : (bytes : List ℕ) → IsOpen bytes → split bytes ≡ record { items = []; rest = bytes }

-- a frame that can be written
pub record IsWritable (f : Parts) : Type 0 where
  pub fits : Fits f
  pub bytes : AreBytes f

-- Of any prefix of what was written, the texts are those of the first frames that were written.
abbrev pub PrefixesAreFrames : Type 0
PrefixesAreFrames = (fs : List Parts) (k : ℕ) → AllByRecursion IsWritable fs →
    (j : ℕ) × (j ≤ length fs) × ((split (take k (flat_map frame.text_of fs))).items ≡ map whole (take j fs))

-- ---- acknowledgements

-- where an acknowledgement is owed, one of the last accepted number may be put
pub record CanBePaid (s : State) (d : Feed) : Type 0 where
  pub floor : d.floor ≤ s.last
  pub last : s.owes ≡ true → first_owed d ≤ s.last

abbrev pub AcknowledgementsCanBePaid : Type 0
AcknowledgementsCanBePaid = (f : SideFacts) (is : List JournalItem) → AreLawful f is (start f) →
    IfFed (after_items f is (start f)).feed (CanBePaid (after_items f is (start f)))
