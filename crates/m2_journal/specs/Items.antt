-- A journal's entries with what they speak of: the plan's steps, and the bytes in the logs of the ends. This project's
-- own.
use Rattle.std.specs.Prelude.{◌≡◌, ℕ, ◌+◌, ◌≤◌, Bool, true, false, if◌then◌else◌, List, [], ◌∷◌, ◌++◌, take, drop, length, slice_get, Option, Some, None}
use Rattle.std.specs.List.{filter_map}
use Rattle.m2_session.specs.declared.ask.AskFacts.{AskFacts}
use Rattle.m2_fabric.specs.declared.log.Run.{Run}
use Rattle.m2_fabric.specs.declared.log.Run.TheVariants as run
use Rattle.m2_fabric.specs.declared.socket.SocketId.{SocketId}
use Rattle.m2_fabric.specs.Sockets.{same_socket}
use Rattle.m2_policy.specs.declared.path.Key.{Key}
use Rattle.m2_session.specs.declared.answer.Answer.{Answer}
use Rattle.m2_session.specs.SessionLaws.{takes}
use Rattle.m2_journal.specs.declared.entry.Entry.{Entry}
use Rattle.m2_journal.specs.declared.entry.Entry.TheVariants as entry
use Rattle.m2_journal.specs.declared.entry.JudgedItem.{JudgedItem}
use Rattle.m2_journal.specs.Plan.{Planned}

-- An entry, with the step of the plan, the bytes, and whether the end itself has failed or ended; of a half that is
-- taken what it had left unread, and what of it was judged.
pub data JournalItem : Type 0 where
  post : (place : ℕ) → Option Planned → JournalItem
  dial : Option Planned → JournalItem
  opened : SocketId → JournalItem
  read : SocketId → (bytes : List ℕ) → JournalItem
  wrote : SocketId → (bytes : List ℕ) → JournalItem
  closed : SocketId → (broken : Bool) → JournalItem
  judged : SocketId → AskFacts → (number : ℕ) → Answer → (unread : List ℕ) → (trail : List JudgedItem) → JournalItem
  asked : (ident : Bool) → (number : ℕ) → JournalItem
  numbered : (number : ℕ) → JournalItem
  accepted : (number : ℕ) → Key → JournalItem
  acked : (number : ℕ) → JournalItem
  obeyed : (full : Bool) → JournalItem
  down : (planned : Bool) → Option Planned → JournalItem

-- ---- what the entries speak of

-- The plan; of each end the bytes and the runs behind those of its trail, and whether it has failed or ended; of each half
-- that was taken the bytes that it had left unread, and its asks that were judged with their answers.
pub record Sources : Type 0 where
  pub plan : List Planned
  pub got : SocketId → List ℕ
  pub put : SocketId → List ℕ
  pub runs : SocketId → List Run
  pub broken : SocketId → Bool
  pub unread : SocketId → List ℕ
  pub trail : SocketId → List JudgedItem

-- a count for each socket, and one of them raised
abbrev pub Counts : Type 0
Counts = SocketId → ℕ

abbrev pub raised : SocketId → ℕ → Counts → Counts
raised socket n counts = λ other. if same_socket socket other then counts other + n else counts other

-- how far the entries before have come: in the plan, and in each log
pub record Places : Type 0 where
  pub steps : ℕ
  pub read : Counts
  pub written : Counts

abbrev pub at_start : Places
at_start = record { steps = 0; read = λ _. 0; written = λ _. 0 }

-- ---- from entries to items

-- what a half leaves is spoken of where it is taken, and nowhere else
abbrev pub where_taken : {X : Type 0} → Answer → List X → List X
where_taken answer xs = if takes answer then xs else []

abbrev pub item_of : Sources → Places → Entry → JournalItem
item_of s p (entry.Post place) = post place (slice_get s.plan p.steps)
item_of s p entry.Dial = dial (slice_get s.plan p.steps)
item_of s p (entry.Opened socket) = opened socket
item_of s p (entry.Read socket count) = read socket (take count (drop (p.read socket) (s.got socket)))
item_of s p (entry.Wrote socket count) = wrote socket (take count (drop (p.written socket) (s.put socket)))
item_of s p (entry.Closed socket) = closed socket (s.broken socket)
item_of s p (entry.Judged socket ask number answer) =
    judged socket ask number answer (where_taken answer (s.unread socket)) (where_taken answer (s.trail socket))
item_of s p (entry.Asked ident number) = asked ident number
item_of s p (entry.Numbered number) = numbered number
item_of s p (entry.Accepted number key) = accepted number key
item_of s p (entry.Acked number) = acked number
item_of s p (entry.Obeyed full) = obeyed full
item_of s p (entry.Down true) = down true (slice_get s.plan p.steps)
item_of s p (entry.Down false) = down false None

abbrev pub passed : Entry → Places → Places
passed (entry.Post place) p = record p { steps = p.steps + 1 }
passed entry.Dial p = record p { steps = p.steps + 1 }
passed (entry.Down true) p = record p { steps = p.steps + 1 }
passed (entry.Read socket count) p = record p { read = raised socket count p.read }
passed (entry.Wrote socket count) p = record p { written = raised socket count p.written }
passed _ p = p

abbrev pub items_from : Sources → Places → List Entry → List JournalItem
items_from s p [] = []
items_from s p (e ∷ es) = item_of s p e ∷ items_from s (passed e p) es

abbrev pub items_of : Sources → List Entry → List JournalItem
items_of s journal = items_from s at_start journal

-- ---- that the entries cover what they speak of

-- how far all of them come
abbrev pub passed_by : List Entry → Places → Places
passed_by [] p = p
passed_by (e ∷ es) p = passed_by es (passed e p)

abbrev pub reach_of : List Entry → Places
reach_of journal = passed_by journal at_start

-- those of a socket among the entries, as the log of an end lists them
abbrev pub run_of : SocketId → Entry → Option Run
run_of socket (entry.Read other count) = if same_socket socket other then Some (run.Read count) else None
run_of socket (entry.Wrote other count) = if same_socket socket other then Some (run.Wrote count) else None
run_of socket _ = None

abbrev pub runs_on : SocketId → List Entry → List Run
runs_on socket journal = filter_map (run_of socket) journal

-- The entries speak of no more of the plan than is there, and of each log run for run of all that is there, to the last
-- byte.
pub record AreCovering (s : Sources) (journal : List Entry) : Type 0 where
  pub steps : (reach_of journal).steps ≤ length s.plan
  pub read : (k : SocketId) → (reach_of journal).read k ≡ length (s.got k)
  pub written : (k : SocketId) → (reach_of journal).written k ≡ length (s.put k)
  pub runs : (k : SocketId) → s.runs k ≡ runs_on k journal
