-- What is promised: each lawful entry of either side, in an order that fits, is steps of the link between the two.
use Rattle.std.specs.Prelude.{◌≡◌, ℕ, ◌+◌, Bool, false, List, Option}
use Rattle.m2_session.specs.declared.ask.AskFacts.{AskFacts}
use Rattle.m2_journal.specs.m2_fabric.declared.socket.SocketId.{SocketId}
use Rattle.m2_session.specs.m2_policy.declared.path.Key.{Key}
use Rattle.m2_session.specs.declared.answer.Answer.{Answer}
use Rattle.m2_journal.specs.declared.entry.JudgedItem.{JudgedItem}
use Rattle.m2_journal.specs.Items as item
use Rattle.m2_journal.specs.Items.{JournalItem}
use Rattle.m2_journal.specs.Lawful.{Lawful}
use Rattle.m2_journal.specs.Laws.{IsFed, ReplayedIsSound}
use Rattle.m2_journal.specs.Plan.{Planned}
use Rattle.m2_journal.specs.SideFacts.{SideFacts}
use Rattle.m2_journal.specs.State.{State, start}
use Rattle.m2_journal.specs.Steps.{after}
use Rattle.m2_never_reset.specs.Link.{flip, new_link}
use Rattle.m2_never_reset.specs.Steps.{Run}
use Rattle.m2_never_reset.specs.Fits.{Fits}
use Rattle.m2_never_reset.specs.LinkOf.{role_of, link_of}
use Rattle.m2_never_reset.specs.Paired.{Paired}
use Rattle.m2_never_reset.specs.Trouble.{trouble_at}

-- ---- an entry

-- what holds of every state to which lawful entries have led
pub record IsReplayed (f : SideFacts) (s : State) : Type 0 where
  pub fed : IsFed s
  pub sound : ReplayedIsSound f s

-- a lawful entry of the near side, in an order that fits before it and behind it
pub record MayCome (f g : SideFacts) (i : JournalItem) (a b : State) : Type 0 where
  pub near_keeps : f.policy.lossy ≡ false
  pub far_keeps : g.policy.lossy ≡ false
  pub lawful : Lawful f i a
  pub near_replayed : IsReplayed f a
  pub far_replayed : IsReplayed g b
  pub after_replayed : IsReplayed f (after f i a)
  pub paired : Paired a b
  pub fits : Fits a b
  pub fits_after : Fits (after f i a) b

-- it is steps of the link, with its trouble
abbrev pub IsSteps : SideFacts → SideFacts → JournalItem → Type 0
IsSteps f g i = (n : ℕ) (a b : State) → MayCome f g i a b →
    Run (role_of f) (role_of g) (link_of n a b) (link_of (n + trouble_at f i a b) (after f i a) b)

-- ---- each kind

abbrev pub PostsAreNoSteps : Type 0
PostsAreNoSteps = (f g : SideFacts) (place : ℕ) (planned : Option Planned) → IsSteps f g (item.post place planned)

abbrev pub DialsAreNoSteps : Type 0
DialsAreNoSteps = (f g : SideFacts) (planned : Option Planned) → IsSteps f g (item.dial planned)

abbrev pub OpenedIsSteps : Type 0
OpenedIsSteps = (f g : SideFacts) (socket : SocketId) → IsSteps f g (item.opened socket)

abbrev pub ReadIsSteps : Type 0
ReadIsSteps = (f g : SideFacts) (socket : SocketId) (bytes : List ℕ) → IsSteps f g (item.read socket bytes)

abbrev pub WroteIsSteps : Type 0
WroteIsSteps = (f g : SideFacts) (socket : SocketId) (bytes : List ℕ) → IsSteps f g (item.wrote socket bytes)

abbrev pub ClosedIsSteps : Type 0
ClosedIsSteps = (f g : SideFacts) (socket : SocketId) (broken : Bool) → IsSteps f g (item.closed socket broken)

abbrev pub JudgedIsSteps : Type 0
JudgedIsSteps = (f g : SideFacts) (socket : SocketId) (ask : AskFacts) (number : ℕ) (answer : Answer) (unread : List ℕ)
    (trail : List JudgedItem) →
    IsSteps f g (item.judged socket ask number answer unread trail)

abbrev pub AskedIsSteps : Type 0
AskedIsSteps = (f g : SideFacts) (ident : Bool) (number : ℕ) → IsSteps f g (item.asked ident number)

abbrev pub NumberedIsSteps : Type 0
NumberedIsSteps = (f g : SideFacts) (number : ℕ) → IsSteps f g (item.numbered number)

abbrev pub AcceptedIsSteps : Type 0
AcceptedIsSteps = (f g : SideFacts) (number : ℕ) (key : Key) → IsSteps f g (item.accepted number key)

abbrev pub AckedIsSteps : Type 0
AckedIsSteps = (f g : SideFacts) (number : ℕ) → IsSteps f g (item.acked number)

abbrev pub ObeyedIsSteps : Type 0
ObeyedIsSteps = (f g : SideFacts) (full : Bool) → IsSteps f g (item.obeyed full)

-- ---- every kind

-- no side is marked down by its own node
abbrev pub IsNoDown : JournalItem → Type 0
IsNoDown (item.down planned step) = ⊥
IsNoDown _ = Unit {0}

abbrev pub EntriesAreSteps : Type 0
EntriesAreSteps = (f g : SideFacts) (i : JournalItem) → IsNoDown i → IsSteps f g i

-- the link between the sides is that between them the other way round, as the other side sees it
abbrev pub LinksTurn : Type 0
LinksTurn = (f g : SideFacts) (n : ℕ) (a b : State) → IsReplayed f a → IsReplayed g b → Fits a b →
    flip (link_of n a b) ≡ link_of n b a

-- so an entry of the far side is steps of the same link
pub record EntriesOfEitherAreSteps : Type 0 where
  pub near : EntriesAreSteps
  pub far : (f g : SideFacts) (i : JournalItem) → IsNoDown i → (n : ℕ) (a b : State) → MayCome g f i b a →
      Run (role_of f) (role_of g) (link_of n a b) (link_of (n + trouble_at g i b a) a (after g i b))

-- ---- the start

-- before any entry nothing has happened on the link, and the two sides have in common what they have to
pub record StartsAreNew : Type 0 where
  pub link : (f g : SideFacts) → link_of 0 (start f) (start g) ≡ new_link
  pub paired : (f g : SideFacts) → Paired (start f) (start g)

-- ---- what stays

-- what the two have in common stays
abbrev pub Stays : SideFacts → SideFacts → JournalItem → Type 0
Stays f g i = (a b : State) → MayCome f g i a b → Paired (after f i a) b

abbrev pub PairedStays : Type 0
PairedStays = (f g : SideFacts) (i : JournalItem) → IsNoDown i → Stays f g i
