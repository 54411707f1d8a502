-- A core beside the state that its record's journal is replayed to. What a journal has besides (the steps of the plan, the
-- sockets, the judgements, what was sent and what is handed out) is no part of a core. This project's own.
use Rattle.std.specs.Prelude.{◌≡◌, ℕ, ◌⊎◌, ◌==◌, true, [], ◌∷◌, ◌++◌, Option, Some, None}
use Rattle.std.specs.List.{list_any}
use Rattle.m2_feed.specs.FeedNow.{FeedNow}
use Rattle.m2_feed.specs.Stands.{Stands}
use Rattle.m2_journal.specs.Feeds.{told}
use Rattle.m2_journal.specs.Items.{JournalItem}
use Rattle.m2_journal.specs.Lawful.{Lawful, OnFeed, is_broken}
use Rattle.m2_journal.specs.SideFacts.{SideFacts}
use Rattle.m2_journal.specs.State.{Delivery, Feed, State}
use Rattle.m2_journal.specs.Steps.{after}
use Rattle.m2_core.specs.CoreNow.{CoreNow}

-- both have a feed, and the one stands where the other does; or none has
abbrev pub FeedsAgree : SideFacts → State → Option FeedNow → Option Feed → Type 0
FeedsAgree f s (Some v) (Some d) = Stands f s v d
FeedsAgree f s None None = Unit {0}
FeedsAgree f s _ _ = ⊥

-- a text that was got on the feed, or the ask that was resumed there, acknowledges up to this number
abbrev pub IsTold : ℕ → Option Feed → Type 0
IsTold number (Some d) = list_any (λ n. n == number) (told d) ≡ true
IsTold number None = ⊥

pub record Agrees (c : CoreNow) (s : State) : Type 0 where
  pub session : c.live.session ≡ s.session
  pub queue : c.live.out.queue ≡ s.out.queue
  pub last : c.live.last ≡ s.last
  pub life : c.live.life ≡ s.life
  pub owes : c.owes ≡ s.owes
  pub dials : c.dials ≡ s.dials
  pub top : c.top ≡ s.top
  pub feed : FeedsAgree c.facts s c.live.feed s.feed
  pub resumed : (c.live.resumed ≡ 0) ⊎ IsTold c.live.resumed s.feed

-- ---- what a call does, said by the replay

-- the call is this entry: the core agrees behind it wherever it agreed before
abbrev pub LeadsOn : JournalItem → CoreNow → CoreNow → Type 0
LeadsOn item old new = (s : State) → Agrees old s → Agrees new (after old.facts item s)

-- the call makes no entry
abbrev pub Stays : CoreNow → CoreNow → Type 0
Stays old new = (s : State) → Agrees old s → Agrees new s

-- the entry is lawful wherever the core agrees
abbrev pub MayCome : JournalItem → CoreNow → Type 0
MayCome item c = (s : State) → Agrees c s → Lawful c.facts item s

-- wherever the core agrees, the entry hands this out behind all that was handed out before
abbrev pub HandsOut : JournalItem → Delivery → CoreNow → Type 0
HandsOut item x c = (s : State) → Agrees c s → (after c.facts item s).deliveries ≡ s.deliveries ++ x ∷ []

-- the feed has told an acknowledgement up to this number
abbrev pub IsToldTo : ℕ → CoreNow → Type 0
IsToldTo number c = (s : State) → Agrees c s → IsTold number s.feed

-- the bytes on the feed are a fault
abbrev pub IsBroken : CoreNow → Type 0
IsBroken c = (s : State) → Agrees c s → OnFeed s (λ d. is_broken s d ≡ true)
