-- The links of nodes that have ended, woven. This project's own.
use Rattle.std.specs.Prelude.{◌≡◌, ℕ, ◌==◌, ◌<◌, if◌then◌else◌, List, [], ◌∷◌, slice_get, Option, Some, None, Result, Ok, Err}
use Rattle.std.specs.Option.{option_map}
use Rattle.m2_node.specs.m2_links_go_on.m2_history.Counted.{logs_of}
use Rattle.m2_node.specs.m2_links_go_on.m2_history.Link.{WeavesRecords, both_of}
use Rattle.m2_node.specs.m2_links_go_on.m2_history.Lossy.{IsInOrderIn}
use Rattle.m2_node.specs.m2_links_go_on.m2_history.Marked.{IsToAMarkIn}
use Rattle.m2_node.specs.m2_links_go_on.m2_history.WovenLaws.{IsDeliveredIn, IsUnreset, link_of}
use Rattle.m2_node.specs.m2_links_go_on.m2_history.declared.history.History.{History}
use Rattle.m2_node.specs.m2_links_go_on.m2_history.declared.history.WeaveFault.{WeaveFault}
use Rattle.m2_node.specs.m2_links_go_on.m2_history.declared.history.WeaveFault.TheVariants as fault
use Rattle.m2_node.specs.m2_script.m2_record.RecordNow.{RecordNow}
use Rattle.m2_scenario.specs.declared.link.Link.{Link}
use Rattle.m2_weave.specs.declared.unfit.Unfit.{Unfit}
use Rattle.m2_trail.specs.Arrivals.{LooseNow}
use Rattle.m2_run.specs.Rests.{EndedCenterNow, EndedNow}

-- the first of these records that is towards the node at place j
abbrev pub towards : (j : ℕ) → List RecordNow → Option RecordNow
towards j [] = None
towards j (r ∷ rs) = if r.place == j then Some r else towards j rs

-- a record, and what is left of the thread that has it
pub record SideNow : Type 0 where
  pub center : EndedCenterNow
  pub record_ : RecordNow

abbrev pub side_of : EndedCenterNow → RecordNow → SideNow
side_of c r = record { center = c; record_ = r }

-- this one, or else the first of those behind it
abbrev pub first_of : Option SideNow → Option SideNow → Option SideNow
first_of (Some s) others = Some s
first_of None others = others

-- the first record of these threads that is towards the node at place j
abbrev pub side_towards : (j : ℕ) → List EndedCenterNow → Option SideNow
side_towards j [] = None
side_towards j (c ∷ cs) = first_of (option_map (side_of c) (towards j c.records)) (side_towards j cs)

-- Of the two nodes of a link the records towards each other, with what is left of their threads.
pub record IsLinkOf (all : List EndedNow) (l : Link) (near far : EndedCenterNow) (a b : RecordNow) : Type 0 where
  pub here : EndedNow
  pub there : EndedNow
  pub near_there : slice_get all l.a ≡ Some here
  pub far_there : slice_get all l.b ≡ Some there
  pub mine : side_towards l.b here.centers ≡ Some (side_of near a)
  pub theirs : side_towards l.a there.centers ≡ Some (side_of far b)

-- The link has a history: an order of all that its records and the halves that no record took did, in which each byte was read after it
-- was written. What that says of a link stands with its fields (`m2_history`): between lossless nodes nothing is reset before a mark-down,
-- and what the dispatchers were called with is of each key the first of what was posted, in order, each once; of a lossy link it is some
-- of it, in order. All calls of a peer's messages are of the thread that has the record towards it.
pub record HasHistory (all : List EndedNow) (loose : List LooseNow) (l : Link) : Type 0 where
  pub near : EndedCenterNow
  pub far : EndedCenterNow
  pub a : RecordNow
  pub b : RecordNow
  pub is_of : IsLinkOf all l near far a b
  pub history : History
  pub weaves : WeavesRecords (Ok history) (both_of a b loose)
  pub never_reset : IsUnreset (link_of a b loose) history
  pub delivered : IsDeliveredIn (link_of a b loose) (logs_of near.fast near.queued) (logs_of far.fast far.queued) history
  pub to_a_mark : IsToAMarkIn (link_of a b loose) (logs_of near.fast near.queued) (logs_of far.fast far.queued) history
  pub lossy : IsInOrderIn (link_of a b loose) (logs_of near.fast near.queued) (logs_of far.fast far.queued) history

-- it has none: as far as any order goes, it stops at this byte
pub record HasNoHistory (all : List EndedNow) (loose : List LooseNow) (l : Link) (u : Unfit) : Type 0 where
  pub near : EndedCenterNow
  pub far : EndedCenterNow
  pub a : RecordNow
  pub b : RecordNow
  pub is_of : IsLinkOf all l near far a b
  pub weaves : WeavesRecords (Err (fault.Unfit u)) (both_of a b loose)

-- what weaving a link answers; of want of memory nothing is said
abbrev pub WeavesLink : Result (Unit {0}) WeaveFault → List EndedNow → List LooseNow → Link → Type 0
WeavesLink (Ok _) all loose l = HasHistory all loose l
WeavesLink (Err (fault.Unfit u)) all loose l = HasNoHistory all loose l u
WeavesLink (Err fault.NoMemory) all loose l = Unit {0}

-- each of these links has a history
abbrev pub HaveHistories : List EndedNow → List LooseNow → List Link → Type 0
HaveHistories all loose links = (i : ℕ) (l : Link) → slice_get links i ≡ Some l → HasHistory all loose l

-- the links before one have a history, and that one stops at this byte
pub record StopsAtLink (all : List EndedNow) (loose : List LooseNow) (links : List Link) (u : Unfit) : Type 0 where
  pub place : ℕ
  pub link : Link
  pub there : slice_get links place ≡ Some link
  pub before : (i : ℕ) (l : Link) → i < place → slice_get links i ≡ Some l → HasHistory all loose l
  pub stops : HasNoHistory all loose link u

-- what weaving all of them answers
abbrev pub WeavesAll : Result (Unit {0}) WeaveFault → List EndedNow → List LooseNow → List Link → Type 0
WeavesAll (Ok _) all loose links = HaveHistories all loose links
WeavesAll (Err (fault.Unfit u)) all loose links = StopsAtLink all loose links u
WeavesAll (Err fault.NoMemory) all loose links = Unit {0}
