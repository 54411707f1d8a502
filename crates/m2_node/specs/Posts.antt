-- The event threads of all nodes with their mails, and the dispatchers of the nodes: before they run, and when all mails are closed. This
-- project's own.
use Rattle.std.specs.Prelude.{◌≡◌, ℕ, ◌+◌, false, List, [], ◌∷◌, ◌++◌, drop, length, map, take}
use Rattle.std.specs.List.{AllByRecursion}
use Rattle.m2_dispatch.specs.Heard.{Heard, heard_by}
use Rattle.m2_dispatch.specs.declared.parcel.Parcel.{Parcel}
use Rattle.m2_dispatch.specs.m2_shared.declared.throttles.Throttles.{Throttles}
use Rattle.m2_dispatch.specs.m2_shared.declared.ids.Ids.{Ids}
use Rattle.m2_mailbox.specs.Merge.{IsMerge}
use Rattle.m2_mailbox.specs.Passes.{IsGetPassOf}
use Rattle.m2_mailbox.specs.declared.passes.GetPass.{GetPass}
use Rattle.m2_scenario.specs.declared.node.Node.{Node}
use Rattle.m2_node.specs.Dispatching.{DispatcherNow, IsServing, Mail, ServingNow, taken_by, throttles_of}
use Rattle.m2_node.specs.Handing.{AreHanded, IsDispatched, IsSending, SenderNow, worker_of}
use Rattle.m2_node.specs.Lists.{SideBySide}
use Rattle.m2_node.specs.Sharing.{ShareNow}
use Rattle.m2_node.specs.Working.{WorkerNow, center_of}

-- the threads, the dispatchers' threads, and the mails, each in order
pub record PostsNow : Type 0 where
  pub senders : List SenderNow
  pub servers : List ServingNow
  pub mails : List Mail

-- the dispatcher's thread of a node that shares this: it takes out of as many mails as the node has event threads, from this number on, where
-- the node is on
pub record IsServerOf (first : ℕ) (x : Node) (s : ShareNow) (v : ServingNow) : Type 0 where
  pub count : length v.gets ≡ x.centers
  pub first_is : v.first ≡ first
  pub throttles : v.dispatcher.throttles ≡ s.throttles
  pub started : v.started ≡ x.started

-- those of these nodes, in order, from a number on
abbrev pub AreServersOf : (first : ℕ) → List Node → List ShareNow → List ServingNow → Type 0
AreServersOf first [] shares vs = vs ≡ []
AreServersOf first (x ∷ nodes) (s ∷ shares) (v ∷ vs) = IsServerOf first x s v × AreServersOf (first + x.centers) nodes shares vs
AreServersOf first nodes shares vs = ⊥

-- The threads of these nodes, of which those of each node share this, with these workers: what each has handed on is what it has put and what
-- waits for room, and what each dispatcher was called with is what was taken.
pub record ArePosts (nodes : List Node) (shares : List ShareNow) (workers : List WorkerNow) (p : PostsNow) : Type 0 where
  pub workers_are : map worker_of p.senders ≡ workers
  pub sending : SideBySide IsSending p.mails p.senders
  pub servers_are : AreServersOf 0 nodes shares p.servers
  pub serving : AllByRecursion (IsServing p.mails) p.servers

-- Those of one more node, which shares this, go last, with these workers: a thread and its mail for each of them, and a dispatcher.
pub record AddsPosts (x : Node) (s : ShareNow) (workers : List WorkerNow) (old new : PostsNow) : Type 0 where
  pub senders : List SenderNow
  pub server : ServingNow
  pub mails : List Mail
  pub senders_last : new.senders ≡ old.senders ++ senders
  pub server_last : new.servers ≡ old.servers ++ server ∷ []
  pub mails_last : new.mails ≡ old.mails ++ mails
  pub workers_are : map worker_of senders ≡ workers
  pub sending : SideBySide IsSending mails senders
  pub server_is : IsServerOf (length old.mails) x s server
  pub serving : IsServing new.mails server
  pub lasted : server.dispatcher.lost ≡ false

-- ---- mails that are closed

-- A mail was closed out of which this was taken, and what its thread has handed on in all is dispatched, in order.
pub record ClosesSender (got handed : List Heard) (old new : DispatcherNow) : Type 0 where
  pub throttles : new.throttles ≡ old.throttles
  pub lasted : new.lost ≡ false → old.lost ≡ false
  pub more : List Heard
  pub whole : handed ≡ got ++ more
  pub heard : new.lost ≡ false → heard_by new.log ≡ heard_by old.log ++ more

-- the first of these mails and threads are those to which these are the rights to take, of a dispatcher by these throttles
abbrev pub AreClosable : (throttles : Throttles) → List (GetPass Parcel Ids) → List Mail → List SenderNow → Type 0
AreClosable throttles [] mails senders = Unit {0}
AreClosable throttles (g ∷ gets) (m ∷ mails) (s ∷ senders) =
    (IsGetPassOf m g × (throttles_of m ≡ throttles) × IsSending m s) × AreClosable throttles gets mails senders
AreClosable throttles gets mails senders = ⊥

-- where its dispatcher was called with what was taken out of each, and memory has lasted, it was called with all that they have handed on
pub record ClosesAll (gets : List (GetPass Parcel Ids)) (senders : List SenderNow) (old new : DispatcherNow) : Type 0 where
  pub throttles : new.throttles ≡ old.throttles
  pub lasted : new.lost ≡ false
  pub handed : (old.lost ≡ false → IsMerge Heard (map taken_by gets) (heard_by old.log)) → AreHanded (map center_of (map worker_of senders)) (heard_by new.log)

-- of each of these nodes, of these workers, this dispatcher was called with all that its centers have handed on
abbrev pub AreDispatched : List Node → List ShareNow → List WorkerNow → List DispatcherNow → Type 0
AreDispatched [] shares ws ds = ds ≡ []
AreDispatched (x ∷ nodes) (s ∷ shares) ws (d ∷ ds) =
    IsDispatched s.throttles (map center_of (take x.centers ws)) d × AreDispatched nodes shares (drop x.centers ws) ds
AreDispatched nodes shares ws ds = ⊥
