-- What event threads hand on to the dispatcher of their node: each by a mail, into which it alone puts. And what the dispatcher was called
-- with in the end. This project's own.
use Rattle.std.specs.Prelude.{◌≡◌, ◌⊎◌, ℕ, false, List, [], ◌∷◌, ◌++◌, length, map}
use Rattle.m2_bytes.specs.Items.{Holding}
use Rattle.m2_dispatch.specs.Heard.{Heard, heard_by}
use Rattle.m2_dispatch.specs.Parcel.{heard_for_all}
use Rattle.m2_dispatch.specs.declared.logged.Logged.{Logged}
use Rattle.m2_dispatch.specs.declared.parcel.Parcel.{Parcel}
use Rattle.m2_dispatch.specs.m2_shared.Gates.{AreShared}
use Rattle.m2_dispatch.specs.m2_shared.declared.throttles.Throttles.{Throttles}
use Rattle.m2_dispatch.specs.m2_shared.declared.ids.Ids.{Ids}
use Rattle.m2_mailbox.specs.Merge.{IsMerge}
use Rattle.m2_mailbox.specs.Passes.{IsPutPassOf, capacity_of, parts_of, puts_of}
use Rattle.m2_mailbox.specs.Views.{all_parts}
use Rattle.m2_mailbox.specs.declared.inbox.TheConstants.{MOST_PARCELS}
use Rattle.m2_mailbox.specs.declared.passes.PutPass.{PutPass}
use Rattle.m2_script.specs.m2_center.Center.{CenterNow}
use Rattle.m2_node.specs.Dispatching.{DispatcherNow, Mail, throttles_of}
use Rattle.m2_node.specs.Nodes.{RunNodeNow, fast_in, queued_in}
use Rattle.m2_node.specs.Watching.{RunsSo}
use Rattle.m2_node.specs.Working.{Stops, TurnsOnce, WaitsOnce, WorkerNow}

-- ---- what centers have handed on

-- what a center's dispatcher behind the queue was called with
abbrev pub handed_by : CenterNow (List Logged) → List Heard
handed_by c = heard_by c.queued.inner

-- This is what these centers have handed on, as one list: nothing is left out and nothing comes twice, and what each has handed on stands in
-- it in order.
abbrev pub AreHanded : List (CenterNow (List Logged)) → List Heard → Type 0
AreHanded centers heard = IsMerge Heard (map handed_by centers) heard

-- a node's dispatcher, by these throttles, which threads share: it was called with just that, where memory has lasted
pub record IsDispatched (throttles : Throttles) (centers : List (CenterNow (List Logged))) (d : DispatcherNow) : Type 0 where
  pub at : d.throttles ≡ throttles
  pub shared : AreShared throttles
  pub handed : d.lost ≡ false → AreHanded centers (heard_by d.log)

-- what its dispatcher was called with, as it is kept of a node whose threads have ended
abbrev pub IsLogOf : RunNodeNow → Holding Logged → Type 0
IsLogOf n log = AreHanded n.centers (heard_by log.items)

-- that of one more node goes last
pub record AddsLog (n : RunNodeNow) (old new : List (Holding Logged)) : Type 0 where
  pub log : Holding Logged
  pub is : IsLogOf n log
  pub last : new ≡ old ++ log ∷ []

-- what a node's dispatchers of fast kinds were called with, center by center; and then what its centers have handed on
abbrev pub heard_at_once : RunNodeNow → List Heard
heard_at_once n = heard_by (fast_in n)

abbrev pub heard_in_order : RunNodeNow → List Heard
heard_in_order n = heard_at_once n ++ heard_by (queued_in n)

-- what both its dispatchers were called with, those of fast kinds first, and then the one behind the mails
pub record AreHeardAtEnd (n : RunNodeNow) (heard : List Heard) : Type 0 where
  pub queued : List Heard
  pub both : heard ≡ heard_at_once n ++ queued
  pub handed : AreHanded n.centers queued

-- the calls of both, node by node
abbrev pub AreBoth : (fast queued logs : List (Holding Logged)) → Type 0
AreBoth [] [] [] = Unit {0}
AreBoth (f ∷ fast) (q ∷ queued) (l ∷ logs) = (l.items ≡ f.items ++ q.items) × AreBoth fast queued logs
AreBoth fast queued logs = ⊥

-- ---- an event thread and its mail

-- the center of a worker has handed on nothing so far
abbrev pub HasHandedNothing : WorkerNow → Type 0
HasHandedNothing w = w.center.queued.inner ≡ []

-- the worker, its right to put, and what it has handed on that isn't in the mail yet
pub record SenderNow : Type 0 where
  pub worker : WorkerNow
  pub put : PutPass Parcel Ids
  pub waiting : List Parcel

abbrev pub worker_of : SenderNow → WorkerNow
worker_of s = s.worker

-- What it has put and then what waits is what its center has handed on, in order. It is the only one who puts into this mail, which is for
-- what the node's throttles have granted for, and has room for so many parcels.
pub record IsSending (mail : Mail) (s : SenderNow) : Type 0 where
  pub owner : throttles_of mail ≡ s.worker.throttles
  pub shared : AreShared s.worker.throttles
  pub ours : IsPutPassOf mail s.put
  pub whole : parts_of s.put ≡ all_parts
  pub room : capacity_of mail ≡ MOST_PARCELS
  pub own : List Parcel
  pub puts : puts_of s.put ≡ own ∷ []
  pub handed : handed_by s.worker.center ≡ heard_for_all (own ++ s.waiting)

-- at some moment the mail into which this alone puts held as many parcels as it has room for
pub record HasFilled (put : PutPass Parcel Ids) : Type 0 where
  pub gone : List Parcel
  pub held : List Parcel
  pub full : length held ≡ MOST_PARCELS
  pub whole : IsMerge Parcel (puts_of put) (gone ++ held)

-- it was told to go on, and took a turn; or it waited, since its mail was full
abbrev pub SendsOnce : (E : Type 0) → (may_give : ℕ → Type 0) → (old new : SenderNow) → Type 0
SendsOnce E may_give old new = TurnsOnce E may_give old.worker new.worker ⊎ (HasFilled new.put × WaitsOnce old.worker new.worker)

-- Its thread did one of these exactly as often as it was told to go on, until it was told to stop; of a node that is off it did nothing.
abbrev pub RunsSender : (E : Type 0) → (may_give : ℕ → Type 0) → (old new : SenderNow) → Type 0
RunsSender E may_give old new = RunsSo (SendsOnce E may_give) (λ (s t : SenderNow). Stops s.worker t.worker) old.worker.started old new
