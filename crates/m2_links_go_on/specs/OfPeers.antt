-- Of whom the calls are that a node's two dispatchers had: of peers of the records of its center. This project's own.
use Rattle.std.specs.Prelude.{◌≡◌, ℕ, ◌==◌, true, List, IfSome}
use Rattle.std.specs.List.{AllByRecursion, list_any}
use Rattle.m2_dispatch.specs.Heard.{Heard, peer_of}
use Rattle.m2_dispatch.specs.declared.letter.Letter.{Letter}
use Rattle.m2_dispatch.specs.declared.parcel.Parcel.{Parcel}
use Rattle.m2_dispatch.specs.Dispatch.{Queued}
use Rattle.m2_history.specs.m2_channel.Handing as handing
use Rattle.m2_history.specs.m2_record.RecordNow.{RecordNow}
use Rattle.m2_cluster.specs.m2_center.m2_turn.Outbox.{OutboxNow}

-- one of these records is towards this node
abbrev pub IsPeerOf : List RecordNow → ℕ → Type 0
IsPeerOf records peer = list_any (λ (r : RecordNow). r.place == peer) records ≡ true

-- All calls that both dispatchers had are of peers of these records, and all that is on its way to them: the letter that is held, the
-- mail, and the letters that wait.
pub record AreOfPeers {D : Type 0} (heard : D → List Heard) (records : List RecordNow) (out : OutboxNow D) (queue : Queued D) : Type 0 where
  pub fast : AllByRecursion (λ (h : Heard). IsPeerOf records (peer_of h)) (heard out.fast)
  pub held : IfSome out.held (λ (l : Letter). IsPeerOf records l.peer)
  pub mail : AllByRecursion (λ (p : Parcel). IsPeerOf records (handing.peer_of p)) out.mail
  pub waiting : AllByRecursion (λ (l : Letter). IsPeerOf records l.peer) queue.waiting
  pub queued : AllByRecursion (λ (h : Heard). IsPeerOf records (peer_of h)) (heard queue.inner)
