-- Journals, logs and plans that grow at their ends.
use Rattle.std.specs.Prelude.{◌≡◌, ℕ, ◌≤◌, true, List, ◌++◌, length}
use Rattle.std.specs.List.{AllByRecursion}
use Rattle.m2_fabric.specs.declared.socket.SocketId.{SocketId}
use Rattle.m2_session.specs.SessionLaws.{takes}
use Rattle.m2_journal.specs.declared.entry.Entry.{Entry}
use Rattle.m2_journal.specs.declared.entry.Entry.TheVariants as entry
use Rattle.m2_journal.specs.Items.{Sources, Places, reach_of}

-- a list that goes on as it was
abbrev pub IsExtended : {X : Type 0} → List X → List X → Type 0
IsExtended {X} old new = (more : List X) × (new ≡ old ++ more)

-- the plan and the logs go on as they were
pub record Grow (old new : Sources) : Type 0 where
  pub plan : IsExtended old.plan new.plan
  pub got : (k : SocketId) → IsExtended (old.got k) (new.got k)
  pub put : (k : SocketId) → IsExtended (old.put k) (new.put k)

-- entries that come so far speak of no more than was there
pub record AreThere (s : Sources) (p : Places) : Type 0 where
  pub steps : p.steps ≤ length s.plan
  pub read : (k : SocketId) → p.read k ≤ length (s.got k)
  pub written : (k : SocketId) → p.written k ≤ length (s.put k)

-- an end changes no more once an entry has closed it, nor does what a half left once it was taken
abbrev pub IsSettled : Sources → Sources → Entry → Type 0
IsSettled old new (entry.Closed k) = new.broken k ≡ old.broken k
IsSettled old new (entry.Judged k ask number answer) = takes answer ≡ true → (new.unread k ≡ old.unread k) × (new.trail k ≡ old.trail k)
IsSettled old new _ = Unit {0}

-- what entries speak of goes on as it was
pub record Continues (old new : Sources) (journal : List Entry) : Type 0 where
  pub grow : Grow old new
  pub there : AreThere old (reach_of journal)
  pub settled : AllByRecursion (IsSettled old new) journal
