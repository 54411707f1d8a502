-- What calls of ends and ports in memory come to: but for want of memory one answer, and one thing left behind.
use Rattle.std.specs.Prelude.{◌≡◌, ◌≢◌, ℕ, List, ◌∷◌, [], length, Some}
use Rattle.m2_addr.specs.declared.addr.Addr.{Addr}
use Rattle.m2_fabric.specs.End.{Inflow, Reads, SeenEnd, Writes}
use Rattle.m2_fabric.specs.Exact.{after_opening, after_read_of, after_write_of, opened_by, read_of, write_of}
use Rattle.m2_fabric.specs.Port.{Accepts, Connects, SeenPort}
use Rattle.m2_fabric.specs.declared.end.EndRead.{EndRead}
use Rattle.m2_fabric.specs.declared.end.EndRead.TheVariants as read
use Rattle.m2_fabric.specs.declared.end.EndWrite.{EndWrite}
use Rattle.m2_fabric.specs.declared.end.EndWrite.TheVariants as write
use Rattle.m2_fabric.specs.declared.port.Connect.{Connect}
use Rattle.m2_fabric.specs.declared.port.Connect.TheVariants as connect
use Rattle.m2_fabric.specs.declared.port.Taken.{Taken}
use Rattle.m2_fabric.specs.declared.port.Taken.TheVariants as accept

abbrev pub ReadsAreExact : Type 0
ReadsAreExact = (answer : EndRead) (piece : List ℕ) (i : Inflow) (e new : SeenEnd) → e.inflow ≡ Some i → answer ≢ read.NoMemory → Reads answer piece e new →
    (answer ≡ read_of e.left i (length piece)) × (new ≡ after_read_of (read_of e.left i (length piece)) i e)

abbrev pub WritesAreExact : Type 0
WritesAreExact = (answer : EndWrite) (piece : List ℕ) (i : Inflow) (e new : SeenEnd) → e.inflow ≡ Some i → answer ≢ write.NoMemory → Writes answer piece e new →
    (answer ≡ write_of e.left i (length piece)) × (new ≡ after_write_of (write_of e.left i (length piece)) piece e)

abbrev pub ConnectsAreExact : Type 0
ConnectsAreExact = (answer : Connect SeenEnd) (to : Addr) (waiting : List SeenEnd) (p new : SeenPort) → p.waiting ≡ Some waiting → answer ≢ connect.NoMemory →
    Connects answer to p new → (answer ≡ connect.Made (opened_by to waiting p)) × (new ≡ after_opening to waiting p)

-- the one that waits longest is accepted, where one waits
pub record AcceptsAreExact : Type 0 where
  pub none : (answer : Taken SeenEnd) (p new : SeenPort) → p.waiting ≡ Some [] → answer ≢ accept.NoMemory → Accepts answer p new →
      answer ≡ accept.NotYet
  pub some : (answer : Taken SeenEnd) (e : SeenEnd) (rest : List SeenEnd) (p new : SeenPort) → p.waiting ≡ Some (e ∷ rest) → answer ≢ accept.NoMemory →
      Accepts answer p new → (answer ≡ accept.Made e) × (new.waiting ≡ Some rest)

pub record MemoryIsExact : Type 0 where
  pub reads : ReadsAreExact
  pub writes : WritesAreExact
  pub connects : ConnectsAreExact
  pub accepts : AcceptsAreExact
