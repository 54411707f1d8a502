-- A record's journal, with the halves that it took, tells of all that its ends have got and put: its entries cover what its ends
-- have behind the trails of these halves.
use Rattle.std.proofs.Common.{◌≡◌, ℕ, ◌+◌, ◌≤◌, Bool, true, false, if◌then◌else◌, List, [], ◌∷◌, length, map, refl, sym, ap, ◌∙◌, subst, arith, Option, Some}
use Rattle.std.specs.List.{AllByRecursion}
use Rattle.std.proofs.lemmas.List.{length-drop}
use Rattle.m2_fabric.specs.declared.socket.SocketId.{SocketId}
use Rattle.m2_fabric.specs.End.{SeenEnd}
use Rattle.m2_fabric.specs.Sockets.{same_socket}
use Rattle.m2_weave.specs.m2_journal.declared.entry.Entry.{Entry}
use Rattle.m2_weave.specs.m2_journal.declared.entry.Entry.TheVariants as entry
use Rattle.m2_weave.specs.m2_journal.Items.{Places, at_start, passed, passed_by, raised}
use Rattle.m2_history.specs.m2_record.RecordNow.{ends_of}
use Rattle.m2_history.specs.m2_record.Sources.{log_at, read_before, trail_at, written_before}
use Rattle.m2_history.specs.m2_record.TakenTrails.{IsKeptTrail}
use Rattle.m2_history.specs.m2_trail.Trails.{TrailNow}
use Rattle.m2_links_go_on.specs.TurnLaws.{RecordsTellAll}
use Rattle.m2_links_go_on.specs.Sides.{entries_in}
use Rattle.m2_links_go_on.proofs.Moving.{runs_read, runs_written}
use Rattle.m2_weave.specs.declared.strand.StrandItem.TheVariants.{Noted}
use Rattle.m2_weave.specs.Strands.{read_by, total, written_by}
use Rattle.m2_fabric.proofs.Sockets.{same_turned, same_equal}

-- ---- how far entries come

raised-by : (x k : SocketId) (c : ℕ) (counts : SocketId → ℕ) → raised x c counts k ≡ counts k + (if same_socket k x then c else 0)
raised-by x k c counts = ap (λ b. if b then counts k + c else counts k) (same_turned x k) ∙ at (same_socket k x)
  where
    at : (b : Bool) → (if b then counts k + c else counts k) ≡ counts k + (if b then c else 0)
    at true = refl
    at false = omega arith

read-to : (k : SocketId) (es : List Entry) (p : Places) → (passed_by es p).read k ≡ p.read k + total (read_by k) (map Noted es)
read-to k [] p = omega arith
read-to k (entry.Read x c ∷ es) p = omega (arith, read-to k es (passed (entry.Read x c) p), raised-by x k c p.read)
read-to k (entry.Down true ∷ es) p = omega (arith, read-to k es (passed (entry.Down true) p))
read-to k (entry.Down false ∷ es) p = omega (arith, read-to k es (passed (entry.Down false) p))
read-to k (e ∷ es) p = omega (arith, read-to k es (passed e p))

written-to : (k : SocketId) (es : List Entry) (p : Places) → (passed_by es p).written k ≡ p.written k + total (written_by k) (map Noted es)
written-to k [] p = omega arith
written-to k (entry.Wrote x c ∷ es) p = omega (arith, written-to k es (passed (entry.Wrote x c) p), raised-by x k c p.written)
written-to k (entry.Down true ∷ es) p = omega (arith, written-to k es (passed (entry.Down true) p))
written-to k (entry.Down false ∷ es) p = omega (arith, written-to k es (passed (entry.Down false) p))
written-to k (e ∷ es) p = omega (arith, written-to k es (passed e p))

-- ---- what halves did before

-- of the half on a socket, or where there is none
record BeforeOf (ends : List SeenEnd) (k : SocketId) (o : Option TrailNow) : Type 0 where
  read : read_before o ≡ total (read_by k) (map Noted (entries_in o))
  written : written_before o ≡ total (written_by k) (map Noted (entries_in o))
  got : read_before o ≤ length (log_at ends k).got
  put : written_before o ≤ length (log_at ends k).put

before-of : (kind : ℕ) (ends : List SeenEnd) (journal : List Entry) (k : SocketId) (ts : List TrailNow) → AllByRecursion (IsKeptTrail kind ends journal) ts → BeforeOf ends k (trail_at ts k)
before-of kind ends journal k [] kept = record { read = refl; written = refl; got = omega arith; put = omega arith }
before-of kind ends journal k (t ∷ ts) kept = at (same_socket k t.socket) refl (before-of kind ends journal k ts kept.1)
  where
    at : (b : Bool) → same_socket k t.socket ≡ b → BeforeOf ends k (trail_at ts k) → BeforeOf ends k (if b then Some t else trail_at ts k)
    at true same rest = subst (λ x. BeforeOf ends x (Some t)) (sym (same_equal k t.socket same)) (record {
      read = runs_read t.socket t.entries;
      written = runs_written t.socket t.entries;
      got = kept.0.beside.within.got;
      put = kept.0.beside.within.put;
    })
    at false differ rest = rest

-- ---- a record

pub records_tell_all : RecordsTellAll
records_tell_all r is = record {
  got = λ k.
      let before = before-of r.core.facts.node.entity (ends_of r) r.journal k r.trails is.trails.each in
      omega (
        arith,
        is.at_state.replay.covering.read k,
        read-to k r.journal at_start,
        length-drop (read_before (trail_at r.trails k)) (log_at (ends_of r) k).got,
        before.read,
        before.got,
      );
  put = λ k.
      let before = before-of r.core.facts.node.entity (ends_of r) r.journal k r.trails is.trails.each in
      omega (
        arith,
        is.at_state.replay.covering.written k,
        written-to k r.journal at_start,
        length-drop (written_before (trail_at r.trails k)) (log_at (ends_of r) k).put,
        before.written,
        before.put,
      );
}
