-- How many bytes strands have written at an end, and halves have moved on their sockets.
use Rattle.std.proofs.Common.{◌≡◌, ℕ, ◌+◌, ◌≤◌, Bool, true, false, ◌||◌, if◌then◌else◌, List, [], ◌∷◌, ◌++◌, length, map, refl, ap, ◌∙◌, arith, Some, None}
use Rattle.std.specs.List.{AllByRecursion, cons_option}
use Rattle.m2_fabric.specs.declared.log.Run.TheVariants as run
use Rattle.m2_fabric.specs.declared.socket.SocketId.{SocketId}
use Rattle.m2_fabric.specs.Sockets.{is_among, same_socket}
use Rattle.m2_history.specs.HalfStrands.{strand_of}
use Rattle.m2_weave.specs.m2_journal.declared.entry.Entry.{Entry}
use Rattle.m2_weave.specs.m2_journal.declared.entry.Entry.TheVariants as entry
use Rattle.m2_weave.specs.m2_journal.Items.{runs_on}
use Rattle.m2_history.specs.m2_trail.Trails as trail
use Rattle.m2_history.specs.m2_trail.Trails.{TrailNow}
use Rattle.m2_links_go_on.specs.Sides.{IsHalf, done_on, entries_in, half_on}
use Rattle.m2_links_go_on.proofs.HalfReads.{items_count}
use Rattle.m2_links_go_on.proofs.Halves.{never_opens}
use Rattle.m2_weave.specs.declared.strand.StrandItem.{StrandItem}
use Rattle.m2_weave.specs.declared.strand.StrandItem.TheVariants.{Noted}
use Rattle.m2_weave.specs.Strands.{EndOf, StrandNow, has_opened, read_by, same_side, total, written_at, written_by, written_in}
use Rattle.m2_weave.proofs.Tidy.{all-taken}

-- ---- runs, as the entries of a socket list them

pub runs_read : (k : SocketId) (es : List Entry) → trail.read_by (runs_on k es) ≡ total (read_by k) (map Noted es)
runs_read k [] = refl
runs_read k (entry.Read x count ∷ es) = at (same_socket k x) (runs_read k es)
  where
    at : (b : Bool) → trail.read_by (runs_on k es) ≡ total (read_by k) (map Noted es) →
        trail.read_by (cons_option (if b then Some (run.Read count) else None) (runs_on k es)) ≡ (if b then count else 0) + total (read_by k) (map Noted es)
    at true e = omega (arith, e)
    at false e = omega (arith, e)
runs_read k (entry.Wrote x count ∷ es) = at (same_socket k x) (runs_read k es)
  where
    at : (b : Bool) → trail.read_by (runs_on k es) ≡ total (read_by k) (map Noted es) →
        trail.read_by (cons_option (if b then Some (run.Wrote count) else None) (runs_on k es)) ≡ 0 + total (read_by k) (map Noted es)
    at true e = omega (arith, e)
    at false e = omega (arith, e)
runs_read k (e ∷ es) = omega (arith, runs_read k es)

pub runs_written : (k : SocketId) (es : List Entry) → trail.written_by (runs_on k es) ≡ total (written_by k) (map Noted es)
runs_written k [] = refl
runs_written k (entry.Read x count ∷ es) = at (same_socket k x) (runs_written k es)
  where
    at : (b : Bool) → trail.written_by (runs_on k es) ≡ total (written_by k) (map Noted es) →
        trail.written_by (cons_option (if b then Some (run.Read count) else None) (runs_on k es)) ≡ 0 + total (written_by k) (map Noted es)
    at true e = omega (arith, e)
    at false e = omega (arith, e)
runs_written k (entry.Wrote x count ∷ es) = at (same_socket k x) (runs_written k es)
  where
    at : (b : Bool) → trail.written_by (runs_on k es) ≡ total (written_by k) (map Noted es) →
        trail.written_by (cons_option (if b then Some (run.Wrote count) else None) (runs_on k es)) ≡ (if b then count else 0) + total (written_by k) (map Noted es)
    at true e = omega (arith, e)
    at false e = omega (arith, e)
runs_written k (e ∷ es) = omega (arith, runs_written k es)

-- ---- the half on a socket

pub none_on : (k : SocketId) (ts : List TrailNow) → is_among k (map (λ (t : TrailNow). t.socket) ts) ≡ false → half_on k ts ≡ None
none_on k [] h = refl
none_on k (t ∷ ts) h = at (same_socket k t.socket) h (none_on k ts)
  where
    at : (b : Bool) → (b || is_among k (map (λ (t : TrailNow). t.socket) ts)) ≡ false → (is_among k (map (λ (t : TrailNow). t.socket) ts) ≡ false → half_on k ts ≡ None) →
        (if b then Some t else half_on k ts) ≡ None
    at true h later = absurd cc
    at false h later = later h

-- ---- what is written at an end in all

abbrev pub wrote_all : EndOf → List StrandNow → ℕ
wrote_all e [] = 0
wrote_all e (s ∷ ss) = total (written_in e s) s.items + wrote_all e ss

pub written_is : (e : EndOf) (ss : List StrandNow) → written_at ss (map (λ (s : StrandNow). length s.items) ss) e ≡ wrote_all e ss
written_is e [] = refl
written_is e (s ∷ ss) = omega (arith, all-taken (written_in e s) s.items, written_is e ss)

pub wrote_both : (e : EndOf) (xs ys : List StrandNow) → wrote_all e (xs ++ ys) ≡ wrote_all e xs + wrote_all e ys
wrote_both e [] ys = omega arith
wrote_both e (x ∷ xs) ys = omega (arith, wrote_both e xs ys)

-- of a strand whose entries are at this end
own-side : (b : Bool) (k : SocketId) (is : List StrandItem) → b ≡ true → total (λ i. if b then written_by k i else 0) is ≡ total (written_by k) is
own-side true k [] e = refl
own-side true k (i ∷ is) e = omega (arith, own-side true k is e)
own-side false k is e = absurd cc

pub wrote_own : (e : EndOf) (s : StrandNow) → same_side (has_opened s e.socket) e.opener ≡ true → total (written_in e s) s.items ≡ total (written_by e.socket) s.items
wrote_own e s is = own-side (same_side (has_opened s e.socket) e.opener) e.socket s.items is

-- a half's end is its acceptor's
pub half_wrote : (k : SocketId) (t : TrailNow) → IsHalf t → total (written_in (record { socket = k; opener = false }) (strand_of t)) (strand_of t).items ≡ total (written_by k) (map Noted t.entries)
half_wrote k t half =
    wrote_own (record { socket = k; opener = false }) (strand_of t) (ap (λ b. same_side b false) (never_opens t k half))
    ∙ items_count (written_by k) t.socket refl t.judged_after 0 t.entries

-- what the half on a socket wrote the halves did
pub halves_wrote : (k : SocketId) (ts : List TrailNow) → AllByRecursion IsHalf ts →
    total (written_by k) (map Noted (done_on k ts)) ≤ wrote_all (record { socket = k; opener = false }) (map strand_of ts)
halves_wrote k [] half = omega arith
halves_wrote k (t ∷ ts) half = at (same_socket k t.socket) refl (halves_wrote k ts half.1)
  where
    at : (b : Bool) → same_socket k t.socket ≡ b → total (written_by k) (map Noted (done_on k ts)) ≤ wrote_all (record { socket = k; opener = false }) (map strand_of ts) →
        total (written_by k) (map Noted (done_on k (t ∷ ts))) ≤ total (written_in (record { socket = k; opener = false }) (strand_of t)) (strand_of t).items + wrote_all (record { socket = k; opener = false }) (map strand_of ts)
    at true same rest =
        let here : total (written_by k) (map Noted (done_on k (t ∷ ts))) ≡ total (written_by k) (map Noted t.entries) =
        ap (λ b. total (written_by k) (map Noted (entries_in (if b then Some t else half_on k ts)))) same in
        omega (arith, here, half_wrote k t half.0)
    at false differ rest =
        let there : total (written_by k) (map Noted (done_on k (t ∷ ts))) ≡ total (written_by k) (map Noted (done_on k ts)) =
        ap (λ b. total (written_by k) (map Noted (entries_in (if b then Some t else half_on k ts)))) differ in
        omega (arith, there, rest)
