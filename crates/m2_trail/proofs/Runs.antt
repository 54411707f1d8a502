-- The entries of a trail tell the runs of its end's log, and the runs tell how many bytes moved.
use Rattle.std.proofs.Common.{◌≡◌, ℕ, zero, suc, ◌+◌, ◌≤◌, Bool, true, false, List, [], ◌∷◌, ◌++◌, length, map, take, drop, filter_map, refl, sym, ap, ◌∙◌, arith, append-nil, Some}
use Rattle.std.proofs.lemmas.List.{take-append-drop, map-append, length-drop}
use Rattle.std.proofs.lemmas.List.Elements.{filter_map-append}
use Rattle.m2_fabric.specs.declared.log.Run.{Run}
use Rattle.m2_fabric.specs.declared.log.Run.TheVariants as run
use Rattle.m2_fabric.specs.declared.socket.SocketId.{SocketId}
use Rattle.m2_fabric.specs.Log.{Log}
use Rattle.m2_journal.specs.Items.{run_of, runs_on}
use Rattle.m2_trail.specs.Trails.{entry_of, closing, entries_of, read_by, written_by}
use Rattle.m2_fabric.proofs.Sockets.{same_refl}
use Rattle.m2_bytes.proofs.m2_lemmas.Lists.{take_nil}

-- bytes of what is behind a place end within the whole
pub fits_left : (put n : ℕ) (bytes : List ℕ) → put ≤ length bytes → n ≤ length (drop put bytes) → put + n ≤ length bytes
fits_left put n bytes p h = omega (arith, length-drop put bytes)

-- ---- how many bytes

pub read_by-append : (xs ys : List Run) → read_by (xs ++ ys) ≡ read_by xs + read_by ys
read_by-append [] ys = omega arith
read_by-append (run.Read n ∷ xs) ys = omega (arith, read_by-append xs ys)
read_by-append (run.Wrote n ∷ xs) ys = read_by-append xs ys

pub written_by-append : (xs ys : List Run) → written_by (xs ++ ys) ≡ written_by xs + written_by ys
written_by-append [] ys = omega arith
written_by-append (run.Read n ∷ xs) ys = written_by-append xs ys
written_by-append (run.Wrote n ∷ xs) ys = omega (arith, written_by-append xs ys)

pub read_by-take : (n : ℕ) (xs : List Run) → read_by (take n xs) ≤ read_by xs
read_by-take n xs =
    let parts = read_by-append (take n xs) (drop n xs) in
    let whole = ap read_by (take-append-drop n xs) in
    omega arith

pub written_by-take : (n : ℕ) (xs : List Run) → written_by (take n xs) ≤ written_by xs
written_by-take n xs =
    let parts = written_by-append (take n xs) (drop n xs) in
    let whole = ap written_by (take-append-drop n xs) in
    omega arith

-- ---- entries

one_run : (k : SocketId) (r : Run) → run_of k (entry_of k r) ≡ Some r
one_run k (run.Read n) = rw (same_refl k) refl
one_run k (run.Wrote n) = rw (same_refl k) refl

no_run : (k : SocketId) (closed : Bool) → runs_on k (closing k closed) ≡ []
no_run k true = refl
no_run k false = refl

pub runs_on-entries : (k : SocketId) (rs : List Run) → runs_on k (map (entry_of k) rs) ≡ rs
runs_on-entries k [] = refl
runs_on-entries k (r ∷ rs) = rw (one_run k r, runs_on-entries k rs) refl

pub runs_on-all : (k : SocketId) (log : Log) → runs_on k (entries_of k log) ≡ log.runs
runs_on-all k log =
    filter_map-append (run_of k) (map (entry_of k) log.runs) (closing k log.closed)
    ∙ (ap (λ l. l ++ runs_on k (closing k log.closed)) (runs_on-entries k log.runs)
    ∙ (ap (λ l. log.runs ++ l) (no_run k log.closed) ∙ append-nil log.runs))

-- the first entries are those of the first runs
runs_on-first : (k : SocketId) (n : ℕ) (rs : List Run) (closed : Bool) → runs_on k (take n (map (entry_of k) rs ++ closing k closed)) ≡ take n rs
runs_on-first k zero rs closed = refl
runs_on-first k (suc n) [] true = ap (filter_map (run_of k)) (take_nil n)
runs_on-first k (suc n) [] false = refl
runs_on-first k (suc n) (r ∷ rs) closed = rw (one_run k r, runs_on-first k n rs closed) refl

pub runs_on-take : (k : SocketId) (n : ℕ) (log : Log) → runs_on k (take n (entries_of k log)) ≡ take n log.runs
runs_on-take k n log = runs_on-first k n log.runs log.closed

-- one more run is one more entry
pub entries_more : (k : SocketId) (rs : List Run) (r : Run) → map (entry_of k) (rs ++ r ∷ []) ++ [] ≡ (map (entry_of k) rs ++ []) ++ entry_of k r ∷ []
entries_more k rs r = append-nil (map (entry_of k) (rs ++ r ∷ [])) ∙ (map-append (entry_of k) rs (r ∷ []) ∙ ap (λ l. l ++ entry_of k r ∷ []) (sym (append-nil (map (entry_of k) rs))))
