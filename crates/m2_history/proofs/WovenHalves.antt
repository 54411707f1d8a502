-- The strand of a half: it moves on its own socket alone, and its items move the bytes of its entries.
use Rattle.std.proofs.Common.{◌≡◌, ℕ, ◌+◌, ◌-◌, max, Bool, true, false, ◌||◌, if◌then◌else◌, List, [], ◌∷◌, ◌++◌, map, take, drop, refl, sym, ap, ◌∙◌, subst, arith}
use Rattle.std.specs.List.{AllByRecursion, list_any}
use Rattle.std.proofs.lemmas.List.{take-append-drop}
use Rattle.m2_fabric.specs.declared.log.Run.{Run}
use Rattle.m2_fabric.specs.declared.log.Run.TheVariants as run
use Rattle.m2_fabric.specs.declared.socket.SocketId.{SocketId}
use Rattle.m2_fabric.specs.Log.{Log}
use Rattle.m2_fabric.specs.Sockets.{same_socket}
use Rattle.m2_history.specs.HalfStrands.{noted_in, strand_of, WritesOn, IsTidy}
use Rattle.m2_journal.specs.declared.entry.Entry.{Entry}
use Rattle.m2_journal.specs.declared.entry.Entry.TheVariants as entry
use Rattle.m2_journal.specs.Items.{runs_on}
use Rattle.m2_trail.specs.Trails as trail
use Rattle.m2_trail.specs.Trails.{TrailNow, IsTrailOf, closing, entries_of, entry_of, runs_of}
use Rattle.m2_weave.specs.declared.strand.StrandItem.{StrandItem}
use Rattle.m2_weave.specs.declared.strand.StrandItem.TheVariants.{Noted, Handed}
use Rattle.m2_weave.specs.Strands.{half_items, handed_by, has_opened, judged_by, opens, read_by, total, written_by}
use Rattle.m2_bytes.proofs.m2_lemmas.Lists.{all_append, all_drop, all_map, all_take}

-- ---- its own socket

abbrev pub IsOwnItem : SocketId → StrandItem → Type 0
IsOwnItem k (Noted (entry.Read x count)) = x ≡ k
IsOwnItem k (Noted (entry.Wrote x count)) = x ≡ k
IsOwnItem k (Noted (entry.Closed x)) = Unit {0}
IsOwnItem k (Noted _) = ⊥
IsOwnItem k (Handed x) = x ≡ k

abbrev pub AreOwn : SocketId → List Entry → Type 0
AreOwn k es = AllByRecursion (λ e. IsOwnItem k (Noted e)) es

runs_own : (k : SocketId) (rs : List Run) → AreOwn k (map (entry_of k) rs)
runs_own k [] = tt
runs_own k (run.Read count ∷ rs) = (refl, runs_own k rs)
runs_own k (run.Wrote count ∷ rs) = (refl, runs_own k rs)

closing_own : (k : SocketId) (closed : Bool) → AreOwn k (closing k closed)
closing_own k true = (tt, tt)
closing_own k false = tt

pub taken_own : (t : TrailNow) → t.entries ≡ map (entry_of t.socket) (runs_of t) → AreOwn t.socket t.entries
taken_own t e = subst (AreOwn t.socket) (sym e) (runs_own t.socket (runs_of t))

pub whole_own : (t : TrailNow) (log : Log) → t.entries ≡ entries_of t.socket log → AreOwn t.socket t.entries
whole_own t log e =
    subst (AreOwn t.socket) (sym e)
    (all_append (λ e. IsOwnItem t.socket (Noted e)) (map (entry_of t.socket) log.runs) (closing t.socket log.closed) (runs_own t.socket log.runs) (closing_own t.socket log.closed))

half_items_all : (P : StrandItem → Type 0) (k : SocketId) → P (Handed k) → (ns : List ℕ) (place : ℕ) (es : List Entry) → AllByRecursion (λ e. P (Noted e)) es →
    AllByRecursion P (half_items k place es ns)
half_items_all P k one [] place es h = all_map P Noted es h
half_items_all P k one (n ∷ ns) place es h =
    all_append P (map Noted (take (n - place) es)) (Handed k ∷ half_items k (max n place) (drop (n - place) es) ns)
    (all_map P Noted (take (n - place) es) (all_take (λ e. P (Noted e)) (n - place) es h))
    (one, half_items_all P k one ns (max n place) (drop (n - place) es) (all_drop (λ e. P (Noted e)) (n - place) es h))

pub strand_own : (t : TrailNow) → AreOwn t.socket t.entries → AllByRecursion (IsOwnItem t.socket) (strand_of t).items
strand_own t h = half_items_all (IsOwnItem t.socket) t.socket refl t.judged_after 0 t.entries h

-- ---- what its items add

pub record AddsNothing (k : SocketId) (i : StrandItem) : Type 0 where
  pub read : read_by k i ≡ 0
  pub written : written_by k i ≡ 0
  pub handed : handed_by k i ≡ 0

if_other : (k x y : SocketId) (count : ℕ) → same_socket k x ≡ false → y ≡ x → (if same_socket k y then count else 0) ≡ 0
if_other k x y count e same = ap (λ b. if b then count else 0) (ap (same_socket k) same ∙ e)

pub elsewhere : (k x : SocketId) → same_socket k x ≡ false → (i : StrandItem) → IsOwnItem x i → AddsNothing k i
elsewhere k x e (Noted (entry.Read y count)) own = record { read = if_other k x y count e own; written = refl; handed = refl }
elsewhere k x e (Noted (entry.Wrote y count)) own = record { read = refl; written = if_other k x y count e own; handed = refl }
elsewhere k x e (Noted (entry.Closed y)) own = record { read = refl; written = refl; handed = refl }
elsewhere k x e (Noted (entry.Post place)) own = absurd own
elsewhere k x e (Noted entry.Dial) own = absurd own
elsewhere k x e (Noted (entry.Opened y)) own = absurd own
elsewhere k x e (Noted (entry.Judged y ask number answer)) own = absurd own
elsewhere k x e (Noted (entry.Asked ident number)) own = absurd own
elsewhere k x e (Noted (entry.Numbered number)) own = absurd own
elsewhere k x e (Noted (entry.Accepted number key)) own = absurd own
elsewhere k x e (Noted (entry.Acked number)) own = absurd own
elsewhere k x e (Noted (entry.Obeyed full)) own = absurd own
elsewhere k x e (Noted (entry.Down planned)) own = absurd own
elsewhere k x e (Handed y) own = record { read = refl; written = refl; handed = if_other k x y 1 e own }

-- it judges nothing, and opens nothing
pub judges_none : (k x : SocketId) (i : StrandItem) → IsOwnItem x i → judged_by k i ≡ 0
judges_none k x (Noted (entry.Judged y ask number answer)) own = absurd own
judges_none k x (Noted _) own = refl
judges_none k x (Handed y) own = refl

opens_none : (k x : SocketId) (i : StrandItem) → IsOwnItem x i → opens k i ≡ false
opens_none k x (Noted (entry.Opened y)) own = absurd own
opens_none k x (Noted _) own = refl
opens_none k x (Handed y) own = refl

none_opened : (k x : SocketId) (is : List StrandItem) → AllByRecursion (IsOwnItem x) is → list_any (opens k) is ≡ false
none_opened k x [] h = refl
none_opened k x (i ∷ is) h = ap (λ b. b || list_any (opens k) is) (opens_none k x i h.0) ∙ none_opened k x is h.1

pub half_opens_none : (t : TrailNow) (k : SocketId) → AreOwn t.socket t.entries → has_opened (strand_of t) k ≡ false
half_opens_none t k h = none_opened k t.socket (strand_of t).items (strand_own t h)

-- ---- it is tidy

writes_own : (k : SocketId) (e : Entry) → IsOwnItem k (Noted e) → WritesOn k e
writes_own k (entry.Wrote y count) own = own
writes_own k (entry.Read y count) own = tt
writes_own k (entry.Closed y) own = tt
writes_own k (entry.Post place) own = tt
writes_own k entry.Dial own = tt
writes_own k (entry.Opened y) own = tt
writes_own k (entry.Judged y ask number answer) own = tt
writes_own k (entry.Asked ident number) own = tt
writes_own k (entry.Numbered number) own = tt
writes_own k (entry.Accepted number key) own = tt
writes_own k (entry.Acked number) own = tt
writes_own k (entry.Obeyed full) own = tt
writes_own k (entry.Down planned) own = tt

all_write : (k : SocketId) (es : List Entry) → AreOwn k es → AllByRecursion (WritesOn k) es
all_write k [] h = tt
all_write k (e ∷ es) h = (writes_own k e h.0, all_write k es h.1)

pub half_is_tidy : (t : TrailNow) (log : Log) → IsTrailOf t log → AreOwn t.socket t.entries → IsTidy t
half_is_tidy t log h own = record { many = h.many; rising = h.rising; writes = all_write t.socket t.entries own }

-- ---- how many bytes its items move

pub read_as_noted : (k : SocketId) (is : List StrandItem) → trail.read_by (runs_on k (noted_in is)) ≡ total (read_by k) is
read_as_noted k [] = refl
read_as_noted k (Noted (entry.Read x count) ∷ is) = at (same_socket k x) refl (read_as_noted k is)
  where
    at : (b : Bool) → same_socket k x ≡ b → trail.read_by (runs_on k (noted_in is)) ≡ total (read_by k) is → trail.read_by (runs_on k (entry.Read x count ∷ noted_in is)) ≡ (if b then count else 0) + total (read_by k) is
    at true e h = rw e (omega (arith, h))
    at false e h = rw e (omega (arith, h))
read_as_noted k (Noted (entry.Wrote x count) ∷ is) = at (same_socket k x) refl (read_as_noted k is)
  where
    at : (b : Bool) → same_socket k x ≡ b → trail.read_by (runs_on k (noted_in is)) ≡ total (read_by k) is → trail.read_by (runs_on k (entry.Wrote x count ∷ noted_in is)) ≡ 0 + total (read_by k) is
    at true e h = rw e (omega (arith, h))
    at false e h = rw e (omega (arith, h))
read_as_noted k (Noted _ ∷ is) = omega (arith, read_as_noted k is)
read_as_noted k (Handed x ∷ is) = omega (arith, read_as_noted k is)

pub written_as_noted : (k : SocketId) (is : List StrandItem) → trail.written_by (runs_on k (noted_in is)) ≡ total (written_by k) is
written_as_noted k [] = refl
written_as_noted k (Noted (entry.Wrote x count) ∷ is) = at (same_socket k x) refl (written_as_noted k is)
  where
    at : (b : Bool) → same_socket k x ≡ b → trail.written_by (runs_on k (noted_in is)) ≡ total (written_by k) is → trail.written_by (runs_on k (entry.Wrote x count ∷ noted_in is)) ≡ (if b then count else 0) + total (written_by k) is
    at true e h = rw e (omega (arith, h))
    at false e h = rw e (omega (arith, h))
written_as_noted k (Noted (entry.Read x count) ∷ is) = at (same_socket k x) refl (written_as_noted k is)
  where
    at : (b : Bool) → same_socket k x ≡ b → trail.written_by (runs_on k (noted_in is)) ≡ total (written_by k) is → trail.written_by (runs_on k (entry.Read x count ∷ noted_in is)) ≡ 0 + total (written_by k) is
    at true e h = rw e (omega (arith, h))
    at false e h = rw e (omega (arith, h))
written_as_noted k (Noted _ ∷ is) = omega (arith, written_as_noted k is)
written_as_noted k (Handed x ∷ is) = omega (arith, written_as_noted k is)

noted_append : (xs : List Entry) (is : List StrandItem) → noted_in (map Noted xs ++ is) ≡ xs ++ noted_in is
noted_append [] is = refl
noted_append (x ∷ xs) is = ap (λ l. x ∷ l) (noted_append xs is)

noted_alone : (xs : List Entry) → noted_in (map Noted xs) ≡ xs
noted_alone [] = refl
noted_alone (x ∷ xs) = ap (λ l. x ∷ l) (noted_alone xs)

noted_all : (k : SocketId) (ns : List ℕ) (place : ℕ) (es : List Entry) → noted_in (half_items k place es ns) ≡ es
noted_all k [] place es = noted_alone es
noted_all k (n ∷ ns) place es =
    noted_append (take (n - place) es) (Handed k ∷ half_items k (max n place) (drop (n - place) es) ns)
    ∙ ap (λ l. take (n - place) es ++ l) (noted_all k ns (max n place) (drop (n - place) es)) ∙ take-append-drop (n - place) es

-- all that it reads
pub half_reads : (t : TrailNow) → total (read_by t.socket) (strand_of t).items ≡ trail.read_by (runs_of t)
half_reads t = sym (read_as_noted t.socket (strand_of t).items) ∙ ap (λ es. trail.read_by (runs_on t.socket es)) (noted_all t.socket t.judged_after 0 t.entries)
