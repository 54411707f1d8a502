-- The look-up of joined nodes stays right with one link more.
use Rattle.std.proofs.Common.{◌≡◌, ◌==◌, ◌<◌, ℕ, Bool, true, false, ◌&&◌, ◌||◌, List, [], ◌∷◌, ◌++◌, length, refl, sym, ap, ◌∙◌, arith, Some, not}
use Rattle.std.specs.Prelude.{slice_get, slice_set}
use Rattle.std.specs.Cmp.{both_ways}
use Rattle.std.specs.List.{list_all}
use Rattle.std.proofs.lemmas.List.Folds.{list_any-append}
use Rattle.std.proofs.lemmas.List.{length-set}
use Rattle.std.proofs.lemmas.Bool.{and_from, and_parts, eqb-true, eq-eqb}
use Rattle.m2_scenario.specs.declared.link.Link.{Link}
use Rattle.m2_scenario.specs.declared.limits.TheConstants.{MOST_NODES, MOST_PAIRS}
use Rattle.m2_scenario.specs.Draft.{joins, are_joined}
use Rattle.m2_scenario.specs.Link.{cell, IsLookUp}
use Rattle.m2_scenario.proofs.Flags.{flag_at, none_set}

-- two cells are one only in one row and one column
row_of : (a b x y : ℕ) → b < MOST_NODES → y < MOST_NODES → cell a b ≡ cell x y → a ≡ x
row_of a b x y h k e = omega (arith, e, h, k)

column_of : (a b x y : ℕ) → b < MOST_NODES → y < MOST_NODES → cell a b ≡ cell x y → b ≡ y
column_of a b x y h k e = omega (arith, e, h, k)

same_cell : (a b x y : ℕ) → b < MOST_NODES → y < MOST_NODES → (cell a b == cell x y) ≡ ((a == x) && (b == y))
same_cell a b x y h k = both_ways (cell a b == cell x y) ((a == x) && (b == y))
    (λ t. let e : cell a b ≡ cell x y = eqb-true (cell a b) (cell x y) t in
    and_from (a == x) (b == y) (eq-eqb a x (row_of a b x y h k e)) (eq-eqb b y (column_of a b x y h k e)))
    (λ t. let p : ((a == x) ≡ true) × ((b == y) ≡ true) = and_parts (a == x) (b == y) t in
    let same_row : a ≡ x = eqb-true a x p.0 in
    let same_column : b ≡ y = eqb-true b y p.1 in
    eq-eqb (cell a b) (cell x y) (omega (arith, same_row, same_column)))

-- the flag of the link itself, and of the link named the other way round
either_way : (had s t u v : Bool) → ((had || ((s && t) || false)) || ((u && v) || false)) ≡ (had || (((s && t) || (v && u)) || false))
either_way true s t u v = refl
either_way false true true u v = refl
either_way false true false true true = refl
either_way false true false true false = refl
either_way false true false false true = refl
either_way false true false false false = refl
either_way false false t true true = refl
either_way false false t true false = refl
either_way false false t false true = refl
either_way false false t false false = refl

cell_below : (a b : ℕ) → a < MOST_NODES → b < MOST_NODES → cell a b < MOST_PAIRS
cell_below a b h k = omega (arith, h, k)

tells_at : (links : List Link) (l : Link) (joined : List Bool) → IsLookUp links joined → l.a < MOST_NODES → l.b < MOST_NODES → (x y : ℕ) → x < MOST_NODES → y < MOST_NODES
    → slice_get (slice_set (slice_set joined (cell l.a l.b) true) (cell l.b l.a) true) (cell x y) ≡ Some (are_joined (links ++ l ∷ []) x y)
tells_at links l joined h first second x y below under =
    let had : Bool = are_joined links x y in
    let once : slice_get (slice_set joined (cell l.a l.b) true) (cell x y) ≡ Some (had || (((l.a == x) && (l.b == y)) || false)) =
    flag_at joined MOST_PAIRS (cell l.a l.b) (cell x y) had ((l.a == x) && (l.b == y)) (same_cell l.a l.b x y second under) h.cells (cell_below l.a l.b first second) (cell_below x y below under) (h.tells x y below under) in
    flag_at (slice_set joined (cell l.a l.b) true) MOST_PAIRS (cell l.b l.a) (cell x y) (had || (((l.a == x) && (l.b == y)) || false)) ((l.b == x) && (l.a == y)) (same_cell l.b l.a x y first under)
    (length-set joined (cell l.a l.b) true ∙ h.cells) (cell_below l.b l.a second first) (cell_below x y below under) once
    ∙ ap Some (either_way had (l.a == x) (l.b == y) (l.b == x) (l.a == y) ∙ sym (list_any-append (joins x y) links (l ∷ [])))

pub look_up_kept : (links : List Link) (l : Link) (joined : List Bool) → IsLookUp links joined → l.a < MOST_NODES → l.b < MOST_NODES
    → IsLookUp (links ++ l ∷ []) (slice_set (slice_set joined (cell l.a l.b) true) (cell l.b l.a) true)
look_up_kept links l joined h first second = record {
  cells = length-set (slice_set joined (cell l.a l.b) true) (cell l.b l.a) true ∙ length-set joined (cell l.a l.b) true ∙ h.cells;
  tells = tells_at links l joined h first second;
}

-- the same of the links and the cells in memory
pub look_up_pushed : (old new : List Link) (l : Link) (joined : List Bool) (i k : ℕ) → new ≡ old ++ l ∷ [] → i ≡ cell l.a l.b → k ≡ cell l.b l.a
    → IsLookUp old joined → l.a < MOST_NODES → l.b < MOST_NODES → IsLookUp new (slice_set (slice_set joined i true) k true)
look_up_pushed old new l joined i k e at across h first second = rw (e, at, across) (look_up_kept old l joined h first second)

-- a table with no flag set is that of no links
pub none_joined : (links : List Link) (joined : List Bool) → links ≡ [] → length joined ≡ MOST_PAIRS → list_all not joined ≡ true → IsLookUp links joined
none_joined links joined e len none = rw e (record { cells = len; tells = λ a b h k. none_set joined (cell a b) none (omega (arith, len, cell_below a b h k)) })
