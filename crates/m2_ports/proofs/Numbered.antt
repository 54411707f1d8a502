-- A list of nodes: the first of each number, with one put last, and with one put in another's place.
use Rattle.std.proofs.Common.{◌≡◌, ◌≢◌, ℕ, zero, suc, ◌+◌, ◌≤◌, Bool, true, false, cond, if◌then◌else◌, List, [], ◌∷◌, ◌++◌, length, get_or, Option, Some, None, refl, sym, ◌∙◌, ap, arith, ◌==◌, subst}
use Rattle.std.specs.Prelude.{IsSome, position, slice_set, IfSome, All}
use Rattle.std.specs.List.{position_from}
use Rattle.std.specs.Option.{unwrap_or}
use Rattle.std.proofs.lemmas.Bool.{eq-eqb, eqb-true}
use Rattle.std.proofs.lemmas.Iterator.Adapters.{position_from-zero}
use Rattle.m2_addr.specs.declared.addr.Addr.{Addr}
use Rattle.m2_edge.specs.Faults.{next_count}
use Rattle.m2_fabric.specs.Port.{SeenPort}
use Rattle.m2_fabric.specs.Fabric.{Gathered, Gathers, ListensAlone, SeenFabric, Splits}
use Rattle.m2_ports.proofs.Ports.{are_ports, stand_there}
use Rattle.m2_ports.specs.declared.nodes.TheConstants.{NOWHERE}
use Rattle.m2_ports.specs.Port.{ports_at}
use Rattle.m2_ports.specs.Nodes.{IsThere, SeenNode, at_of, blank, handed_out, is_number, node_of, shown, taken_in}

number_same : (n : ℕ) → (n == n) ≡ true
number_same n = eq-eqb n n refl

other_number : (n m : ℕ) → m ≢ n → (n == m) ≡ false
other_number n m apart = by_case (n == m) refl
  where
    by_case : (b : Bool) → (n == m) ≡ b → b ≡ false
    by_case false e = refl
    by_case true e = absurd (apart (sym (eqb-true n m e)))

from_some : {X : Type 0} (d a : X) → Some a ≡ Some d → a ≡ d
from_some d a e = ap (λ o. unwrap_or o d) e

-- ---- one put last

pub node_last : (m n : ℕ) (nodes : List SeenNode) → node_of m (nodes ++ blank n ∷ []) ≡ node_of m nodes
node_last m n [] = by_case (n == m) refl
  where
    by_case : (b : Bool) → (n == m) ≡ b → (if b then blank n else blank m) ≡ blank m
    by_case true e = ap blank (eqb-true n m e)
    by_case false e = refl
node_last m n (x ∷ xs) = ap (λ (s : SeenNode). if is_number m x then x else s) (node_last m n xs)

from_last : (n i : ℕ) (nodes : List SeenNode) → position_from (is_number n) i nodes ≡ None → position_from (is_number n) i (nodes ++ blank n ∷ []) ≡ Some (i + length nodes)
from_last n i [] h = rw (number_same n) (ap Some (omega arith))
from_last n i (x ∷ xs) h = by_case (is_number n x) h (from_last n (i + 1) xs)
  where
    by_case : (b : Bool) → cond b (Some i) (position_from (is_number n) (i + 1) xs) ≡ None
        → (position_from (is_number n) (i + 1) xs ≡ None → position_from (is_number n) (i + 1) (xs ++ blank n ∷ []) ≡ Some (i + 1 + length xs))
        → cond b (Some i) (position_from (is_number n) (i + 1) (xs ++ blank n ∷ [])) ≡ Some (i + suc (length xs))
    by_case true h rest = absurd (cc)
    by_case false h rest = rest h ∙ ap Some (omega arith)

pub there_last : (n : ℕ) (nodes : List SeenNode) → position (is_number n) nodes ≡ None → IsThere n (nodes ++ blank n ∷ [])
there_last n nodes h =
    let first : position (is_number n) (nodes ++ blank n ∷ []) ≡ Some (length nodes) =
    position_from-zero (is_number n) (nodes ++ blank n ∷ []) ∙ from_last n 0 nodes (sym (position_from-zero (is_number n) nodes) ∙ h) ∙ ap Some (omega arith) in
    rw first refl

-- ---- none there

none_from : (n i : ℕ) (nodes : List SeenNode) → position_from (is_number n) i nodes ≡ None → node_of n nodes ≡ blank n
none_from n i [] h = refl
none_from n i (x ∷ xs) h = by_case (is_number n x) h (none_from n (i + 1) xs)
  where
    by_case : (b : Bool) → cond b (Some i) (position_from (is_number n) (i + 1) xs) ≡ None
        → (position_from (is_number n) (i + 1) xs ≡ None → node_of n xs ≡ blank n) → (if b then x else node_of n xs) ≡ blank n
    by_case true h rest = absurd (cc)
    by_case false h rest = rest h

pub none_there : (n : ℕ) (nodes : List SeenNode) → position (is_number n) nodes ≡ None → node_of n nodes ≡ blank n
none_there n nodes h = none_from n 0 nodes (sym (position_from-zero (is_number n) nodes) ∙ h)

-- ---- one at a place

not_before : (n i k : ℕ) (nodes : List SeenNode) → position_from (is_number n) i nodes ≡ Some k → i ≤ k
not_before n i k [] h = absurd (cc)
not_before n i k (x ∷ xs) h = by_case (is_number n x) h (not_before n (i + 1) k xs)
  where
    by_case : (b : Bool) → cond b (Some i) (position_from (is_number n) (i + 1) xs) ≡ Some k
        → (position_from (is_number n) (i + 1) xs ≡ Some k → i + 1 ≤ k) → i ≤ k
    by_case true h rest = omega (arith, from_some k i h)
    by_case false h rest = omega (arith, rest h)

-- what stands at the place of a number, and what else stands there afterwards
at_from : (n i place : ℕ) (nodes : List SeenNode) (d : SeenNode) → position_from (is_number n) i nodes ≡ Some (i + place)
    → (get_or nodes place d ≡ node_of n nodes) × ((get_or nodes place d).number ≡ n)
at_from n i place [] d h = absurd (cc)
at_from n i zero (x ∷ xs) d h = by_case (is_number n x) refl h
  where
    by_case : (b : Bool) → is_number n x ≡ b → cond b (Some i) (position_from (is_number n) (i + 1) xs) ≡ Some (i + 0)
        → (x ≡ (if b then x else node_of n xs)) × (x.number ≡ n)
    by_case true e h = (refl, eqb-true x.number n e)
    by_case false e h = absurd (omega (arith, not_before n (i + 1) (i + 0) xs h))
at_from n i (suc k) (x ∷ xs) d h = by_case (is_number n x) h (λ e. at_from n (i + 1) k xs d e)
  where
    by_case : (b : Bool) → cond b (Some i) (position_from (is_number n) (i + 1) xs) ≡ Some (i + suc k)
        → (position_from (is_number n) (i + 1) xs ≡ Some (i + 1 + k) → (get_or xs k d ≡ node_of n xs) × ((get_or xs k d).number ≡ n))
        → (get_or xs k d ≡ (if b then x else node_of n xs)) × ((get_or xs k d).number ≡ n)
    by_case true h rest = absurd (omega (arith, from_some (i + suc k) i h))
    by_case false h rest = rest (h ∙ ap Some (omega arith))

put_first : (m n : ℕ) (x y : SeenNode) (rest : SeenNode) (b : Bool) → (n == m) ≡ b → x.number ≡ n → y.number ≡ n
    → (if is_number m x then x else rest) ≡ (if b then x else (if is_number m y then y else rest))
put_first m n x y rest true e hx hy = rw (hx, e) refl
put_first m n x y rest false e hx hy = rw (hx, hy, e) refl

put_later : (m n : ℕ) (x y put old : SeenNode) (b c : Bool) → (n == m) ≡ b → is_number m y ≡ c → is_number n y ≡ false → put ≡ (if b then x else old)
    → (if c then y else put) ≡ (if b then x else (if c then y else old))
put_later m n x y put old b false e f h p = p
put_later m n x y put old false true e f h p = refl
put_later m n x y put old true true e f h p =
    let same : n ≡ m = eqb-true n m e in
    let here : is_number n y ≡ true = rw same f in
    absurd (cc)

set_from : (m n i place : ℕ) (nodes : List SeenNode) (x : SeenNode) → position_from (is_number n) i nodes ≡ Some (i + place) → x.number ≡ n
    → node_of m (slice_set nodes place x) ≡ (if n == m then x else node_of m nodes)
set_from m n i place [] x h own = absurd (cc)
set_from m n i zero (y ∷ ys) x h own = put_first m n x y (node_of m ys) (n == m) refl own (at_from n i 0 (y ∷ ys) y h).1
set_from m n i (suc k) (y ∷ ys) x h own = by_case (is_number n y) refl h (λ e. set_from m n (i + 1) k ys x e own)
  where
    by_case : (b : Bool) → is_number n y ≡ b → cond b (Some i) (position_from (is_number n) (i + 1) ys) ≡ Some (i + suc k)
        → (position_from (is_number n) (i + 1) ys ≡ Some (i + 1 + k) → node_of m (slice_set ys k x) ≡ (if n == m then x else node_of m ys))
        → (if is_number m y then y else node_of m (slice_set ys k x)) ≡ (if n == m then x else (if is_number m y then y else node_of m ys))
    by_case true e h rest = absurd (omega (arith, from_some (i + suc k) i h))
    by_case false e h rest =
        put_later m n x y (node_of m (slice_set ys k x)) (node_of m ys) (n == m) (is_number m y) refl refl e (rest (h ∙ ap Some (omega arith)))

-- A node of a list is put in its place again, changed: y is what stood there, x what stands there now.
pub record PutsBack (n place : ℕ) (nodes : List SeenNode) (y x : SeenNode) : Type 0 where
  pub first : position (is_number n) nodes ≡ Some place
  pub stood : y ≡ get_or nodes place y
  pub number : x.number ≡ y.number

pub stood_is : (n place : ℕ) (nodes : List SeenNode) (y : SeenNode) → position (is_number n) nodes ≡ Some place → y ≡ get_or nodes place y → y ≡ node_of n nodes
stood_is n place nodes y first stood =
    stood ∙ (at_from n 0 place nodes y (sym (position_from-zero (is_number n) nodes) ∙ first ∙ ap Some (omega arith))).0

set_is : (m n place : ℕ) (nodes : List SeenNode) (y x : SeenNode) → PutsBack n place nodes y x
    → node_of m (slice_set nodes place x) ≡ (if n == m then x else node_of m nodes)
set_is m n place nodes y x p =
    let from : position_from (is_number n) 0 nodes ≡ Some (0 + place) = sym (position_from-zero (is_number n) nodes) ∙ p.first ∙ ap Some (omega arith) in
    let own : x.number ≡ n = p.number ∙ ap (λ (s : SeenNode). s.number) p.stood ∙ (at_from n 0 place nodes y from).1 in
    set_from m n 0 place nodes x from own

pub own_put : (n place : ℕ) (nodes : List SeenNode) (y x : SeenNode) → PutsBack n place nodes y x → node_of n (slice_set nodes place x) ≡ x
own_put n place nodes y x p = set_is n n place nodes y x p ∙ rw (number_same n) refl

pub others_stay : (n place : ℕ) (nodes : List SeenNode) (y x : SeenNode) → PutsBack n place nodes y x → (m : ℕ) → m ≢ n
    → node_of m (slice_set nodes place x) ≡ node_of m nodes
others_stay n place nodes y x p m apart = set_is m n place nodes y x p ∙ rw (other_number n m apart) refl

-- what stands at the place of a number is its node
pub node_at : (n place : ℕ) (nodes : List SeenNode) (y : SeenNode) → Some place ≡ position (is_number n) nodes → y ≡ get_or nodes place y → y ≡ node_of n nodes
node_at n place nodes y first stood = stood_is n place nodes y (sym first) stood

-- what the change leaves as it is stays of every node
pub view_stays : {X : Type 0} (view : SeenNode → X) (n place : ℕ) (nodes : List SeenNode) (y x : SeenNode) → PutsBack n place nodes y x → view x ≡ view y
    → (m : ℕ) → view (node_of m (slice_set nodes place x)) ≡ view (node_of m nodes)
view_stays view n place nodes y x p same m = ap view (set_is m n place nodes y x p) ∙ by_case (n == m) refl
  where
    by_case : (b : Bool) → (n == m) ≡ b → view (if b then x else node_of m nodes) ≡ view (node_of m nodes)
    by_case false e = refl
    by_case true e = same ∙ ap view (stood_is n place nodes y p.first p.stood ∙ ap (λ k. node_of k nodes) (eqb-true n m e))

-- ---- a node listens

pub listens_alone : (n place : ℕ) (f g : ℕ) (nodes : List SeenNode) (y x : SeenNode) (at : Addr) → PutsBack n place nodes y x
    → x ≡ record y { listens = Some at } → ListensAlone n (shown f nodes) (shown g (slice_set nodes place x))
listens_alone n place f g nodes y x at p change = record {
  others = λ m apart. ap (λ (s : SeenNode). s.listens) (others_stay n place nodes y x p m apart);
  out = λ m. view_stays (λ (s : SeenNode). s.out) n place nodes y x p (ap (λ (s : SeenNode). s.out) change) m;
  gathered = λ m. view_stays (λ (s : SeenNode). s.gathered) n place nodes y x p (ap (λ (s : SeenNode). s.gathered) change) m;
  gathers = λ m. view_stays (λ (s : SeenNode). s.gathers) n place nodes y x p (ap (λ (s : SeenNode). s.gathers) change) m;
}

-- ---- a node is split and gathered

pub splits_alone : (n place : ℕ) (f : ℕ) (nodes : List SeenNode) (y x : SeenNode) (given : Bool) (many : ℕ) → PutsBack n place nodes y x
    → x ≡ handed_out many y → Splits n (ports_at given many (at_of n nodes)) (shown f nodes) (shown f (slice_set nodes place x))
splits_alone n place f nodes y x given many p change = record {
  at = stand_there given many (node_of n nodes).listens NOWHERE;
  node_out = ap (λ (s : SeenNode). s.out) (own_put n place nodes y x p ∙ change) ∙ ap Some (sym (are_ports given many (at_of n nodes)).count);
  others_out = λ m apart. ap (λ (s : SeenNode). s.out) (others_stay n place nodes y x p m apart);
  listens = λ m. view_stays (λ (s : SeenNode). s.listens) n place nodes y x p (ap (λ (s : SeenNode). s.listens) change) m;
  gathered = λ m. view_stays (λ (s : SeenNode). s.gathered) n place nodes y x p (ap (λ (s : SeenNode). s.gathered) change) m;
  gathers = λ m. view_stays (λ (s : SeenNode). s.gathers) n place nodes y x p (ap (λ (s : SeenNode). s.gathers) change) m;
  faults = refl;
}

-- what is told of each node before a change is what was told of it still earlier
pub splits_before : (n f : ℕ) (ports : List SeenPort) (a b : List SeenNode) (new : SeenFabric) → ((m : ℕ) → node_of m b ≡ node_of m a)
    → Splits n ports (shown f b) new → Splits n ports (shown f a) new
splits_before n f ports a b new same s = record {
  at = subst (λ (x : SeenNode). IfSome x.listens (λ at. All (λ (p : SeenPort). p.at ≡ at) ports)) (same n) s.at;
  node_out = s.node_out;
  others_out = λ m apart. s.others_out m apart ∙ ap (λ (x : SeenNode). x.out) (same m);
  listens = λ m. s.listens m ∙ ap (λ (x : SeenNode). x.listens) (same m);
  gathered = λ m. s.gathered m ∙ ap (λ (x : SeenNode). x.gathered) (same m);
  gathers = λ m. s.gathers m ∙ ap (λ (x : SeenNode). x.gathers) (same m);
  faults = s.faults;
}

pub gathers_alone : (n place : ℕ) (f : ℕ) (nodes : List SeenNode) (y x : SeenNode) (what : Gathered) → PutsBack n place nodes y x → x ≡ taken_in what y
    → Gathers n what (shown f nodes) (shown f (slice_set nodes place x))
gathers_alone n place f nodes y x what p change = record {
  node_told = ap (λ (s : SeenNode). s.gathered) (own_put n place nodes y x p ∙ change);
  others_told = λ m apart. ap (λ (s : SeenNode). s.gathered) (others_stay n place nodes y x p m apart);
  node_gathers = ap (λ (s : SeenNode). s.gathers) (own_put n place nodes y x p ∙ change)
      ∙ ap (λ (s : SeenNode). next_count s.gathers) (stood_is n place nodes y p.first p.stood);
  others_gathers = λ m apart. ap (λ (s : SeenNode). s.gathers) (others_stay n place nodes y x p m apart);
  node_out = ap (λ (s : SeenNode). s.out) (own_put n place nodes y x p ∙ change);
  others_out = λ m apart. ap (λ (s : SeenNode). s.out) (others_stay n place nodes y x p m apart);
  listens = λ m. view_stays (λ (s : SeenNode). s.listens) n place nodes y x p (ap (λ (s : SeenNode). s.listens) change) m;
  faults = refl;
}

-- a node of which anything is told is there
pub told_there : (n : ℕ) (nodes : List SeenNode) (out : Option ℕ) → position (is_number n) nodes ≡ None → (node_of n nodes).out ≡ out → IsSome out → ⊥
told_there n nodes None none e some = absurd (cc)
told_there n nodes (Some k) none e some =
    let nothing : None ≡ Some k = sym (ap (λ (s : SeenNode). s.out) (none_there n nodes none)) ∙ e in
    absurd (cc)
