-- The look-ups of nodes stay right with one node more, and with one not started.
use Rattle.std.proofs.Common.{◌≡◌, ◌==◌, ◌+◌, ◌<◌, ℕ, zero, suc, Bool, true, false, cond, ◌&&◌, ◌||◌, List, [], ◌∷◌, ◌++◌, length, get_or, refl, sym, ap, ◌∙◌, arith, Some, Option, is_some}
use Rattle.std.specs.Prelude.{position, slice_set}
use Rattle.std.specs.List.{list_any, position_from}
use Rattle.std.specs.Map.{lookup, KeepsOthers}
use Rattle.std.specs.Str.{bytes_eq}
use Rattle.std.specs.declared.vec.Vec.{Vec}
use Rattle.std.proofs.lemmas.Cmp.{nat_list_eq_equiv}
use Rattle.std.proofs.lemmas.Slice.Eq.{bytes_eq-Decides}
use Rattle.std.proofs.lemmas.Iterator.Adapters.{position_from-zero}
use Rattle.std.proofs.lemmas.List.Folds.{list_any-append}
use Rattle.m2_addr.specs.declared.addr.Addr.{Addr}
use Rattle.m2_scenario.specs.declared.node.Node.{Node}
use Rattle.m2_scenario.specs.Text.{Word}
use Rattle.m2_scenario.specs.Draft.{is_named, is_at, without}
use Rattle.m2_scenario.specs.NodeTable.{AreLookUps}
use Rattle.m2_scenario.proofs.Counted.{stopped}

-- there is a first one where there is one
some_first : (b : Bool) (i : ℕ) (rest : Option ℕ) (others : Bool) → is_some rest ≡ others → is_some (cond b (Some i) rest) ≡ (b || others)
some_first true i rest others e = refl
some_first false i rest others e = e

some_from : {X : Type 0} (p : X → Bool) (i : ℕ) (xs : List X) → is_some (position_from p i xs) ≡ list_any p xs
some_from p i [] = refl
some_from p i (x ∷ xs) = some_first (p x) i (position_from p (i + 1) xs) (list_any p xs) (some_from p (i + 1) xs)

pub is_some_position : (name : Word) (nodes : List Node) → is_some (position (is_named name) nodes) ≡ list_any (is_named name) nodes
is_some_position name nodes = ap is_some (position_from-zero (is_named name) nodes) ∙ some_from (is_named name) 0 nodes

-- a last one that doesn't pass changes nothing
from_passed_over : {X : Type 0} (p : X → Bool) (i : ℕ) (xs : List X) (x : X) → p x ≡ false → position_from p i (xs ++ x ∷ []) ≡ position_from p i xs
from_passed_over p i [] x e = rw e refl
from_passed_over p i (y ∷ ys) x e = ap (cond (p y) (Some i)) (from_passed_over p (i + 1) ys x e)

-- a last one that passes is the first where none before does
passed_over : (b others : Bool) (i : ℕ) (rest place : Option ℕ) → (b || others) ≡ false → (others ≡ false → rest ≡ place) → cond b (Some i) rest ≡ place
passed_over true others i rest place none e = absurd (cc)
passed_over false others i rest place none e = e none

from_first : {X : Type 0} (p : X → Bool) (i : ℕ) (xs : List X) (x : X) → list_any p xs ≡ false → p x ≡ true → position_from p i (xs ++ x ∷ []) ≡ Some (i + length xs)
from_first p i [] x none e = rw e (ap Some (omega arith))
from_first p i (y ∷ ys) x none e =
    passed_over (p y) (list_any p ys) i (position_from p (i + 1) (ys ++ x ∷ [])) (Some (i + suc (length ys))) none
    (λ others. from_first p (i + 1) ys x others e ∙ ap Some (omega arith))

-- the place of a name, with one node more of a new name
place_by : (nodes : List Node) (n : Node) (name : Word) (same : Bool) → list_any (is_named n.name) nodes ≡ false → bytes_eq n.name name ≡ same
    → cond same (Some (length nodes)) (position (is_named name) nodes) ≡ position (is_named name) (nodes ++ n ∷ [])
place_by nodes n name true fresh e =
    let known : n.name ≡ name = (bytes_eq-Decides n.name name).0 e in
    let none : list_any (is_named name) nodes ≡ false = ap (λ w. list_any (is_named w) nodes) (sym known) ∙ fresh in
    sym (position_from-zero (is_named name) (nodes ++ n ∷ []) ∙ from_first (is_named name) 0 nodes n none e ∙ ap Some (omega arith))
place_by nodes n name false fresh e =
    position_from-zero (is_named name) nodes ∙ sym (position_from-zero (is_named name) (nodes ++ n ∷ []) ∙ from_passed_over (is_named name) 0 nodes n e)

-- a map by names, with one name more
apart : (new name held : Word) → bytes_eq new name ≡ false → bytes_eq new held ≡ true → bytes_eq name held ≡ false
apart new name held other e = nat_list_eq_equiv.symm name held ∙ sym (nat_list_eq_equiv.congr new held name e) ∙ other

looked_up : {A : Type 0} (old new : List (Vec ℕ A × ℕ)) (key : Word) (place : ℕ) (name : Word) (same : Bool) → bytes_eq key name ≡ same
    → lookup (λ k. bytes_eq key k.items) new ≡ Some place → KeepsOthers (λ x y. bytes_eq x.items y.items) (λ k. bytes_eq key k.items) old new
    → lookup (λ k. bytes_eq name k.items) new ≡ cond same (Some place) (lookup (λ k. bytes_eq name k.items) old)
unfolding KeepsOthers
looked_up old new key place name true e here others = ap (λ w. lookup (λ k. bytes_eq w k.items) new) (sym ((bytes_eq-Decides key name).0 e)) ∙ here
looked_up old new key place name false e here others = others (λ k. bytes_eq name k.items) (λ x y. nat_list_eq_equiv.congr name x.items y.items) (λ k. apart key name k.items e)

or_last : (b had : Bool) → cond b true had ≡ (had || (b || false))
or_last true true = refl
or_last true false = refl
or_last false true = refl
or_last false false = refl

-- a node of a new name is put last
pub look_ups_pushed : {A : Type 0} (nodes : List Node) (n : Node) (key : Word) (place : ℕ) (old places : List (Vec ℕ A × ℕ)) (had taken : List (ℕ × ℕ)) → AreLookUps nodes old had
    → list_any (is_named n.name) nodes ≡ false → key ≡ n.name → place ≡ length nodes
    → lookup (λ k. bytes_eq key k.items) places ≡ Some place → KeepsOthers (λ x y. bytes_eq x.items y.items) (λ k. bytes_eq key k.items) old places
    → ((at : Addr) → list_any (λ k. (at.ip == k.0) && (at.port == k.1)) taken ≡ cond (is_at at n) true (list_any (λ k. (at.ip == k.0) && (at.port == k.1)) had))
    → AreLookUps (nodes ++ n ∷ []) places taken
look_ups_pushed nodes n key place old places had taken h fresh same last here others sockets = record {
  names = λ name.
      looked_up old places key place name (bytes_eq n.name name) (ap (λ w. bytes_eq w name) same) here others
      ∙ ap (λ p. cond (bytes_eq n.name name) (Some p) (lookup (λ k. bytes_eq name k.items) old)) last
      ∙ ap (cond (bytes_eq n.name name) (Some (length nodes))) (h.names name)
      ∙ place_by nodes n name (bytes_eq n.name name) fresh refl;
  sockets = λ at. sockets at ∙ ap (cond (is_at at n) true) (h.sockets at) ∙ or_last (is_at at n) (list_any (is_at at) nodes) ∙ sym (list_any-append (is_at at) nodes (n ∷ []));
}

-- the sockets in another order
pub look_ups_reordered : {A : Type 0} (nodes : List Node) (places : List (Vec ℕ A × ℕ)) (had taken : List (ℕ × ℕ)) → AreLookUps nodes places had
    → ((at : Addr) → list_any (λ k. (at.ip == k.0) && (at.port == k.1)) taken ≡ list_any (λ k. (at.ip == k.0) && (at.port == k.1)) had)
    → AreLookUps nodes places taken
look_ups_reordered nodes places had taken h e = record { names = h.names; sockets = λ at. e at ∙ h.sockets at }

-- a node that isn't started has its place and its socket
from_without : (name : Word) (i : ℕ) (nodes : List Node) (a : ℕ) → position_from (is_named name) i (without a nodes) ≡ position_from (is_named name) i nodes
from_without name i [] a = refl
from_without name i (n ∷ ns) zero = refl
from_without name i (n ∷ ns) (suc a) = ap (cond (is_named name n) (Some i)) (from_without name (i + 1) ns a)

place_without : (name : Word) (nodes : List Node) (a : ℕ) → position (is_named name) (without a nodes) ≡ position (is_named name) nodes
place_without name nodes a = position_from-zero (is_named name) (without a nodes) ∙ from_without name 0 nodes a ∙ sym (position_from-zero (is_named name) nodes)

socket_without : (at : Addr) (nodes : List Node) (a : ℕ) → list_any (is_at at) (without a nodes) ≡ list_any (is_at at) nodes
socket_without at [] a = refl
socket_without at (n ∷ ns) zero = refl
socket_without at (n ∷ ns) (suc a) = ap (λ b. is_at at n || b) (socket_without at ns a)

pub look_ups_without : {A : Type 0} (nodes : List Node) (a : ℕ) (n : Node) (places : List (Vec ℕ A × ℕ)) (taken : List (ℕ × ℕ)) → AreLookUps nodes places taken
    → a < length nodes → n ≡ get_or nodes a n → AreLookUps (slice_set nodes a (record n { started = false })) places taken
look_ups_without nodes a n places taken h small e = rw (stopped nodes a n small e) (record {
  names = λ name. h.names name ∙ sym (place_without name nodes a);
  sockets = λ at. h.sockets at ∙ sym (socket_without at nodes a);
})
