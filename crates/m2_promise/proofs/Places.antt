-- Which node is at an address. Of nodes that are apart one at most is where a socket goes, or where it comes from.
use Rattle.std.proofs.Common.{◌≡◌, ℕ, ◌<◌, Bool, true, false, ◌||◌, if◌then◌else◌, List, Option, Some, None, refl, sym, ap, subst, ◌∙◌, arith}
use Rattle.std.specs.Prelude.{◌==◌, slice_get, get_or}
use Rattle.std.specs.List.{position}
use Rattle.std.proofs.lemmas.Bool.{eq-eqb, eqb-true}
use Rattle.std.proofs.lemmas.List.Quantifiers.{position-Some}
use Rattle.std.proofs.lemmas.Option.{get_or_from_slice_get, slice_get-get_or, slice_get_within}
use Rattle.m2_fabric.specs.m2_addr.declared.addr.Addr.{Addr}
use Rattle.m2_fabric.specs.declared.socket.SocketId.{SocketId}
use Rattle.m2_fabric.specs.Sockets.{goes_to}
use Rattle.m2_fabric.specs.Meeting.{acceptor, comes_from, other_than}
use Rattle.m2_fabric.specs.SimFabric.{AreApart, same_place}
use Rattle.m2_fabric.proofs.m2_lemmas.Booleans.{both_of_and, false_isnt_true}

-- ---- one node

place_by : (a b : Addr) → a.ip ≡ b.ip → a.port ≡ b.port → same_place a b ≡ true
place_by a b e f = rw (eq-eqb a.ip b.ip e, eq-eqb a.port b.port f) refl

not_before : (nodes : List Addr) (i j : ℕ) (a b : Addr) → AreApart nodes → slice_get nodes i ≡ Some a → slice_get nodes j ≡ Some b → same_place a b ≡ true → i < j → i ≡ j
not_before nodes i j a b apart p q same less =
    absurd (false_isnt_true (sym (apart i j a less (slice_get_within nodes j b q))
    ∙ ap (λ x. same_place x (get_or nodes j a)) (get_or_from_slice_get nodes i a a p)
    ∙ ap (same_place a) (get_or_from_slice_get nodes j b a q) ∙ same))

one_place : (nodes : List Addr) (i j : ℕ) (a b : Addr) → AreApart nodes → slice_get nodes i ≡ Some a → slice_get nodes j ≡ Some b → a.ip ≡ b.ip → a.port ≡ b.port → i ≡ j
one_place nodes i j a b apart p q ip port =
    let first : i < j → i ≡ j = not_before nodes i j a b apart p q (place_by a b ip port) in
    let second : j < i → j ≡ i = not_before nodes j i b a apart q p (place_by b a (sym ip) (sym port)) in
    grind (arith, first, second)

pub goes_one : (nodes : List Addr) (i j : ℕ) (a b : Addr) (k : SocketId) → AreApart nodes → slice_get nodes i ≡ Some a → slice_get nodes j ≡ Some b → goes_to a k ≡ true → goes_to b k ≡ true → i ≡ j
goes_one nodes i j a b k apart p q g h =
    let here = both_of_and (k.to_ip == a.ip) (k.to_port == a.port) g in
    let there = both_of_and (k.to_ip == b.ip) (k.to_port == b.port) h in
    one_place nodes i j a b apart p q (sym (eqb-true k.to_ip a.ip here.0) ∙ eqb-true k.to_ip b.ip there.0) (sym (eqb-true k.to_port a.port here.1) ∙ eqb-true k.to_port b.port there.1)

pub comes_one : (nodes : List Addr) (i j : ℕ) (a b : Addr) (k : SocketId) → AreApart nodes → slice_get nodes i ≡ Some a → slice_get nodes j ≡ Some b →
    comes_from k (Some a) ≡ true → comes_from k (Some b) ≡ true → i ≡ j
comes_one nodes i j a b k apart p q g h =
    let here = both_of_and (k.from_ip == a.ip) (k.from_port == a.port) g in
    let there = both_of_and (k.from_ip == b.ip) (k.from_port == b.port) h in
    one_place nodes i j a b apart p q (sym (eqb-true k.from_ip a.ip here.0) ∙ eqb-true k.from_ip b.ip there.0) (sym (eqb-true k.from_port a.port here.1) ∙ eqb-true k.from_port b.port there.1)

-- ---- the two nodes of a socket

-- it comes from the one and goes to the other
pub record IsFromTo (nodes : List Addr) (from to : ℕ) (k : SocketId) : Type 0 where
  pub near : Addr
  pub far : Addr
  pub near_at : slice_get nodes from ≡ Some near
  pub far_at : slice_get nodes to ≡ Some far
  pub comes : comes_from k (Some near) ≡ true
  pub goes : goes_to far k ≡ true
  pub other : to ≡ from → ⊥

module _ (nodes : List Addr) (from to : ℕ) (k : SocketId) where
  abbrev here : Addr → Bool
  here at = goes_to at k

  of_place : (near : Addr) → slice_get nodes from ≡ Some near → comes_from k (Some near) ≡ true → (p : Option ℕ) → position here nodes ≡ p → other_than from p ≡ Some to → IsFromTo nodes from to k
  of_place near at comes None found h = absurd cc
  of_place near at comes (Some q) found h = by (q == from) refl _ h
    where
      by : (b : Bool) → (q == from) ≡ b → (c : Bool) → (if b || c then None else Some q) ≡ Some to → IsFromTo nodes from to k
      by true is c h = absurd cc
      by false is true h = absurd cc
      by false is false h =
          let there = position-Some here nodes q near found in
          let same : q ≡ to = cc in
          subst (λ t. IsFromTo nodes from t k) same (record {
            near = near;
            far = get_or nodes q near;
            near_at = at;
            far_at = slice_get-get_or nodes q near there.0;
            comes = comes;
            goes = there.1;
            other = λ e. false_isnt_true (sym is ∙ eq-eqb q from e);
          })

  pub accepted : acceptor nodes from k ≡ Some to → IsFromTo nodes from to k
  accepted h = at (slice_get nodes from) refl h
    where
      at : (o : Option Addr) → slice_get nodes from ≡ o → (if comes_from k o then other_than from (position here nodes) else None) ≡ Some to → IsFromTo nodes from to k
      at None so h = absurd cc
      at (Some near) so h = by (comes_from k (Some near)) refl h
        where
          by : (b : Bool) → comes_from k (Some near) ≡ b → (if b then other_than from (position here nodes) else None) ≡ Some to → IsFromTo nodes from to k
          by true is h = of_place near so is (position here nodes) refl h
          by false is h = absurd cc
