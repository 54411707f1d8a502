-- Nodes by the places at which they listen: a socket goes to one of them at most.
use Rattle.std.proofs.Common.{◌≡◌, ◌⊎◌, inl, inr, true, false, List, [], ◌∷◌, map, refl, sym, ap, subst, ◌∙◌}
use Rattle.std.specs.Prelude.{◌==◌}
use Rattle.std.specs.List.{AllByRecursion, IsDistinct}
use Rattle.std.proofs.lemmas.Bool.{eq-eqb, eqb-true}
use Rattle.m2_fabric.specs.m2_addr.declared.addr.Addr.{Addr}
use Rattle.m2_fabric.specs.declared.socket.SocketId.{SocketId}
use Rattle.m2_fabric.specs.SimFabric.{same_place}
use Rattle.m2_fabric.specs.Sockets.{goes_to}
use Rattle.m2_growth.specs.Halves.{IsOneOf}
use Rattle.m2_growth.proofs.Among.{in_part, one_back, one_front}
use Rattle.m2_fabric.proofs.m2_lemmas.Booleans.{both_of_and, false_isnt_true}
use Rattle.m2_history.specs.m2_trail.Arrivals.{LooseNow}
use Rattle.m2_links_go_on.specs.Left.{LeftNode, all_halves}

one_place : (a b : Addr) (k : SocketId) → goes_to a k ≡ true → goes_to b k ≡ true → same_place a b ≡ true
one_place a b k p q =
    let x = both_of_and (k.to_ip == a.ip) (k.to_port == a.port) p in
    let y = both_of_and (k.to_ip == b.ip) (k.to_port == b.port) q in
    rw (eq-eqb a.ip b.ip (sym (eqb-true k.to_ip a.ip x.0) ∙ eqb-true k.to_ip b.ip y.0), eq-eqb a.port b.port (sym (eqb-true k.to_port a.port x.1) ∙ eqb-true k.to_port b.port y.1)) refl

pub other_place : (x m : LeftNode) (ns : List LeftNode) (k : SocketId) → AllByRecursion (λ y. same_place x.at y ≡ false) (map (λ (n : LeftNode). n.at) ns) → IsOneOf m ns → goes_to x.at k ≡ true → goes_to m.at k ≡ true → ⊥
other_place x m [] k all i p q = i
other_place x m (y ∷ ns) k all (inl e) p q = false_isnt_true (sym all.0 ∙ one_place x.at y.at k p (ap (λ (n : LeftNode). goes_to n.at k) (sym e) ∙ q))
other_place x m (y ∷ ns) k all (inr i) p q = other_place x m ns k all.1 i p q

pub one_node : (ns : List LeftNode) (n m : LeftNode) (k : SocketId) → IsDistinct same_place (map (λ (n : LeftNode). n.at) ns) → IsOneOf n ns → IsOneOf m ns → goes_to n.at k ≡ true → goes_to m.at k ≡ true → n ≡ m
unfolding IsDistinct
one_node [] n m k d i j p q = absurd i
one_node (x ∷ ns) n m k d (inl e) (inl f) p q = e ∙ sym f
one_node (x ∷ ns) n m k d (inl e) (inr j) p q = absurd (other_place x m ns k d.0 j (ap (λ (n : LeftNode). goes_to n.at k) (sym e) ∙ p) q)
one_node (x ∷ ns) n m k d (inr i) (inl f) p q = absurd (other_place x n ns k d.0 i (ap (λ (n : LeftNode). goes_to n.at k) (sym f) ∙ q) p)
one_node (x ∷ ns) n m k d (inr i) (inr j) p q = one_node ns n m k d.1 i j p q

-- ---- whose a half is

pub record IsAtNode (ns : List LeftNode) (l : LooseNow) : Type 0 where
  pub node : LeftNode
  pub there : IsOneOf node ns
  pub has : IsOneOf l node.halves

pub at_node : (ns : List LeftNode) (l : LooseNow) → IsOneOf l (all_halves ns) → IsAtNode ns l
at_node [] l i = absurd i
at_node (n ∷ ns) l i = by (in_part l n.halves (all_halves ns) i) (at_node ns l)
  where
    by : IsOneOf l n.halves ⊎ IsOneOf l (all_halves ns) → (IsOneOf l (all_halves ns) → IsAtNode ns l) → IsAtNode (n ∷ ns) l
    by (inl h) rest = record { node = n; there = inl refl; has = h }
    by (inr h) rest = let its = rest h in record { node = its.node; there = inr its.there; has = its.has }

pub of_node : (ns : List LeftNode) (n : LeftNode) (l : LooseNow) → IsOneOf n ns → IsOneOf l n.halves → IsOneOf l (all_halves ns)
of_node [] n l i h = absurd i
of_node (x ∷ ns) n l (inl e) h = one_front l x.halves (all_halves ns) (subst (λ (y : LeftNode). IsOneOf l y.halves) e h)
of_node (x ∷ ns) n l (inr i) h = one_back l x.halves (all_halves ns) (of_node ns n l i h)
