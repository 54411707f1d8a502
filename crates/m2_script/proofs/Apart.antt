-- The addresses of a valid scenario's nodes are apart.
use Rattle.std.proofs.Common.{◌≡◌, ◌==◌, ◌<◌, ℕ, zero, suc, Bool, true, false, List, [], ◌∷◌, length, get_or, map, Option, Some, None, refl, sym, ap, subst, ◌∙◌, arith}
use Rattle.std.specs.Prelude.{AllPairs, slice_get}
use Rattle.std.specs.Option.{option_map}
use Rattle.std.proofs.lemmas.Bool.{and_parts, eqb-true}
use Rattle.std.proofs.lemmas.List.{length-map}
use Rattle.std.proofs.lemmas.Option.{get_or_from_slice_get, none-some, slice_get-map}
use Rattle.m2_addr.specs.declared.addr.Addr.{Addr}
use Rattle.m2_scenario.specs.declared.node.Node.{Node}
use Rattle.m2_scenario.specs.Valid.{AreApart}
use Rattle.m2_fabric.specs.SimFabric.{same_place}
use Rattle.m2_fabric.specs.SimFabric as fabric
use Rattle.m2_script.specs.Nodes.{address_of}

pub there_is : {X : Type 0} (xs : List X) (i : ℕ) → i < length xs → slice_get xs i ≡ None → ⊥
there_is [] i h e = omega (arith, h)
there_is (x ∷ xs) zero h e = none-some x (sym e)
there_is (x ∷ xs) (suc i) h e = there_is xs i (omega (arith, h)) e

pub get_address : (nodes : List Node) (i : ℕ) (x : Node) → slice_get nodes i ≡ Some x → slice_get (map address_of nodes) i ≡ Some x.at
get_address nodes i x e = slice_get-map address_of nodes i ∙ ap (option_map address_of) e

module _ (nodes : List Node) where
  pub get_at : (i : ℕ) (d : Addr) → i < length nodes → (x : Node) × (slice_get nodes i ≡ Some x) × (get_or (map address_of nodes) i d ≡ x.at)
  get_at i d within = go (slice_get nodes i) refl
    where
      go : (o : Option Node) → slice_get nodes i ≡ o → (x : Node) × (slice_get nodes i ≡ Some x) × (get_or (map address_of nodes) i d ≡ x.at)
      go None e = absurd (there_is nodes i within e)
      go (Some x) e = (x, e, get_or_from_slice_get (map address_of nodes) i x.at d (get_address nodes i x e))

  pub addresses_apart : AllPairs AreApart nodes → fabric.AreApart (map address_of nodes)
  addresses_apart pairs i j d before within =
      let few : length (map address_of nodes) ≡ length nodes = length-map nodes address_of in
      let one = get_at i d (omega (arith, before, within, few)) in
      let other = get_at j d (omega (arith, within, few)) in
      let apart : AreApart (get_or nodes i one.0) (get_or nodes j one.0) = pairs i j one.0 before (omega (arith, within, few)) in
      let near : get_or nodes i one.0 ≡ one.0 = get_or_from_slice_get nodes i one.0 one.0 one.1 in
      let far : get_or nodes j one.0 ≡ other.0 = get_or_from_slice_get nodes j other.0 one.0 other.1 in
      let both : AreApart one.0 other.0 = subst (λ (z : Node). AreApart z other.0) near (subst (λ (z : Node). AreApart (get_or nodes i one.0) z) far apart) in
      ap (λ a. same_place a (get_or (map address_of nodes) j d)) one.2 ∙ ap (same_place one.0.at) other.2 ∙ go one.0.at other.0.at both.sockets (same_place one.0.at other.0.at) refl
    where
      go : (a b : Addr) → ((a.ip ≡ b.ip) × (a.port ≡ b.port) → ⊥) → (t : Bool) → same_place a b ≡ t → same_place a b ≡ false
      go a b differ false e = e
      go a b differ true e =
          let same = and_parts (a.ip == b.ip) (a.port == b.port) e in
          absurd (differ (eqb-true a.ip b.ip same.0, eqb-true a.port b.port same.1))
