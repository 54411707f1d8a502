-- What a holder shows where one of its nodes changes.
use Rattle.std.proofs.Common.{◌≡◌, ℕ, zero, suc, ◌⊎◌, inl, inr, ◌==◌, ◌&&◌, not, if◌then◌else◌, Bool, true, false, List, [], ◌∷◌, ◌++◌, ◌<◌, length, map, get_or, slice_get, slice_set, Option, Some, None, Result, Ok, Err, OnOk, refl, sym, ap, subst, ◌∙◌}
use Rattle.std.specs.Option.{option_map}
use Rattle.std.proofs.lemmas.Bool.{eq-eqb, eqb-true}
use Rattle.std.proofs.lemmas.Option.{slice_get_read}
use Rattle.m2_fabric.specs.declared.socket.SocketId.{SocketId}
use Rattle.m2_fabric.specs.End.{SeenEnd, fresh_end}
use Rattle.m2_fabric.specs.Holder.{ChangesOneEnd, ComesTo, EndName, IsAsBefore, IsOther, IsThere, OneEndHears, end_had, may_come}
use Rattle.m2_fabric.specs.Log.{Log}
use Rattle.m2_fabric.specs.Sockets.{goes_to, is_among, same_socket}
use Rattle.m2_center.specs.m2_record.Sources.{end_at}
use Rattle.m2_center.specs.Reaching.{ends_in}
use Rattle.m2_cluster.proofs.OneCenter.{had_in}
use Rattle.m2_cluster.specs.Cluster.{ClusterNow, address_of, end_of, held_by, line_of, made_by, rest_of, waits_at}
use Rattle.m2_cluster.specs.Node.{ComesIn, HearsIn, KeepsOthers, KeepsPort, NodeNow, Shows, line_after, line_in, may_come_in, rest_of_node}
use Rattle.m2_bytes.proofs.m2_lemmas.Booleans.{false_isnt_true}
use Rattle.m2_bytes.proofs.m2_lemmas.Options.{none_isnt_some}
use Rattle.m2_bytes.proofs.m2_lemmas.Lists.{set_keeps_length}

-- ---- one of a list is set

-- the place is the one that was set, or it has what it had
abbrev Either : {T : Type 0} → (xs : List T) (n : ℕ) (x y : T) (k : ℕ) → Type 0
Either xs n x y k =
    ((k ≡ n) × (slice_get (slice_set xs n y) k ≡ Some y) × (slice_get xs k ≡ Some x)) ⊎ (slice_get (slice_set xs n y) k ≡ slice_get xs k)

each : {T : Type 0} (xs : List T) (n : ℕ) (x y : T) (k : ℕ) → slice_get xs n ≡ Some x → Either xs n x y k
each [] n x y k was = absurd (none_isnt_some x was)
each (z ∷ zs) zero x y zero was = inl (refl, refl, was)
each (z ∷ zs) zero x y (suc k) was = inr refl
each (z ∷ zs) (suc n) x y zero was = inr refl
each (z ∷ zs) (suc n) x y (suc k) was = elim (each zs n x y k was) [ inl h ↦ inl (ap (λ i. suc i) h.0, h.1, h.2) | inr h ↦ inr h ]

here : {T : Type 0} (xs : List T) (n : ℕ) (x y : T) → slice_get xs n ≡ Some x → slice_get (slice_set xs n y) n ≡ Some y
here [] n x y was = absurd (none_isnt_some x was)
here (z ∷ zs) zero x y was = refl
here (z ∷ zs) (suc n) x y was = here zs n x y was

mapped_same : {T U : Type 0} (f : T → U) (xs : List T) (n : ℕ) (x y : T) → slice_get xs n ≡ Some x → f y ≡ f x → map f (slice_set xs n y) ≡ map f xs
mapped_same f [] n x y was same = absurd (none_isnt_some x was)
mapped_same f (z ∷ zs) zero x y was same = ap (λ u. u ∷ map f zs) (same ∙ sym (ap f (got z x was)))
  where
    got : {T : Type 0} (a b : T) → Some a ≡ Some b → a ≡ b
    got a b e = cc
mapped_same f (z ∷ zs) (suc n) x y was same = ap (λ l. f z ∷ l) (mapped_same f zs n x y was same)

-- ---- one node changes

module _ {D : Type 0} (n : ℕ) (id : SocketId) (before behind : NodeNow D) (xs : List (NodeNow D)) (was : slice_get xs n ≡ Some before) where
  abbrev ys : List (NodeNow D)
  ys = slice_set xs n behind

  abbrev name : EndName
  name = record { node = n; id = id }

  now_here : slice_get ys n ≡ Some behind
  now_here = here xs n before behind was

  -- what is told of a node the same way before and behind is told so of all
  of_each : {U : Type 0} (f : Option (NodeNow D) → U) → f (Some behind) ≡ f (Some before) → (k : ℕ) → f (slice_get ys k) ≡ f (slice_get xs k)
  of_each f same k = elim (each xs n before behind k was) [ inl h ↦ ap f h.1 ∙ same ∙ sym (ap f h.2) | inr h ↦ ap f h ]

  -- the same of ends of other sockets
  of_other : {U : Type 0} (f : SocketId → Option (NodeNow D) → U) → ((k : SocketId) → same_socket id k ≡ false → f k (Some behind) ≡ f k (Some before)) →
      (other : EndName) → IsOther name other → f other.id (slice_get ys other.node) ≡ f other.id (slice_get xs other.node)
  of_other f same other is = elim (each xs n before behind other.node was) [
    | inl h ↦ ap (f other.id) h.1 ∙ same other.id (is h.0) ∙ sym (ap (f other.id) h.2)
    | inr h ↦ ap (f other.id) h
  ]

  changes_one : KeepsOthers id before.center behind.center → KeepsPort before.center behind.center → ChangesOneEnd name (held_by xs) (held_by ys)
  changes_one others port = record {
    nodes = set_keeps_length xs n before behind was;
    at = of_each address_of port.at;
    made = of_each made_by port.made;
    ends = of_other (λ k o. end_of o k) others.ends;
    waits = of_other (λ k o. waits_at o k) others.waits;
  }

  is_there : (what : Option SeenEnd) (waiting : Bool) → Shows id what waiting behind.center → IsThere name what waiting (held_by ys)
  is_there what waiting there = record {
    shows = ap (λ o. end_of o id) now_here ∙ there.shows;
    waits = ap (λ o. waits_at o id) now_here ∙ there.waits;
  }

  -- what the end was
  end_was : end_of (slice_get xs n) id ≡ end_of (Some before) id
  end_was = ap (λ o. end_of o id) was

  waits_was : waits_at (slice_get xs n) id ≡ waits_at (Some before) id
  waits_was = ap (λ o. waits_at o id) was

  may_was : may_come name (held_by xs) ≡ may_come_in id before.center
  may_was = ap may was
    where
      may : Option (NodeNow D) → Bool
      may o = goes_to (address_of o) id && (not (is_among id (made_by o)) && not (waits_at o id))

  there_as : (f : Option SeenEnd → Option SeenEnd) → IsThere name (f (end_of (Some before) id)) (waits_at (Some before) id) (held_by ys) →
      IsThere name (f ((held_by xs).ends n id)) ((held_by xs).waits n id) (held_by ys)
  there_as f is =
      subst (λ e. IsThere name (f e) ((held_by xs).waits n id) (held_by ys)) (sym end_was)
      (subst (λ w. IsThere name (f (end_of (Some before) id)) w (held_by ys)) (sym waits_was) is)

  -- the line that the node has where the socket came
  abbrev line_with : Bool → Option (NodeNow D) → List SocketId
  line_with here o = if here && (goes_to (address_of o) id && (not (is_among id (made_by o)) && not (is_among id (line_of o)))) then line_of o ++ id ∷ [] else line_of o

  line_comes : line_in behind.center ≡ line_after id before.center → (k : ℕ) → line_of (slice_get ys k) ≡ line_with (n == k) (slice_get xs k)
  line_comes came k = by (n == k) refl
    where
      apart : (n == k) ≡ false → k ≡ n → ⊥
      apart other same = false_isnt_true (sym other ∙ eq-eqb n k (sym same))

      by : (b : Bool) → (n == k) ≡ b → line_of (slice_get ys k) ≡ line_with b (slice_get xs k)
      by true same =
          subst (λ j. line_of (slice_get ys j) ≡ line_with true (slice_get xs j)) (eqb-true n k same)
          (ap line_of now_here ∙ came ∙ sym (ap (line_with true) was))
      by false other = elim (each xs n before behind k was) [
        | inl h ↦ absurd (apart other h.0)
        | inr h ↦ ap line_of h
      ]

  pub comes_to : ComesIn id before.center behind.center → ComesTo name (held_by xs) (held_by ys)
  comes_to c = record {
    comes = (λ may. is_there (Some (fresh_end id)) true (c.comes (sym may_was ∙ may)));
    refused = (λ may. there_as (λ e. e) (is_there (end_of (Some before) id) (waits_at (Some before) id) (c.refused (sym may_was ∙ may))));
    line = line_comes c.line;
    others = changes_one c.others c.port;
  }

  pub one_end_hears : (hears : SeenEnd → SeenEnd) → HearsIn id hears before.center behind.center → OneEndHears name hears (held_by xs) (held_by ys)
  one_end_hears hears h = record {
    there = there_as (option_map hears) (is_there (option_map hears (end_of (Some before) id)) (waits_at (Some before) id) h.there);
    line = of_each line_of h.line;
    others = changes_one h.others h.port;
  }

  pub same_rest : rest_of_node behind ≡ rest_of_node before → map rest_of_node ys ≡ map rest_of_node xs
  same_rest same = mapped_same rest_of_node xs n before behind was same

-- the end of a socket that a node has
pub had_by : {D : Type 0} (n : ℕ) (id : SocketId) (node : NodeNow D) (xs : List (NodeNow D)) → slice_get xs n ≡ Some node →
    end_had (held_by xs) (record { node = n; id = id }) ≡ end_at (ends_in node.center) id
had_by n id node xs was = ap (λ o. if waits_at o id then None else end_of o id) was ∙ had_in node.center id

-- none_isnt_some changes
pub as_before : {D : Type 0} (e : EndName) (xs ys : List (NodeNow D)) → ys ≡ xs → IsAsBefore e (held_by xs) (held_by ys)
as_before e xs zs same = subst (λ l. IsAsBefore e (held_by xs) (held_by l)) (sym same) (record {
  there = record { shows = refl; waits = refl };
  line = (λ node. refl);
  others = record {
    nodes = refl;
    at = (λ node. refl);
    made = (λ node. refl);
    ends = (λ other is. refl);
    waits = (λ other is. refl);
  };
})

-- ---- of a cluster, by the node with a number

module _ {D : Type 0} (was old : ClusterNow D) (same : was ≡ old) (n : ℕ) (id : SocketId) (x : NodeNow D) (read : x ≡ get_or was.nodes n x) (within : n < length old.nodes) where
  abbrev it : EndName
  it = record { node = n; id = id }

  there : slice_get was.nodes n ≡ Some x
  there = slice_get_read was.nodes (length was.nodes) n x refl (subst (λ (c : ClusterNow D). n < length c.nodes) (sym same) within) read

  pub log_so : (o : Option Log) → o ≡ option_map (λ (e : SeenEnd). e.log) (end_at (ends_in x.center) id) → o ≡ option_map (λ (e : SeenEnd). e.log) (end_had (held_by old.nodes) it)
  log_so o h =
      h ∙ sym (ap (option_map (λ (e : SeenEnd). e.log)) (had_by n id x was.nodes there))
      ∙ ap (λ (c : ClusterNow D). option_map (λ (e : SeenEnd). e.log) (end_had (held_by c.nodes) it)) same

  pub comes_so : {E : Type 0} (r : Result (Unit {0}) E) (y : NodeNow D) → OnOk r (ComesIn id x.center y.center) → OnOk r (ComesTo it (held_by old.nodes) (held_by (slice_set was.nodes n y)))
  comes_so (Ok done) y h = subst (λ (c : ClusterNow D). ComesTo it (held_by c.nodes) (held_by (slice_set was.nodes n y))) same (comes_to n id x y was.nodes there h)
  comes_so (Err e) y h = tt

  pub hears_so : {E : Type 0} (r : Result (Unit {0}) E) (hears : SeenEnd → SeenEnd) (y : NodeNow D) → OnOk r (HearsIn id hears x.center y.center) →
      OnOk r (OneEndHears it hears (held_by old.nodes) (held_by (slice_set was.nodes n y)))
  hears_so (Ok done) hears y h = subst (λ (c : ClusterNow D). OneEndHears it hears (held_by c.nodes) (held_by (slice_set was.nodes n y))) same (one_end_hears n id x y was.nodes there hears h)
  hears_so (Err e) hears y h = tt

  pub rest_so : (y : NodeNow D) → rest_of_node y ≡ rest_of_node x → rest_of (record was { nodes = slice_set was.nodes n y }) ≡ rest_of old
  rest_so y h = ap (λ (l : List (NodeNow D)). record was { nodes = l }) (same_rest n id x y was.nodes there h) ∙ ap rest_of same
