-- One node more.
use Rattle.std.proofs.Common.{◌≡◌, ◌⊎◌, inl, inr, ℕ, zero, suc, List, [], ◌∷◌, ◌++◌, length, Option, Some, None, refl, sym, ap, subst, ◌∙◌}
use Rattle.std.specs.Prelude.{slice_get, Result, Ok, Err, IfOk, IfSome}
use Rattle.std.proofs.lemmas.Option.{none-some, same_Some}
use Rattle.m2_cluster.specs.Node.{NodeNow}
use Rattle.m2_dispatch.specs.declared.logged.Logged.{Logged}
use Rattle.m2_scenario.specs.declared.line.Line.{Line}
use Rattle.m2_scenario.specs.declared.link.Link.{Link}
use Rattle.m2_scenario.specs.declared.node.Node.{Node}
use Rattle.m2_script.specs.Nodes.{IsNewNode}

-- the nodes so far are new ones, each at its place
abbrev pub AreNewSoFar : List Node → List Link → List Line → List (NodeNow (List Logged)) → Type 0
AreNewSoFar nodes links lines ns = (k : ℕ) (x : Node) (n : NodeNow (List Logged)) → slice_get nodes k ≡ Some x → slice_get ns k ≡ Some n → IsNewNode nodes links lines k x n

-- an item of a list with one more is one of the list, or that
pub one_of : {X : Type 0} (xs : List X) (y : X) (k : ℕ) (x : X) → slice_get (xs ++ y ∷ []) k ≡ Some x → (slice_get xs k ≡ Some x) ⊎ ((k ≡ length xs) × (y ≡ x))
one_of [] y zero x e = inr (refl, same_Some y x e)
one_of [] y (suc k) x e = absurd (none-some x e)
one_of (z ∷ xs) y zero x e = inl e
one_of (z ∷ xs) y (suc k) x e = go (one_of xs y k x e)
  where
    go : (slice_get xs k ≡ Some x) ⊎ ((k ≡ length xs) × (y ≡ x)) → (slice_get xs k ≡ Some x) ⊎ ((suc k ≡ suc (length xs)) × (y ≡ x))
    go (inl h) = inl h
    go (inr h) = inr (ap suc h.0, h.1)

pub one_more : (nodes : List Node) (links : List Link) (lines : List Line) (ns : List (NodeNow (List Logged))) (n : NodeNow (List Logged)) → AreNewSoFar nodes links lines ns →
    IfSome (slice_get nodes (length ns)) (λ x. IsNewNode nodes links lines (length ns) x n) → AreNewSoFar nodes links lines (ns ++ n ∷ [])
one_more nodes links lines ns n old new k x m there e = go (one_of ns n k m e)
  where
    go : (slice_get ns k ≡ Some m) ⊎ ((k ≡ length ns) × (n ≡ m)) → IsNewNode nodes links lines k x m
    go (inl h) = old k x m there h
    go (inr h) =
        subst (λ (j : ℕ). IsNewNode nodes links lines j x m) (sym h.0)
        (subst (IsNewNode nodes links lines (length ns) x) h.1 (subst (λ (o : Option Node). IfSome o (λ y. IsNewNode nodes links lines (length ns) y n)) (ap (slice_get nodes) (sym h.0) ∙ there) new))

-- what follows of a value that there may be
pub of_four : {T E : Type 0} (r : Result T E) (A B C D Q : T → Type 0) → ((x : T) → A x → B x → C x → D x → Q x) → IfOk r A → IfOk r B → IfOk r C → IfOk r D → IfOk r Q
of_four (Ok x) A B C D Q so a b c d = so x a b c d
of_four (Err e) A B C D Q so a b c d = tt

-- what holds of whichever item there is
pub if_some : {X : Type 0} (o : Option X) (P : X → Type 0) → ((x : X) → o ≡ Some x → P x) → IfSome o P
if_some None P so = tt
if_some (Some x) P so = so x refl

-- what holds of it, where it is there
pub of_some : {X : Type 0} (o : Option X) (P : X → Type 0) (x : X) → o ≡ Some x → IfSome o P → P x
of_some o P x is h = subst (λ o. IfSome o P) is h
