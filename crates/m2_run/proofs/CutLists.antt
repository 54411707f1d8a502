-- The cuts of nodes, one after another.
use Rattle.std.proofs.Common.{◌≡◌, inl, inr, ℕ, ◌<◌, ◌+◌, ◌++◌, ◌∙◌, List, [], ◌∷◌, length, sym, ap, arith}
use Rattle.std.specs.Prelude.{slice_get, slice_index_or}
use Rattle.std.proofs.lemmas.Option.{slice_get-get_or}
use Rattle.m2_bytes.specs.Items.{Holding}
use Rattle.m2_fabric.specs.declared.port.Cut.{Cut}
use Rattle.m2_scenario.specs.declared.line.Line.{Line}
use Rattle.m2_scenario.specs.declared.node.Node.{Node}
use Rattle.m2_node.specs.m2_script.Nodes.{cuts_of}
use Rattle.m2_run.specs.Cuts.{cuts_at, items_of}
use Rattle.m2_node.proofs.Places.{below_or_at, get_before, get_behind}

-- those of one node more
pub more_cuts : (nodes : List Node) (lines : List Line) (k : ℕ) (all new : List (Holding Cut)) (c : Holding Cut) → length all ≡ k → new ≡ all ++ c ∷ [] → c.items ≡ cuts_of nodes lines k →
    ((j : ℕ) → j < k → cuts_at all j ≡ cuts_of nodes lines j) → (j : ℕ) → j < k + 1 → cuts_at new j ≡ cuts_of nodes lines j
more_cuts nodes lines k all new c count e its so j few = elim (below_or_at j k few) [
  | inl less ↦ ap (λ cs. cuts_at cs j) e ∙ ap items_of (get_before all (c ∷ []) j (omega (arith, count, less))) ∙ so j less
  | inr same ↦ ap (λ cs. cuts_at cs j) e ∙ ap items_of (ap (slice_get (all ++ c ∷ [])) same ∙ get_behind all c [] k count) ∙ its ∙ ap (cuts_of nodes lines) (sym same)
]

-- those at a place
pub cuts_there : (all : List (Holding Cut)) (k : ℕ) (d : Holding Cut) → k < length all → (slice_index_or all k d).items ≡ cuts_at all k
cuts_there all k d less = sym (ap items_of (slice_get-get_or all k d less))
