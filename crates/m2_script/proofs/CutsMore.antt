-- The cuts of one line more.
use Rattle.std.proofs.Common.{◌≡◌, ◌+◌, ◌<◌, ℕ, List, [], ◌∷◌, ◌++◌, Option, Some, None, length, get_or, take, refl, ap, ◌∙◌}
use Rattle.std.specs.List.{filter_map}
use Rattle.std.specs.Option.{option_to_list}
use Rattle.std.proofs.lemmas.List.{take_more}
use Rattle.std.proofs.lemmas.List.Elements.{filter_map-append}
use Rattle.m2_scenario.specs.declared.line.Line.{Line}
use Rattle.m2_scenario.specs.declared.node.Node.{Node}
use Rattle.m2_script.specs.Nodes.{cut_in, cuts_of}

one : {X Y : Type 0} (h : X → Option Y) (x : X) → filter_map h (x ∷ []) ≡ option_to_list (h x)
one {X} {Y} h x = go (h x) refl
  where
    go : (o : Option Y) → h x ≡ o → filter_map h (x ∷ []) ≡ option_to_list o
    go None e = rw e refl
    go (Some y) e = rw e refl

pub cuts_more : (nodes : List Node) (k : ℕ) (lines : List Line) (i : ℕ) (d : Line) → i < length lines →
    cuts_of nodes (take (i + 1) lines) k ≡ cuts_of nodes (take i lines) k ++ option_to_list (cut_in nodes k (get_or lines i d))
cuts_more nodes k lines i d within =
    ap (filter_map (cut_in nodes k)) (take_more lines i d within)
    ∙ filter_map-append (cut_in nodes k) (take i lines) (get_or lines i d ∷ [])
    ∙ ap (λ cuts. cuts_of nodes (take i lines) k ++ cuts) (one (cut_in nodes k) (get_or lines i d))
