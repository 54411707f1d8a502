-- The report, node by node.
use Rattle.std.proofs.Common.{◌≡◌, ℕ, ◌+◌, ◌<◌, ◌≤◌, Bool, List, [], ◌∷◌, ◌++◌, length, map, get_or, drop, refl, sym, ap, ◌∙◌}
use Rattle.std.proofs.lemmas.List.{drop_more, drop_all}
use Rattle.std.specs.List.{flat_map, zip}
use Rattle.m2_bytes.specs.Items.{Holding}
use Rattle.m2_dispatch.specs.Heard.{Heard}
use Rattle.m2_dispatch.specs.declared.logged.Logged.{Logged}
use Rattle.m2_scenario.specs.declared.node.Node.{Node}
use Rattle.m2_scenario.specs.Text.{Word}
use Rattle.m2_scenario.specs.Report.{name_of, node_lines, heard_in}

-- the lines of some of the nodes
abbrev pub lines_of : Bool → List Word → List Node → List (List Heard) → Word
lines_of sorted names nodes heard = flat_map (λ p. node_lines sorted names (name_of p.0) p.1) (zip nodes heard)

-- and of the logs that tell what they heard
abbrev pub lines_left : Bool → List Word → List Node → List (Holding Logged) → Word
lines_left sorted names nodes logs = lines_of sorted names nodes (map heard_in logs)

-- the first node's lines, and then the others'
pub lines_more : (sorted : Bool) (names : List Word) (nodes : List Node) (logs : List (Holding Logged)) (k : ℕ) (n : Node) (log : Holding Logged)
    → k < length nodes → k < length logs → n ≡ get_or nodes k n → log ≡ get_or logs k log
    → lines_left sorted names (drop k nodes) (drop k logs) ≡ node_lines sorted names (name_of n) (heard_in log) ++ lines_left sorted names (drop (k + 1) nodes) (drop (k + 1) logs)
lines_more sorted names nodes logs k n log h i e f =
    let left : drop k nodes ≡ n ∷ drop (k + 1) nodes = drop_more nodes k n h ∙ ap (λ m. m ∷ drop (k + 1) nodes) (sym e) in
    let right : drop k logs ≡ log ∷ drop (k + 1) logs = drop_more logs k log i ∙ ap (λ m. m ∷ drop (k + 1) logs) (sym f) in
    rw (left, right) refl

-- past the last node nothing is left
pub none_left : (sorted : Bool) (names : List Word) (nodes : List Node) (logs : List (Holding Logged)) (k : ℕ) → length nodes ≤ k → lines_left sorted names (drop k nodes) (drop k logs) ≡ []
none_left sorted names nodes logs k h = rw (drop_all k nodes h) refl
