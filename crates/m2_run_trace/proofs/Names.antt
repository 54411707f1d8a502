-- The names of nodes by their places.
use Rattle.std.proofs.Common.{◌≡◌, ℕ, zero, suc, List, [], ◌∷◌, Some, None, map, ap, ◌∙◌, refl}
use Rattle.std.specs.List.{slice_get}
use Rattle.std.specs.Prelude.{Option}
use Rattle.m2_scenario.specs.Report.{name_of}
use Rattle.m2_scenario.specs.declared.node.Node.{Node}
use Rattle.m2_trace.specs.Words.{Text}
use Rattle.m2_scenario.specs.Text.{word}

-- the name of what a look-up found
abbrev pub named : Option Node → Text
named (Some n) = n.name
named None = []

there : (nodes : List Node) (place : ℕ) → named (slice_get nodes place) ≡ word (map name_of nodes) place
there [] place = refl
there (n ∷ ns) zero = refl
there (n ∷ ns) (suc place) = there ns place

pub name_found : (nodes : List Node) (place : ℕ) (found : Option Node) → found ≡ slice_get nodes place → named found ≡ word (map name_of nodes) place
name_found nodes place found is = ap named is ∙ there nodes place
