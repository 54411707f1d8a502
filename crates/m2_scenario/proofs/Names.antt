-- The names of nodes by their places.
use Rattle.std.proofs.Common.{◌≡◌, ℕ, zero, suc, ◌<◌, List, [], ◌∷◌, length, map, get_or, refl, arith}
use Rattle.m2_scenario.specs.declared.node.Node.{Node}
use Rattle.m2_scenario.specs.Text.{word}
use Rattle.m2_scenario.specs.Report.{name_of}

pub name_there : (nodes : List Node) (k : ℕ) (d : Node) → k < length nodes → word (map name_of nodes) k ≡ name_of (get_or nodes k d)
name_there [] k d h = absurd (omega (arith, h))
name_there (n ∷ ns) zero d h = refl
name_there (n ∷ ns) (suc k) d h = name_there ns k d (omega (arith, h))
