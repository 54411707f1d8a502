-- What the line of a status is made of.
use Rattle.std.proofs.Common.{◌≡◌, ℕ, zero, suc, ◌≤◌, List, [], ◌∷◌, ◌++◌, decimal, length, map, refl, ap, ◌∙◌, arith}
use Rattle.m2_scenario.proofs.Appended.{and_then}
use Rattle.m2_scenario.specs.declared.node.Node.{Node}
use Rattle.m2_scenario.specs.Text.{word}
use Rattle.m2_scenario.specs.Report.{name_of}

-- behind what was appended, words and a number
pub and_number : (old so_far words : List ℕ) (n given : ℕ) (mid new : List ℕ) → mid ≡ old ++ so_far → given ≡ n → new ≡ mid ++ words ++ decimal given
    → new ≡ old ++ (so_far ++ words ++ decimal n)
and_number old so_far words n given mid new before same e =
    and_then old (so_far ++ words) (decimal n) (mid ++ words) new (and_then old so_far words mid (mid ++ words) before refl)
    (e ∙ ap (λ (k : ℕ). mid ++ words ++ decimal k) same)

-- a node that isn't there has no name
pub name_past : (nodes : List Node) (k : ℕ) → length nodes ≤ k → word (map name_of nodes) k ≡ []
name_past [] k h = refl
name_past (n ∷ ns) zero h = absurd (omega (arith, h))
name_past (n ∷ ns) (suc k) h = name_past ns k (omega (arith, h))
