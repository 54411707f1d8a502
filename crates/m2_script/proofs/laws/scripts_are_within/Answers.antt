use Rattle.std.specs.Prelude.{length, map}
use Rattle.std.proofs.lemmas.List.Elements.{recursion_from_All}
use Rattle.m2_scenario.specs.Draft.{draft_line}
use Rattle.m2_scenario.specs.Valid.{IsLine, IsLink}
use Rattle.m2_script.proofs.Needs.{script_within}
use Rattle.m2_script.proofs.laws.scripts_are_within.Goals as goal

pub returns : goal.returns
returns c = λ nodes links lines sound.
    script_within (length nodes) links (recursion_from_All (IsLink (length nodes)) links sound.joined) lines
    (recursion_from_All (IsLine (length nodes) links) (map draft_line lines) sound.in_place)
