-- The first word of an instruction says what it is about. This project's own.
use Rattle.std.specs.Prelude.{if◌then◌else◌, Option, Some, None, codes}
use Rattle.std.specs.Str.{bytes_eq}
use Rattle.m2_scenario_text.specs.declared.verb.Verb.{Verb}
use Rattle.m2_scenario_text.specs.declared.verb.Verb.TheVariants as verb
use Rattle.m2_scenario.specs.Text.{Word}

unfoldable pub verb_of : Word → Option Verb
verb_of w =
    if bytes_eq w (codes "pair") then Some verb.Pair else
    if bytes_eq w (codes "post") then Some verb.Post else
    if bytes_eq w (codes "dial") then Some verb.Dial else
    if bytes_eq w (codes "down") then Some verb.Down else
    if bytes_eq w (codes "connect") then Some verb.Connect else
    if bytes_eq w (codes "step") then Some verb.Step else
    if bytes_eq w (codes "arrivals") then Some verb.Arrivals else
    if bytes_eq w (codes "turn") then Some verb.Turn else
    if bytes_eq w (codes "flow") then Some verb.Flow else
    if bytes_eq w (codes "fault") then Some verb.Fault else
    if bytes_eq w (codes "tell") then Some verb.Tell else None
