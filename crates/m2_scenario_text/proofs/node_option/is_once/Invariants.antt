-- none so far repeats the option
use Rattle.std.proofs.Common.{◌≡◌, length}
use Rattle.m2_scenario_text.specs.NodeOption.{is_once}
use Rattle.m2_scenario_text.proofs.node_option.is_once.Given as goal

abbrev pub invariant-later : goal.invariant-later
invariant-later l = is_once l.option l.rest ≡ is_once l.option l.fn.later

abbrev pub decreases-later : goal.decreases-later
decreases-later l = length l.rest
