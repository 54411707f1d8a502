-- none so far is repeated
use Rattle.std.proofs.Common.{◌≡◌, length}
use Rattle.m2_scenario_text.specs.NodeOption.{are_once}
use Rattle.m2_scenario_text.proofs.node_option.are_once.Given as goal

abbrev pub invariant-options : goal.invariant-options
invariant-options l = are_once l.rest ≡ are_once l.fn.given

abbrev pub decreases-options : goal.decreases-options
decreases-options l = length l.rest
