-- with what the options that are left set it is what all set
use Rattle.std.proofs.Common.{◌≡◌, drop}
use Rattle.m2_scenario.specs.Valid.{HasCenters}
use Rattle.m2_scenario_text.specs.NodeOption.{set_options}
use Rattle.m2_scenario_text.proofs.node_option.set_options.Given as goal

abbrev pub invariant-options : goal.invariant-options
invariant-options l = record {
  set : set_options (drop l.option-index l.given) l.node ≡ set_options l.fn.given l.fn.node;
  centers : HasCenters l.node;
  at : l.node.at ≡ l.fn.node.at;
}
