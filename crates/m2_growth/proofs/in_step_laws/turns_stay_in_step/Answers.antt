use Rattle.std.proofs.Common.{◌∙◌}
use Rattle.m2_growth.proofs.Growing.{all_flowed, unread_grows}
use Rattle.m2_fabric.specs.InStep.{end_of}
use Rattle.m2_fabric.specs.Kept.{directions}
use Rattle.m2_growth.proofs.in_step_laws.turns_stay_in_step.Goals as goal

pub returns : goal.returns
returns g = λ fabric old new grows there step. record {
  nodes = grows.nodes ∙ step.nodes;
  kept = all_flowed old new (directions fabric.pairs) grows there step.kept;
  others = λ e none. unread_grows (end_of old e) (end_of new e) (grows.ends e.node e.id) (grows.memory e.node e.id) (step.others e none);
}
