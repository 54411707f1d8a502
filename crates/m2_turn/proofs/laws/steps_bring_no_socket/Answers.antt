use Rattle.m2_turn.proofs.GoesOn.{steps}
use Rattle.m2_turn.proofs.laws.steps_bring_no_socket.Goals as goal

pub returns : goal.returns
returns c = steps
