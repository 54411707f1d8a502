-- The numbers of a generated scenario.
use Rattle.std.proofs.Common.{refl}
use Rattle.m2_scenario.specs.Draws.{next_state}
use Rattle.m2_cli.specs.Numbers.{OfLoads}

pub loads : OfLoads
unfolding next_state
loads = record { fault = λ i. refl; round = λ i. refl; last_rounds = λ posts seed. refl; state = λ x. refl }
