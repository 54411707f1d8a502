-- The pass of the dispatch is of its throttle.
use Rattle.m2_shared.specs.Gates.{dispatch}
use Rattle.m2_shared.proofs.Asking.{place_at}
use Rattle.m2_shared.proofs.throttles.Throttles.close.Goals as goal

pub close-requires : goal.close-requires
close-requires c = record { pass = place_at c.args.self c.args.passes dispatch c.requires.passes }
