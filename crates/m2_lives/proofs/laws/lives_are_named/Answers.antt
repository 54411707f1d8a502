use Rattle.m2_lives.proofs.Named.{are_named}
use Rattle.m2_lives.proofs.laws.lives_are_named.Goals as goal

pub returns : goal.returns
returns c = are_named
