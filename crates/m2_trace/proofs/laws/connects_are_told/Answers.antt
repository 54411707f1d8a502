use Rattle.m2_trace.proofs.Dialled.{are_told}
use Rattle.m2_trace.proofs.laws.connects_are_told.Goals as goal

pub returns : goal.returns
returns c = are_told
