use Rattle.std.proofs.Common.{length}
use Rattle.m2_turn.proofs.records_turn.+tops_fit.Given as goal

abbrev pub decreases-tops_fit : goal.decreases-tops_fit
decreases-tops_fit g l = length l.records.now
