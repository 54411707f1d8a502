use Rattle.m2_scenario.proofs.text.Words.+skip.Given as goal

abbrev pub decreases-skip : goal.decreases-skip
decreases-skip l = l.count
