use Rattle.std.proofs.Common.{rules, subst, sym}
use Rattle.m2_turn.specs.Halves.{halves_of, sessions_with}
use Rattle.m2_turn.specs.Sessions.{AreConsistent}
use Rattle.m2_turn.proofs.Left.{leaving_stays}
use Rattle.m2_turn.proofs.leaving.leave_all.Goals as goal

pub returns-clause-leaves : goal.returns-clause-leaves
returns-clause-leaves g c = search rules

pub returns-clause-consistent : goal.returns-clause-consistent
returns-clause-consistent g c supply entity made records was =
    subst (λ h. AreConsistent supply entity (sessions_with made records h)) (sym (returns-clause-leaves g c))
    (leaving_stays supply entity made records (halves_of c.args.halves.now c.args.loose.now.items) was)
