use Rattle.std.proofs.Common.{map}
use Rattle.m2_history.specs.Link.{HaveHalves}
use Rattle.m2_record.specs.TakenTrails.{judgements_in}
use Rattle.m2_trail.specs.Trails.{trail_now}
use Rattle.m2_history.proofs.link.have_halves.Given as goal

-- where the entries to come have theirs, all do
abbrev pub invariant-loop-e : goal.invariant-loop-e
invariant-loop-e g l = HaveHalves (map trail_now l.trails) l.loose (judgements_in l.e-iterator) → HaveHalves (map trail_now l.trails) l.loose (judgements_in l.journal.items)
