use Rattle.std.proofs.Common.{◌++◌, drop}
use Rattle.std.specs.List.{AllByRecursion}
use Rattle.m2_history.specs.Link.{IsJudgedSo}
use Rattle.m2_record.specs.TakenTrails.{judgements_in}
use Rattle.m2_history.proofs.link.are_judged_so.Given as goal

-- where those to come were told so, all were
abbrev pub invariant-loop-half : goal.invariant-loop-half
invariant-loop-half g l = let Told = AllByRecursion (IsJudgedSo (judgements_in l.near.items ++ judgements_in l.far.items)) in Told (drop l.half-index l.loose) → Told l.loose
