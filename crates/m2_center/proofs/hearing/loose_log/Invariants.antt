use Rattle.std.proofs.Common.{◌≡◌, drop, map}
use Rattle.m2_record.specs.Sources.{end_at}
use Rattle.m2_trail.specs.Arrivals.{LooseNow}
use Rattle.m2_center.proofs.hearing.loose_log.Given as goal

-- none of those so far
abbrev pub invariant-halves : goal.invariant-halves
invariant-halves g l = end_at (map (λ (l : LooseNow). l.end) (drop l.half-index l.loose)) l.id ≡ end_at (map (λ (l : LooseNow). l.end) l.loose) l.id
