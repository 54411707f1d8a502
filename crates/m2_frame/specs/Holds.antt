-- A decoder's own fact.
use Rattle.std.specs.Prelude.{◌+◌, ◌<◌, ◌^◌, length}
use Rattle.m2_frame.specs.declared.finding.Finding.{Finding}
use Rattle.m2_frame.specs.Judging.{Finds}
use Rattle.m2_frame.specs.Position.{Position}

-- what it remembers is so, and every place in what it was fed has a number
pub record Holds (finding : Finding) (s : Position) : Type 0 where
  pub found : Finds finding s.rest s.granted
  pub counted : s.place + length s.rest < 2 ^ 64
