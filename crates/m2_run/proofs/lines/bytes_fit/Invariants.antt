-- The bytes so far are.
use Rattle.std.proofs.Common.{◌<◌, take}
use Rattle.std.specs.List.{All}
use Rattle.m2_run.proofs.lines.bytes_fit.Given as goal

abbrev pub invariant-bytes : goal.invariant-bytes
invariant-bytes l = All (λ b. b < 256) (take l.byte-index l.bytes)
