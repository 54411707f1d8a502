use Rattle.std.proofs.Common.{◌≡◌, ◌+◌, drop, None}
use Rattle.std.specs.Prelude.{nat_lt, if◌then◌else◌, slice_get}
use Rattle.m2_weave.specs.Rule.{first_unfit}
use Rattle.m2_weave.proofs.stopping.first_unfit.Given as goal

-- those so far fit
abbrev pub invariant-loop-i : goal.invariant-loop-i
invariant-loop-i l =
    first_unfit (record { socket = l.socket; opener = l.opener }) (λ place. if nat_lt place l.written then slice_get l.put place else None)
    (l.from + l.i) (drop l.i l.bytes)
    ≡ first_unfit (record { socket = l.socket; opener = l.opener }) (λ place. if nat_lt place l.written then slice_get l.put place else None)
    l.from l.bytes
