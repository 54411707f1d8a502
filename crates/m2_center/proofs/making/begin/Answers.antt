-- A center that has accepted and dispatched nothing keeps what its type keeps.
use Rattle.std.proofs.Common.{arith}
use Rattle.m2_center.proofs.making.begin.Goals as goal

pub invariant_of-result : goal.invariant_of-result
invariant_of-result g c = (
  record {
    consistent = rw (c.requires.none, c.new-in-Ok.ensures.items) c.requires.begin;
    out = rw c.in-Ok.ensures.ok (record { held = tt; mail = tt });
    queued = rw c.new-in-Ok-2.ensures (λ k d within. absurd (omega (arith, within)));
  },
  c.requires.roster,
  rw c.requires.none (omega (arith)),
  c.requires.piece,
)
