use Rattle.std.proofs.Common.{[], ◌∷◌}
use Rattle.m2_fabric.proofs.Below.{below_last}
use Rattle.m2_fabric.proofs.Over.{over_then}
use Rattle.m2_fabric.proofs.pair.Pair.push.Goals as goal

pub invariant_of-self-2 : goal.invariant_of-self-2
invariant_of-self-2 c =
    let i = c.self.inside in
    rw (c.in_ok-push.ensures.items, c.raised-self-inside.ensures) (
      over_then i.over i.sockets.items (c.args.kept ∷ []) c.self.invariant.0,
      below_last i.newest c.args.kept i.sockets.items c.self.invariant.1,
    )
