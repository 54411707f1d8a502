-- What stands at the socket's place is set back, or there is none.
use Rattle.std.proofs.Common.{refl, arith}
use Rattle.m2_weave.proofs.Clearing.{forgot, forgot_none}
use Rattle.m2_weave.proofs.counts.Counts.forget_socket.Goals as goal

pub returns-then-place-len : goal.returns-then-place-len
returns-then-place-len c =
    forgot c.args.sockets.now c.args.socket.now c.place_in-place.result c.args.self.now _ c.requires.sizes c.place_in-place.ensures (omega (arith, c.len.ensures))
    refl refl refl refl refl

pub returns-else-place-len : goal.returns-else-place-len
returns-else-place-len c =
    forgot_none c.args.sockets.now c.args.socket.now c.place_in-place.result c.args.self.now c.requires.sizes c.place_in-place.ensures (omega (arith, c.len.ensures))
