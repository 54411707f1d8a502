-- A name has a place where it is one of these.
use Rattle.std.proofs.Common.{List, ap, ◌∙◌}
use Rattle.std.specs.Prelude.{is_some}
use Rattle.std.specs.Map.{lookup}
use Rattle.m2_fabric.specs.declared.socket.SocketId.{SocketId}
use Rattle.m2_fabric.specs.Sockets.{is_among}
use Rattle.m2_weave.specs.Table.{Five, same_five}
use Rattle.m2_weave.proofs.Places.{found_some}
use Rattle.m2_weave.proofs.table.SocketNames.has.Goals as goal

pub returns : goal.returns
returns c =
    c.contains_key.ensures ∙ ap (λ (q : Five). is_some (lookup (same_five q) c.self.inside.places.entries)) c.key_of.ensures
    ∙ ap is_some (c.self.invariant c.args.k.now) ∙ found_some c.self.inside.names.items c.args.k.now
    ∙ ap (λ (xs : List SocketId). is_among c.args.k.now xs) c.self.view_is
