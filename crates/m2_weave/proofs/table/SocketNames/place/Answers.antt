-- A name that isn't there has the place behind all of them.
use Rattle.std.proofs.Common.{◌≡◌, List, length, ap, ◌∙◌, arith}
use Rattle.std.specs.Map.{lookup}
use Rattle.std.specs.Option.{unwrap_or}
use Rattle.m2_fabric.specs.declared.socket.SocketId.{SocketId}
use Rattle.m2_weave.specs.Counting.{place_in}
use Rattle.m2_weave.specs.Table.{Five, found_from, same_five}
use Rattle.m2_weave.proofs.Places.{found_or}
use Rattle.m2_weave.proofs.table.SocketNames.place.Goals as goal

pub returns : goal.returns
returns c =
    let k = c.args.k.now in
    let names = c.self.inside.names.items in
    let found : c.copied-found.result ≡ found_from 0 names k =
    c.copied-found.ensures ∙ c.get.ensures.value ∙ ap (λ (q : Five). lookup (same_five q) c.self.inside.places.entries) c.key_of.ensures
    ∙ c.self.invariant k in
    let counted : c.len.result ≡ length names = omega (arith, c.len.ensures) in
    c.unwrap_or.ensures ∙ ap (λ o. unwrap_or o c.len.result) found ∙ ap (unwrap_or (found_from 0 names k)) counted ∙ found_or names k
    ∙ ap (λ (xs : List SocketId). place_in xs k) c.self.view_is
