-- The node at the place is that of the contract.
use Rattle.std.proofs.Common.{length, refl}
use Rattle.std.specs.Prelude.{get_or}
use Rattle.std.proofs.lemmas.Option.{slice_get-get_or, slice_get_read}
use Rattle.m2_run.proofs.KeptOnce.{once_there}
use Rattle.m2_run.proofs.once.is_once_at.Goals as goal

pub returns : goal.returns
returns g c =
    let x = c.index-nodes-k.result in
    let o = c.index-all-k.result in
    once_there c.args.nodes.now c.args.all.now c.args.k (get_or c.args.nodes.now c.args.k x) o (slice_get-get_or c.args.nodes.now c.args.k x c.requires.node)
    (slice_get_read c.args.all.now (length c.args.all.now) c.args.k o refl c.requires.opened c.index-all-k.is) c.in_ok-node_once.ensures
