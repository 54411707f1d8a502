-- Both logs, one behind the other.
use Rattle.std.proofs.Common.{map, ap}
use Rattle.m2_message.specs.Message.{content_of}
use Rattle.m2_history.proofs.Both.{of_both}
use Rattle.m2_history.proofs.dispatching.dispatched.Goals as goal

pub returns : goal.returns
returns g c =
    of_both c.args.peer c.args.key _ _ _ _ _ _ _ (ap (map content_of) c.empty-all.ensures) c.in_ok-add_all.ensures c.in_ok-add_all-2.ensures c.as_slice.ensures c.as_slice-2.ensures
