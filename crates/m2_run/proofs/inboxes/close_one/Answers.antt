-- What is left in it goes last.
use Rattle.m2_handover.specs.m2_mailbox.Passes.{puts_of, taken_of}
use Rattle.m2_run.proofs.Closes.{left_over}
use Rattle.m2_node.proofs.StepLists.{on_ok_so}
use Rattle.m2_run.proofs.inboxes.close_one.Goals as goal

pub returns : goal.returns
returns g c =
    on_ok_so c.put_last.result _ _
    (λ is. left_over c.args.into.now.items c.put_last.new.into.items c.in_ok-halves.halves.items (puts_of c.args.put) (taken_of c.args.get) is c.in_ok-halves.ensures) c.put_last.ensures
