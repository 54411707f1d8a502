-- What a putter learns from a full queue.
use Rattle.std.proofs.Common.{◌∙◌}
use Rattle.crossbeam_queue.specs.Fifo.{Held}
use Rattle.crossbeam_queue.specs.Passes.{view, ruled_capacity}
use Rattle.m2_mailbox.specs.Passes.{WasFull}
use Rattle.m2_mailbox.specs.Rule.{SeesHeld}
use Rattle.m2_mailbox.specs.declared.inbox.Inbox.{Inbox}
use Rattle.m2_mailbox.specs.declared.passes.PutPass.{PutPass}
use Rattle.m2_mailbox.proofs.Keeps.{items_length}

-- what the queue held when it was full is what the pass has put, behind what was taken
pub was_full : {T O : Type 0} (inbox : Inbox T O) (pass : PutPass T O) → Held (ruled_capacity inbox.queue) (SeesHeld (view pass.seen)) → WasFull inbox pass
was_full inbox pass seen all =
    let fact = seen.2 all in (fact.0, fact.1, items_length seen.0 fact.1 fact.2 ∙ seen.1, fact.3)
