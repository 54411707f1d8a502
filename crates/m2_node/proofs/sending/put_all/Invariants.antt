-- Whoever sends with the mail still does; there is one parcel less each time.
use Rattle.std.proofs.Common.{length}
use Rattle.m2_dispatch.specs.Parcel.{AllOwned}
use Rattle.m2_dispatch.specs.m2_shared.Gates.{places}
use Rattle.m2_mailbox.specs.Passes.{IsPutPassOf}
use Rattle.m2_node.specs.Dispatching.{throttles_of}
use Rattle.m2_node.specs.Handing.{IsSending}
use Rattle.m2_node.specs.Working.{WorkerNow}
use Rattle.m2_node.proofs.sending.put_all.Given as goal

abbrev pub invariant-parcels : goal.invariant-parcels
invariant-parcels g l = record {
  ours : IsPutPassOf l.mail l.put;
  owned : AllOwned (places (throttles_of l.mail)) l.waiting.items;
  sends : (w : WorkerNow) → IsSending l.mail (record { worker = w; put = l.fn.put; waiting = l.fn.waiting.items }) → IsSending l.mail (record { worker = w; put = l.put; waiting = l.waiting.items });
}

abbrev pub decreases-parcels : goal.decreases-parcels
decreases-parcels g l = length l.waiting.items
