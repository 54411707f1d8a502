-- The queue that contracts see, from the fields of the code.
use Rattle.std.specs.Prelude.{◌≡◌, map}
use Rattle.std.specs.List.{AllByRecursion}
use Rattle.m2_message.specs.Message.{Content, content_of}
use Rattle.m2_message.specs.declared.message.Message.{Message}
use Rattle.m2_queues.specs.PriorityQueue.{Ranked}
use Rattle.m2_queues.specs.declared.out_queues.OutQueues.TheInside.{Inside}
use Rattle.m2_queues.specs.OutQueues.{Queue, Outgoing, IsNumbered}

abbrev pub content_ranked : Ranked Message → Content
content_ranked r = content_of r.item

abbrev pub queue_of : Inside → Queue
queue_of f = record {
  keeps = f.keeps;
  base = f.base;
  written = f.written;
  cursor = f.cursor;
  kept = map content_of f.messages.kept;
  waiting = map content_ranked f.messages.waiting;
}

abbrev pub outgoing_of : Inside → Outgoing
outgoing_of f = record { queue = queue_of f; spare = f.messages.room }

-- a message waits with its priority for a rank
abbrev pub IsRanked : Ranked Message → Type 0
IsRanked r = r.rank ≡ r.item.header.priority

-- the numbers are in order
pub record IsQueue (f : Inside) : Type 0 where
  pub numbers : IsNumbered (queue_of f)
  pub ranked : AllByRecursion IsRanked f.messages.waiting
