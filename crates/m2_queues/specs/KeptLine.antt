-- The messages of an outgoing queue: those that are kept, and those that wait.
use Rattle.std.specs.Prelude.{ℕ, List, ◌++◌, drop, map, take}
use Rattle.m2_message.specs.declared.message.Message.{Message}
use Rattle.m2_queues.specs.PriorityQueue.{Ranked, item_of}

pub record KeptAndWaiting : Type 0 where
  -- in the order in which they came to be kept
  pub kept : List Message
  -- in the order in which they come to be kept
  pub waiting : List (Ranked Message)
  -- how many more may wait for certain
  pub room : ℕ

-- the first that waits is kept, behind all that are
abbrev pub after_keep : KeptAndWaiting → KeptAndWaiting
after_keep l = record l { kept = l.kept ++ map item_of (take 1 l.waiting); waiting = drop 1 l.waiting }
