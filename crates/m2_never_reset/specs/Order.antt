-- What the other side's messages are to a side: what it accepted of them, in their order, and what it told of that.
use Rattle.std.specs.Prelude.{◌≡◌, ◌≤◌, List, ◌++◌, length}
use Rattle.m2_queues.specs.m2_message.Message.{Content}
use Rattle.m2_never_reset.specs.Link.{Node, Link}

-- the first ones of these, in order
abbrev pub AreFirstOf : List Content → List Content → Type 0
AreFirstOf taken all = (more : List Content) × (all ≡ taken ++ more)

-- what the reader accepted of what the sender numbered
pub record IsInOrder (reader sender : Node) : Type 0 where
  -- each message once, in the order of their numbers
  pub prefix : AreFirstOf reader.accepted sender.numbered
  -- the last number is the count, and stands for a message that the sender has numbered
  pub last : reader.last ≡ length reader.accepted
  pub numbered : reader.last ≤ length sender.numbered
  -- what the sender counts as acknowledged, and what it was told, was accepted
  pub base : sender.base ≤ length reader.accepted
  pub heard : sender.heard ≤ length reader.accepted

pub record AreInOrder (l : Link) : Type 0 where
  pub near : IsInOrder l.near l.far
  pub far : IsInOrder l.far l.near
