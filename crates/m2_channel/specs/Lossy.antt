-- What is promised of a lossy link: of each key, what a side accepts and dispatches is some of what the other side posted, in
-- order, no message twice. Faults and mark-downs may cost messages, and nothing else. This project's own.
use Rattle.std.specs.Prelude.{◌≡◌, ◌⊎◌, ℕ, true, List, map}
use Rattle.std.specs.List.{AllByRecursion}
use Rattle.m2_channel.specs.Channel as channel
use Rattle.m2_channel.specs.Observed.{Logs, all_of, handed}
use Rattle.m2_dispatch.specs.Heard as heard
use Rattle.m2_dispatch.specs.Laws.{IsSublist}
use Rattle.m2_bytes_fit.specs.Halves.{BytesFit, KeepsRanges}
use Rattle.m2_bytes_fit.specs.Orders.{OrderEntry, Throughout, entries_of, near_side, far_side}
use Rattle.m2_bytes_fit.specs.Texts.{CanBePosted}
use Rattle.m2_journal.specs.Replay.{AreLawful}
use Rattle.m2_journal.specs.SideFacts.{SideFacts}
use Rattle.m2_journal.specs.State.{State, start}
use Rattle.m2_journal.specs.m2_message.Message.{Content, unnumbered}
use Rattle.m2_never_reset.specs.Orders as orders
use Rattle.m2_never_reset.specs.Orders.{SideItem, near_items, far_items, near_after, far_after, posts_in}
use Rattle.m2_journal.specs.m2_policy.declared.path.Key.{Key}
use Rattle.m2_journal.specs.m2_policy.Policy.{allows}

-- two sides whose policies towards each other are an allowed pair, of which one is lossy
pub record AreLossy (f g : SideFacts) : Type 0 where
  pub allowed : allows f.policy g.policy ≡ true
  pub lossy : (f.policy.lossy ≡ true) ⊎ (g.policy.lossy ≡ true)

-- of each key what is dispatched of a side's peer is some of what the side accepted, in order, each once
abbrev pub AreSomeOf : (peer : ℕ) → Logs → State → Type 0
AreSomeOf peer logs s = (key : Key) → IsSublist (map unnumbered (heard.of_key peer key (all_of logs))) (channel.of_key key (handed s.deliveries))

-- What comes over to a side, the reader, of what the other one has posted: of each key some of it, in order, each message
-- once. A message is the same whatever numbers the runtime wrote into it.
pub record ComeOver (reader sender : SideFacts) (s : State) (posted : List Content) : Type 0 where
  pub accepted : (key : Key) → IsSublist (channel.of_key key (handed s.deliveries)) (orders.of_key reader key (map unnumbered posted))
  pub dispatched : (logs : Logs) → AreSomeOf sender.node.number logs s →
      (key : Key) → IsSublist (map unnumbered (heard.of_key sender.node.number key (all_of logs))) (orders.of_key reader key (map unnumbered posted))

pub record BothComeOver (f g : SideFacts) (order : List SideItem) : Type 0 where
  pub near : ComeOver f g (near_after f order) (posts_in (far_items order))
  pub far : ComeOver g f (far_after g order) (posts_in (near_items order))

-- Both journals are lawful, what the plans post keeps the bounds of its frames, and the bytes fit at each point. A side may be
-- marked down by its own node.
pub record IsByteOrder (f g : SideFacts) (order : List OrderEntry) : Type 0 where
  pub near_named : KeepsRanges f
  pub far_named : KeepsRanges g
  pub near_lawful : AreLawful f (near_items (entries_of order)) (start f)
  pub far_lawful : AreLawful g (far_items (entries_of order)) (start g)
  pub near_posts : AllByRecursion CanBePosted (near_items (entries_of order))
  pub far_posts : AllByRecursion CanBePosted (far_items (entries_of order))
  pub bytes : Throughout order (λ front. BytesFit (near_side f front) (far_side g front))

-- so it is in every such order of a lossy link
abbrev pub LossyComesInOrder : Type 0
LossyComesInOrder = (f g : SideFacts) (order : List OrderEntry) → AreLossy f g → IsByteOrder f g order → BothComeOver f g (entries_of order)
