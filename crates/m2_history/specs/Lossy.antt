-- What follows where two sides of a lossy link are woven into one order. This project's own.
use Rattle.std.specs.Prelude.{ℕ, true, false, List, map}
use Rattle.m2_channel.specs.Observed.{Logs, all_of}
use Rattle.m2_dispatch.specs.Heard as heard
use Rattle.m2_dispatch.specs.Laws.{IsSublist}
use Rattle.m2_bytes_fit.specs.Orders.{entries_of}
use Rattle.m2_history.specs.declared.history.History.{History}
use Rattle.m2_history.specs.Counted.{posted}
use Rattle.m2_history.specs.Delivered.{Kept}
use Rattle.m2_journal.specs.SideFacts.{SideFacts}
use Rattle.m2_channel.specs.Lossy.{AreLossy, AreSomeOf}
use Rattle.m2_message.specs.Message.{unnumbered}
use Rattle.m2_channel.specs.m2_never_reset.Orders.{SideItem, near_after, far_after}
use Rattle.m2_policy.specs.declared.path.Key.{Key}
use Rattle.m2_history.specs.WovenLaws.{kept_by, strands_in}
use Rattle.m2_history.specs.WovenLink.{LinkNow, AreJoined, IsLink, IsOrderOf, order_of}

-- the logs of either side's dispatchers tell some of what the side accepted, of each key in order, each once
pub record AreSomeLogs (f g : SideFacts) (order : List SideItem) (near_logs far_logs : Logs) : Type 0 where
  pub near : AreSomeOf g.node.number near_logs (near_after f order)
  pub far : AreSomeOf f.node.number far_logs (far_after g order)

-- From the near side to the far side, of each key: what is dispatched is some of what was posted, in order, each message once. A
-- message is the same whatever numbers the runtime wrote into it.
abbrev pub ComesInOrder : (f g : SideFacts) → (near : Kept) → Logs → Type 0
ComesInOrder f g near logs = (key : Key) →
    IsSublist (map unnumbered (heard.of_key f.node.number key (all_of logs))) (map unnumbered (posted near.plan g.node.fast key near.journal))

pub record BothComeInOrder (f g : SideFacts) (a b : Kept) (a_logs b_logs : Logs) : Type 0 where
  pub near : ComesInOrder f g a b_logs
  pub far : ComesInOrder g f b a_logs

abbrev pub IsWovenInOrder : LinkNow → List ℕ → (near_logs far_logs : Logs) → Type 0
IsWovenInOrder l order near_logs far_logs =
    AreSomeLogs (l.facts true) (l.facts false) (entries_of (order_of l order)) near_logs far_logs →
    BothComeInOrder (l.facts true) (l.facts false) (kept_by l true) (kept_by l false) near_logs far_logs

-- so it is in every order of a lossy link, with mark-downs or without
abbrev pub WovenComesInOrder : Type 0
WovenComesInOrder = (l : LinkNow) (order : List ℕ) (near_logs far_logs : Logs) → AreLossy (l.facts true) (l.facts false) → IsLink l → IsOrderOf l order →
    IsWovenInOrder l order near_logs far_logs

-- ---- what weaving gives of two records

-- of a lossy link
pub record AreOfLossy (l : LinkNow) : Type 0 where
  pub nodes : AreLossy (l.facts true) (l.facts false)
  pub joined : AreJoined l

abbrev pub IsInOrderIn : LinkNow → (near_logs far_logs : Logs) → History → Type 0
IsInOrderIn l near_logs far_logs h = AreOfLossy l → IsWovenInOrder l (strands_in h) near_logs far_logs
