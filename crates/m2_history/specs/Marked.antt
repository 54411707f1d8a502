-- What follows of a lossless link where two sides are woven, whether a node marks its side down or not. This project's own.
use Rattle.std.specs.Prelude.{◌≡◌, ℕ, true, false, List, [], ◌∷◌, map}
use Rattle.m2_channel.specs.Channel.{accept, acknowledge, dispatch, mark, post, reset}
use Rattle.m2_channel.specs.Observed.{Logs, all_of, before_down, observed}
use Rattle.m2_channel.specs.ObservedLaws.{AreBroughtToAMark, AreLogs}
use Rattle.m2_channel.specs.m2_never_reset.Order.{AreFirstOf}
use Rattle.m2_channel.specs.m2_never_reset.Orders.{SideItem, AreNodes, IsNeverReset}
use Rattle.m2_bytes_fit.specs.Orders.{entries_of}
use Rattle.m2_dispatch.specs.Heard as heard
use Rattle.m2_journal.specs.SideFacts.{SideFacts}
use Rattle.m2_message.specs.Message.{Content, unnumbered, with_numbers}
use Rattle.m2_policy.specs.declared.path.Key.{Key}
use Rattle.m2_history.specs.declared.history.History.{History}
use Rattle.m2_history.specs.Counted.{posted}
use Rattle.m2_history.specs.Delivered.{Kept}
use Rattle.m2_history.specs.WovenLaws.{kept_by, strands_in}
use Rattle.m2_history.specs.WovenLink.{LinkNow, AreJoined, IsLink, IsOrderOf, order_of}

-- the entries of both journals before the first that marks a side down
abbrev pub entries_to_a_mark : LinkNow → List ℕ → List SideItem
entries_to_a_mark l order = before_down (entries_of (order_of l order))

-- From the near side to the far side, of each key: what is dispatched is the first of what was posted, in order, each once. A message
-- is the same whatever numbers the runtime wrote into it.
abbrev pub ComesFirst : (f g : SideFacts) → (near : Kept) → Logs → Type 0
ComesFirst f g near logs = (key : Key) →
    AreFirstOf (map unnumbered (heard.of_key f.node.number key (all_of logs))) (map unnumbered (posted near.plan g.node.fast key near.journal))

pub record BothComeFirst (f g : SideFacts) (a b : Kept) (a_logs b_logs : Logs) : Type 0 where
  pub near : ComesFirst f g a b_logs
  pub far : ComesFirst g f b a_logs

pub record IsWovenToAMark (l : LinkNow) (order : List ℕ) (near_logs far_logs : Logs) : Type 0 where
  -- before the first mark-down nothing is reset
  pub never_reset : IsNeverReset (l.facts true) (l.facts false) (entries_to_a_mark l order)
  -- and what dispatchers were called with of what both sides had handed on by then is of each key the first of what was posted
  pub dispatched : (near far : Logs) → AreLogs (l.facts true) (l.facts false) (entries_to_a_mark l order) near far →
      BothComeFirst (l.facts true) (l.facts false) (kept_by l true) (kept_by l false) near far
  -- all that is observed is in both directions a run of the ordered channel, in which no reset comes without a mark before it
  pub observed : AreLogs (l.facts true) (l.facts false) (entries_of (order_of l order)) near_logs far_logs →
      AreBroughtToAMark (l.facts true) (l.facts false) (entries_of (order_of l order)) near_logs far_logs

-- so it is in every order of a lossless link, with mark-downs or without
abbrev pub WovenIsARunToAMark : Type 0
WovenIsARunToAMark = (l : LinkNow) (order : List ℕ) (near_logs far_logs : Logs) → AreNodes (l.facts true) (l.facts false) → IsLink l → IsOrderOf l order →
    IsWovenToAMark l order near_logs far_logs

-- ---- what weaving gives of two records

-- of two lossless nodes, whether one marks its side down or not
pub record AreLosslessNodes (l : LinkNow) : Type 0 where
  pub nodes : AreNodes (l.facts true) (l.facts false)
  pub joined : AreJoined l

abbrev pub IsToAMarkIn : LinkNow → (near_logs far_logs : Logs) → History → Type 0
IsToAMarkIn l near_logs far_logs h = AreLosslessNodes l → IsWovenToAMark l (strands_in h) near_logs far_logs

-- ---- there are such links

-- One with an order in which a message is posted, accepted and counted acknowledged, and by then dispatched; and then a side is marked
-- down, which resets the session: so resets come, and none before a mark-down.
pub record AMarkedLinkIsWoven : Type 0 where
  pub link : LinkNow
  pub order : List ℕ
  pub nodes : AreNodes (link.facts true) (link.facts false)
  pub is_link : IsLink link
  pub is_order : IsOrderOf link order
  pub near_logs : Logs
  pub far_logs : Logs
  pub logs : AreLogs (link.facts true) (link.facts false) (entries_to_a_mark link order) near_logs far_logs
  pub key : Key
  pub message : Content
  pub shown : observed (link.facts true) (link.facts false) (entries_of (order_of link order)) far_logs
      ≡ post key message ∷ accept key (with_numbers 1 0 message) ∷ acknowledge 1 ∷ mark ∷ reset ∷ dispatch key message ∷ []
