-- What is asked of the two records of a lossy link in a run, and what then holds: of each key what either node's dispatchers were
-- called with is some of what the other posted, in order. This project's own.
use Rattle.std.specs.Prelude.{◌≡◌, true, false}
use Rattle.std.specs.List.{AllByRecursion}
use Rattle.m2_channel.specs.Observed.{Logs}
use Rattle.m2_links_go_on.specs.m2_growth.Holding.{Holding}
use Rattle.m2_links_go_on.specs.m2_history.m2_channel.Lossy.{AreLossy}
use Rattle.m2_script.specs.m2_record.RecordNow.{RecordNow}
use Rattle.m2_promise.specs.Running.{HaveOrders, IsLinkOf, IsRunning, RunNow}
use Rattle.m2_links_go_on.specs.m2_history.WovenLaws.{kept_by}
use Rattle.m2_links_go_on.specs.m2_history.WovenLink.{LinkNow}
use Rattle.m2_links_go_on.specs.m2_history.Lossy.{BothComeInOrder}
use Rattle.m2_promise.specs.Delivered.{BothLogs, HasHeardPeer, PostsInRanges, link_in}

-- its plan keeps the ranges of types, and its peer is heard by the logs of its node
pub record IsHeardThere (logs : Logs) (r : RecordNow) : Type 0 where
  pub plan : AllByRecursion PostsInRanges r.plan
  pub heard : HasHeardPeer logs r

-- A side is lossy; either may have been marked down. The number of either node is the place by which the other knows it.
pub record AreLossyHeard (logs : BothLogs) (a b : RecordNow) : Type 0 where
  pub nodes : AreLossy a.core.facts b.core.facts
  pub near_number : a.core.facts.node.number ≡ b.place
  pub far_number : b.core.facts.node.number ≡ a.place
  pub near : IsHeardThere logs.near a
  pub far : IsHeardThere logs.far b

abbrev pub ComeInOrderOn : LinkNow → BothLogs → Type 0
ComeInOrderOn l logs = BothComeInOrder (l.facts true) (l.facts false) (kept_by l true) (kept_by l false) logs.near logs.far

-- of each key what either node's dispatchers were called with is some of what the other posted, in order, each message once
abbrev pub LossyLinksComeInOrder : Type 0
LossyLinksComeInOrder = (x : RunNow) (h g : Holding) (a b : RecordNow) (logs : BothLogs) → IsRunning x → HaveOrders x → IsLinkOf x h g a b → AreLossyHeard logs a b →
    ComeInOrderOn (link_in h g a b) logs
