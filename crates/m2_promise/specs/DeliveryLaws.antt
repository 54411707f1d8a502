-- What is promised of the links of a run.
use Rattle.std.specs.Prelude.{ℕ, List}
use Rattle.std.specs.List.{AllByRecursion}
use Rattle.m2_dispatch.specs.Heard.{Heard}
use Rattle.m2_dispatch.specs.Dispatch.{Queued}
use Rattle.m2_links_go_on.specs.m2_growth.Holding.{Holding}
use Rattle.m2_links_go_on.specs.Logged.{IsLogged, logging, logs_in}
use Rattle.m2_script.specs.m2_record.RecordNow.{RecordNow}
use Rattle.m2_promise.specs.Running.{HaveOrders, IsLinkOf, IsRunning, RunNow}
use Rattle.m2_script.specs.m2_center.m2_turn.Outbox.{OutboxNow}
use Rattle.m2_links_go_on.specs.Sides.{woven_now}
use Rattle.m2_links_go_on.specs.m2_weave.TurnLaws.{HasOrder}
use Rattle.m2_links_go_on.specs.m2_history.WovenLink.{IsLink, IsOrderOf, LinkNow}
use Rattle.m2_promise.specs.Delivered.{AreDeliveredOn, AreLosslessUp, BothLogs, HasHeardPeer, PostsInRanges, link_in}

-- ---- links

-- two records that are towards each other are a link, with the halves that no record took
abbrev pub RunsHaveLinks : Type 0
RunsHaveLinks = (x : RunNow) (h g : Holding) (a b : RecordNow) → IsRunning x → IsLinkOf x h g a b → AllByRecursion PostsInRanges a.plan → AllByRecursion PostsInRanges b.plan →
    IsLink (link_in h g a b)

-- an order of all that was done on it is one by the bytes of its ends
abbrev pub LinksHaveOrders : Type 0
LinksHaveOrders = (l : LinkNow) → HasOrder (woven_now l.both) → (order : List ℕ) × IsOrderOf l order

-- so of each key what either node's dispatchers were called with is the first of what the other posted
abbrev pub LinksAreDelivered : Type 0
LinksAreDelivered = (x : RunNow) (h g : Holding) (a b : RecordNow) (logs : BothLogs) → IsRunning x → HaveOrders x → IsLinkOf x h g a b →
    AllByRecursion PostsInRanges a.plan → AllByRecursion PostsInRanges b.plan → AreLosslessUp logs a b → AreDeliveredOn logs (link_in h g a b) a b

-- ---- logs

-- where a node's dispatchers were called with what its records handed on, each record's peer is heard so
abbrev pub LoggedHaveHeard : Type 0 → Type 0
LoggedHaveHeard D = (heard : D → List Heard) (records : List RecordNow) (out : OutboxNow D) (queued : Queued D) → IsLogged heard (logging records out queued) →
    AllByRecursion (HasHeardPeer (logs_in heard (logging records out queued))) records
