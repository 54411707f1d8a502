-- What is asked of the two records of a link in a run, and what then holds: of each key what either node's dispatchers were called
-- with is the first of what the other posted. This project's own.
use Rattle.std.specs.Prelude.{◌≡◌, ℕ, ◌≤◌, true, false, List, ◌++◌, length}
use Rattle.std.specs.List.{AllByRecursion}
use Rattle.m2_channel.specs.Handing.{IsHeardOf}
use Rattle.m2_channel.specs.Observed.{Logs, all_of}
use Rattle.m2_lives.specs.m2_bytes_fit.Orders.{entries_of}
use Rattle.m2_lives.specs.m2_bytes_fit.Posts.{IsOfTypes}
use Rattle.m2_links_go_on.specs.m2_growth.Halves.{all_left}
use Rattle.m2_links_go_on.specs.m2_growth.Holding.{Holding}
use Rattle.m2_links_go_on.specs.m2_history.Delivered.{AreDelivered, AreOfOrder}
use Rattle.m2_links_go_on.specs.m2_weave.m2_journal.declared.entry.Entry.{Entry}
use Rattle.m2_links_go_on.specs.m2_weave.m2_journal.declared.entry.Entry.TheVariants as entry
use Rattle.m2_links_go_on.specs.m2_weave.m2_journal.declared.facts.PlanStep.{PlanStep}
use Rattle.m2_links_go_on.specs.m2_weave.m2_journal.declared.facts.PlanStep.TheVariants as step
use Rattle.m2_links_go_on.specs.m2_weave.m2_journal.Replay.{replay}
use Rattle.m2_links_go_on.specs.m2_weave.m2_journal.State.{State}
use Rattle.m2_channel.specs.m2_never_reset.LinkOf.{letters}
use Rattle.m2_channel.specs.m2_never_reset.Orders.{AreNodes, IsNeverReset}
use Rattle.m2_lives.specs.ObservedRun.{IsLogInLives}
use Rattle.m2_script.specs.m2_record.IsRecord.{IsReplayedTo}
use Rattle.m2_script.specs.m2_record.RecordNow.{RecordNow, speaks_of}
use Rattle.m2_links_go_on.specs.m2_history.WovenLaws.{kept_by, link_of}
use Rattle.m2_links_go_on.specs.m2_history.WovenLink.{IsOrderOf, LinkNow, order_of}

-- ---- one record

-- header and bytes of a message that is to be posted keep the ranges of their types
abbrev pub PostsInRanges : PlanStep → Type 0
PostsInRanges (step.Post m) = IsOfTypes m
PostsInRanges _ = Unit {0}

-- the entry marks nothing down
abbrev pub MarksNoneDown : Entry → Type 0
MarksNoneDown (entry.Down planned) = ⊥
MarksNoneDown _ = Unit {0}

-- by these logs the record's peer is heard to send what the record accepted, of each key the first of it
abbrev pub HasHeardPeer : Logs → RecordNow → Type 0
HasHeardPeer logs r = (s : State) → IsReplayedTo s r → IsHeardOf r.place (all_of logs) s

-- by these logs the record's peer is heard to send what the record accepted, life after life of the record
abbrev pub HasHeardInLives : Logs → RecordNow → Type 0
HasHeardInLives logs r = (s : State) → IsReplayedTo s r → IsLogInLives r.place logs s

-- a record that was never marked down, whose peer is heard by the logs of its node
pub record IsHeardUp (logs : Logs) (r : RecordNow) : Type 0 where
  pub up : AllByRecursion MarksNoneDown r.journal
  pub heard : HasHeardPeer logs r

-- ---- a link

-- two records, with the halves of either node that no record took
abbrev pub link_in : (h g : Holding) (a b : RecordNow) → LinkNow
link_in h g a b = link_of a b (all_left h.halves ++ all_left g.halves)

-- what the dispatchers of both nodes were called with
pub record BothLogs : Type 0 where
  pub near : Logs
  pub far : Logs

-- Neither side is lossy, neither was marked down, and the number of either node is the place by which the other knows it.
pub record AreLosslessUp (logs : BothLogs) (a b : RecordNow) : Type 0 where
  pub nodes : AreNodes a.core.facts b.core.facts
  pub near_number : a.core.facts.node.number ≡ b.place
  pub far_number : b.core.facts.node.number ≡ a.place
  pub near : IsHeardUp logs.near a
  pub far : IsHeardUp logs.far b

-- what the one counts as acknowledged the other has accepted
abbrev pub HasAccepted : (sender reader : RecordNow) → Type 0
HasAccepted sender reader = sender.core.live.out.queue.base ≤ length (letters (replay reader.core.facts (speaks_of reader) reader.journal).deliveries)

-- Both journals stand whole in an order of the link, in which nothing was reset. Of each key what either node's dispatchers were
-- called with is the first of what the other posted, in order, each once, and no more than was accepted.
pub record IsDeliveredOn (l : LinkNow) (logs : BothLogs) : Type 0 where
  pub order : List ℕ
  pub is_order : IsOrderOf l order
  pub journals : AreOfOrder (entries_of (order_of l order)) (kept_by l true) (kept_by l false)
  pub never_reset : IsNeverReset (l.facts true) (l.facts false) (entries_of (order_of l order))
  pub delivered : AreDelivered (l.facts true) (l.facts false) (kept_by l true) (kept_by l false) logs.near logs.far

-- and what a sender counts as acknowledged was accepted
pub record AreDeliveredOn (logs : BothLogs) (l : LinkNow) (a b : RecordNow) : Type 0 where
  pub both : IsDeliveredOn l logs
  pub near_acknowledged : HasAccepted a b
  pub far_acknowledged : HasAccepted b a
