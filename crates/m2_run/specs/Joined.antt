-- That each link of a kept run that has a history is a link as weaving asks for one. This project's own.
use Rattle.std.specs.Prelude.{◌≡◌, ◌⊎◌, ℕ, true, false, List, map, slice_get, Some, Ok}
use Rattle.std.specs.List.{AllByRecursion}
use Rattle.m2_fabric.specs.Fabric.{SeenFabric}
use Rattle.m2_node.specs.m2_links_go_on.m2_growth.m2_bytes_fit.Orders.{entries_of}
use Rattle.m2_node.specs.m2_links_go_on.m2_growth.m2_bytes_fit.Posts.{IsOfTypes}
use Rattle.m2_node.specs.m2_links_go_on.m2_history.Counted.{logs_of}
use Rattle.m2_node.specs.m2_links_go_on.m2_history.Link.{WeavesRecords, both_of}
use Rattle.m2_node.specs.m2_links_go_on.m2_history.Lossy.{IsWovenInOrder}
use Rattle.m2_node.specs.m2_links_go_on.m2_history.Marked.{IsWovenToAMark}
use Rattle.m2_node.specs.m2_links_go_on.m2_history.WovenLaws.{IsWovenDelivered, link_of, strands_in}
use Rattle.m2_node.specs.m2_links_go_on.m2_history.WovenLink.{AreUp, IsLink, IsOrderOf, LinkNow, order_of}
use Rattle.m2_node.specs.m2_links_go_on.m2_history.declared.history.History.{History}
use Rattle.m2_node.specs.m2_links_go_on.m2_history.m2_channel.m2_never_reset.Orders.{IsNeverReset}
use Rattle.m2_node.specs.m2_script.m2_record.RecordNow.{RecordNow}
use Rattle.m2_scenario.specs.Draft.{draft_line}
use Rattle.m2_scenario.specs.Valid.{IsSound}
use Rattle.m2_scenario.specs.declared.line.Line.{Line}
use Rattle.m2_scenario.specs.declared.line.Line.TheVariants as line
use Rattle.m2_scenario.specs.declared.link.Link.{Link}
use Rattle.m2_scenario.specs.declared.node.Node.{Node}
use Rattle.m2_run.specs.Kept.{IsKeptRun}
use Rattle.m2_run.specs.Ran.{HasRan}
use Rattle.m2_node.specs.Nodes.{KeptNow}
use Rattle.m2_run.specs.Rests.{AreEndsOf, EndedCenterNow, EndedNow, loose_of}
use Rattle.m2_run.specs.Weaving.{IsLinkOf}
use Rattle.m2_run.specs.declared.outcome.Outcome.{Outcome}

-- ---- lines

-- header and bytes of a message that is posted keep the ranges of their types
abbrev pub PostsOfTypes : Line → Type 0
PostsOfTypes (line.Post a b message) = IsOfTypes message
PostsOfTypes _ = Unit {0}

-- ---- a run and its links

-- a kept run of a valid scenario, and what is left of its nodes
pub record IsRunOf (may_give : ℕ → Type 0) (nodes : List Node) (links : List Link) (lines : List Line) (kept : List KeptNow) (ends : List EndedNow) : Type 0 where
  pub sound : IsSound nodes links (map draft_line lines)
  pub posts : AllByRecursion PostsOfTypes lines
  pub start : ℕ
  pub stop : ℕ
  pub old : SeenFabric
  pub new : SeenFabric
  pub run : IsKeptRun may_give nodes links lines kept start stop old new
  pub left : AreEndsOf kept ends

-- Two records of it are those of a link of the scenario, and all that they and the halves that no record took did has an order.
pub record AreWoven (kept : List KeptNow) (ends : List EndedNow) (links : List Link) (a b : RecordNow) : Type 0 where
  pub place : ℕ
  pub link : Link
  pub there : slice_get links place ≡ Some link
  pub near : EndedCenterNow
  pub far : EndedCenterNow
  pub is_of : IsLinkOf ends link near far a b
  pub history : History
  pub weaves : WeavesRecords (Ok history) (both_of a b (loose_of kept))

-- So they are a link as weaving asks for one: what `IsUnreset`, `IsDeliveredIn`, `IsToAMarkIn` and `IsInOrderIn` of a history want to
-- be joined is.
abbrev pub KeptLinksAreJoined : (C : Type 0) → (may_give : C → ℕ → Type 0) → Type 0
KeptLinksAreJoined C may_give = (clock : C) (nodes : List Node) (links : List Link) (lines : List Line) (kept : List KeptNow) (ends : List EndedNow) (a b : RecordNow) →
    IsRunOf (may_give clock) nodes links lines kept ends → AreWoven kept ends links a b → IsLink (link_of a b (loose_of kept))

-- a link as weaving asks for one, of which a history is an order of all that was done
pub record IsJoinedBy (l : LinkNow) (h : History) : Type 0 where
  pub is_link : IsLink l
  pub is_order : IsOrderOf l (strands_in h)

-- And each link is one of which a run that is told has the history.
abbrev pub RunsAreJoined : (C : Type 0) → (may_give : C → ℕ → Type 0) → Type 0
RunsAreJoined C may_give = (clock : C) (limit : ℕ) (nodes : List Node) (links : List Link) (lines : List Line) (old new : SeenFabric) (o : Outcome) →
    IsSound nodes links (map draft_line lines) → AllByRecursion PostsOfTypes lines → (ran : HasRan (may_give clock) limit nodes links lines old new o) →
    (place : ℕ) (l : Link) (there : slice_get links place ≡ Some l) → let h = ran.woven place l there in IsJoinedBy (link_of h.a h.b (loose_of ran.kept)) h.history

-- ---- what follows

-- By a link's history, with what the dispatchers of its nodes were called with: before the first mark-down nothing is reset, and of each
-- key what was dispatched is the first of what was posted; and where neither node marks its side down, so it is of all of it.
pub record IsPromisedIn (l : LinkNow) (near far : EndedCenterNow) (h : History) : Type 0 where
  pub to_a_mark : IsWovenToAMark l (strands_in h) (logs_of near.fast near.queued) (logs_of far.fast far.queued)
  pub never_reset : AreUp l → IsNeverReset (l.facts true) (l.facts false) (entries_of (order_of l (strands_in h)))
  pub delivered : AreUp l → IsWovenDelivered l (strands_in h) (logs_of near.fast near.queued) (logs_of far.fast far.queued)

-- So it is of each link of a run that is told which is lossless on both sides.
abbrev pub RunsAreNeverReset : (C : Type 0) → (may_give : C → ℕ → Type 0) → Type 0
RunsAreNeverReset C may_give = (clock : C) (limit : ℕ) (nodes : List Node) (links : List Link) (lines : List Line) (old new : SeenFabric) (o : Outcome) →
    IsSound nodes links (map draft_line lines) → AllByRecursion PostsOfTypes lines → (ran : HasRan (may_give clock) limit nodes links lines old new o) →
    (place : ℕ) (l : Link) (there : slice_get links place ≡ Some l) → l.of_a.lossy ≡ false → l.of_b.lossy ≡ false →
    let h = ran.woven place l there in IsPromisedIn (link_of h.a h.b (loose_of ran.kept)) h.near h.far h.history

-- Of one that is lossy on either side, of each key what was dispatched is some of what was posted, in order, each message once.
abbrev pub LossyLinksComeInOrder : (C : Type 0) → (may_give : C → ℕ → Type 0) → Type 0
LossyLinksComeInOrder C may_give = (clock : C) (limit : ℕ) (nodes : List Node) (links : List Link) (lines : List Line) (old new : SeenFabric) (o : Outcome) →
    IsSound nodes links (map draft_line lines) → AllByRecursion PostsOfTypes lines → (ran : HasRan (may_give clock) limit nodes links lines old new o) →
    (place : ℕ) (l : Link) (there : slice_get links place ≡ Some l) → (l.of_a.lossy ≡ true) ⊎ (l.of_b.lossy ≡ true) →
    let h = ran.woven place l there in IsWovenInOrder (link_of h.a h.b (loose_of ran.kept)) (strands_in h.history) (logs_of h.near.fast h.near.queued) (logs_of h.far.fast h.far.queued)
