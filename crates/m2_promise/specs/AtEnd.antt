-- Nodes of a scenario where a run of them has ended, whatever drove it. This project's own.
use Rattle.std.specs.Prelude.{◌≡◌, ℕ, ◌==◌, ◌&&◌, Bool, true, false, if◌then◌else◌, List, [], ◌∷◌, length, map, slice_get, Some}
use Rattle.std.specs.List.{AllByRecursion, flat_map, list_any}
use Rattle.m2_lives.specs.m2_bytes_fit.m2_trail.Arrivals.{LooseNow}
use Rattle.m2_dispatch.specs.Heard.{heard_by}
use Rattle.m2_dispatch.specs.declared.logged.Logged.{Logged}
use Rattle.m2_dispatch.specs.m2_policy.declared.policy.Policy.{Policy}
use Rattle.m2_links_go_on.specs.Logged.{AreOfTheirPeers, IsLogged, LoggingNow}
use Rattle.m2_links_go_on.specs.OfPeers.{AreOfPeers}
use Rattle.m2_links_go_on.specs.m2_growth.Halves.{IsOneOf}
use Rattle.m2_links_go_on.specs.m2_history.WovenLaws.{link_of}
use Rattle.m2_links_go_on.specs.m2_history.WovenLink.{IsLink, IsOrderOf, LinkNow}
use Rattle.m2_links_go_on.specs.m2_weave.m2_journal.declared.facts.PlanStep.{PlanStep}
use Rattle.m2_links_go_on.specs.m2_weave.m2_journal.declared.facts.PlanStep.TheVariants as step
use Rattle.m2_message.specs.Message.{Content, content_of}
use Rattle.m2_scenario.specs.Draft as draft
use Rattle.m2_scenario.specs.Draft.{DraftLine}
use Rattle.m2_scenario.specs.declared.link.Link.{Link}
use Rattle.m2_scenario.specs.declared.node.Node.{Node}
use Rattle.m2_script.specs.Made.{records_of}
use Rattle.m2_script.specs.Script.{RunNow}
use Rattle.m2_script.specs.m2_cluster.Node.{NodeNow}
use Rattle.m2_script.specs.m2_record.IsRecord.{IsRecord}
use Rattle.m2_script.specs.m2_record.RecordNow.{RecordNow}

-- ---- what lines and plans post and mark down

-- the messages that x posts to y, in order
abbrev pub posts_to : (x y : ℕ) → List DraftLine → List Content
posts_to x y [] = []
posts_to x y (draft.post a b m ∷ ls) = if (a == x) && (b == y) then m ∷ posts_to x y ls else posts_to x y ls
posts_to x y (_ ∷ ls) = posts_to x y ls

-- a line marks x's record towards y down
abbrev pub is_down_of : (x y : ℕ) → DraftLine → Bool
is_down_of x y (draft.down a b) = (a == x) && (b == y)
is_down_of x y _ = false

-- the messages of a plan's posts, in order
abbrev pub posts_planned : List PlanStep → List Content
posts_planned [] = []
posts_planned (step.Post m ∷ xs) = content_of m ∷ posts_planned xs
posts_planned (_ ∷ xs) = posts_planned xs

abbrev pub is_down_step : PlanStep → Bool
is_down_step step.Down = true
is_down_step _ = false

-- A record of the node at place x: its plan posts what the lines post from there to its peer, and marks it down where one of them does.
-- It may not have taken each step.
pub record IsOfLines (x : ℕ) (lines : List DraftLine) (r : RecordNow) : Type 0 where
  pub is_record : IsRecord r
  pub posts : posts_planned r.plan ≡ posts_to x r.place lines
  pub downs : list_any is_down_step r.plan ≡ list_any (is_down_of x r.place) lines

-- ---- a node

-- the place of a record's peer; the policy towards it; and of its node the number, the kinds that go fast, and the salt
pub record Named : Type 0 where
  pub place : ℕ
  pub policy : Policy
  pub number : ℕ
  pub fast : List ℕ
  pub salt : ℕ

abbrev pub named : RecordNow → Named
named r = record { place = r.place; policy = r.core.facts.policy; number = r.core.facts.node.number; fast = r.core.facts.node.fast; salt = r.core.facts.node.salt }

-- each of the one is one of the other, and the other way round
pub record HaveTheSame {X : Type 0} (xs ys : List X) : Type 0 where
  pub there : (x : X) → IsOneOf x xs → IsOneOf x ys
  pub back : (x : X) → IsOneOf x ys → IsOneOf x xs

-- The node's records and calls are those of these centers, one after another; and the dispatchers of each were called with what its records
-- handed on, and with nothing else.
pub record AreCentersOf (n : NodeNow (List Logged)) (centers : List (LoggingNow (List Logged))) : Type 0 where
  pub records : n.center.records ≡ flat_map (λ (c : LoggingNow (List Logged)). c.records) centers
  pub fast : n.center.out.fast ≡ flat_map (λ (c : LoggingNow (List Logged)). c.out.fast) centers
  pub queued : n.center.queued.inner ≡ flat_map (λ (c : LoggingNow (List Logged)). c.queued.inner) centers
  pub logged : AllByRecursion (IsLogged heard_by) centers
  pub peers : AllByRecursion (λ (c : LoggingNow (List Logged)). AreOfPeers heard_by c.records c.out c.queued) centers

-- The node at place k: its records are over its links, no two of one peer, by some word that was drawn for it; and it has centers.
pub record IsNodeAtEnd (nodes : List Node) (links : List Link) (lines : List DraftLine) (k : ℕ) (n : NodeNow (List Logged)) : Type 0 where
  pub word : ℕ
  pub named_so : HaveTheSame (map named n.center.records) (map named (records_of nodes links k word))
  pub distinct : AreOfTheirPeers n.center.records
  pub of_lines : AllByRecursion (IsOfLines k lines) n.center.records
  pub centers : List (LoggingNow (List Logged))
  pub are : AreCentersOf n centers

-- ---- all of them

-- which halves that no record took are looked at beside a link, by its two nodes
abbrev pub Beside : Type 0
Beside = NodeNow (List Logged) → NodeNow (List Logged) → List LooseNow

-- two records and these halves are a link, of which all that was done has an order
pub record IsLinkInOrder (x : LinkNow) : Type 0 where
  pub is_link : IsLink x
  pub order : List ℕ
  pub is_order : IsOrderOf x order

-- two records of two nodes that are towards each other
pub record AreFacing (s : RunNow (List Logged)) (i j : ℕ) (n m : NodeNow (List Logged)) (a b : RecordNow) : Type 0 where
  pub near_there : slice_get s.cluster.nodes i ≡ Some n
  pub far_there : slice_get s.cluster.nodes j ≡ Some m
  pub a_at : ℕ
  pub b_at : ℕ
  pub a_there : slice_get n.center.records a_at ≡ Some a
  pub b_there : slice_get m.center.records b_at ≡ Some b
  pub a_towards : a.place ≡ j
  pub b_towards : b.place ≡ i

-- A run of these nodes has ended, each as the scenario says; and the two records over each of its links are one, in order.
pub record AreAtEnd (nodes : List Node) (links : List Link) (lines : List DraftLine) (beside : Beside) (s : RunNow (List Logged)) : Type 0 where
  pub count : length s.cluster.nodes ≡ length nodes
  pub each : (k : ℕ) (n : NodeNow (List Logged)) → slice_get s.cluster.nodes k ≡ Some n → IsNodeAtEnd nodes links lines k n
  pub in_order : (l : Link) (n m : NodeNow (List Logged)) (a b : RecordNow) → IsOneOf l links → AreFacing s l.a l.b n m a b → IsLinkInOrder (link_of a b (beside n m))
