-- What a node holds of what its throttles have granted, and that each throttle's word is just that. That grants go along with their
-- message until this is dispatched or thrown away is Ceph's rule; the rest is this project's own.
use Rattle.std.specs.Prelude.{◌≡◌, ℕ, ◌+◌, true, List, [], ◌∷◌, length, sum_by, Ok, Err, ◌⊎◌}
use Rattle.std.specs.Option.{is_some}
use Rattle.std.specs.List.{AllByRecursion}
use Rattle.m2_dispatch.specs.Heard.{Heard, heard_by}
use Rattle.m2_dispatch.specs.Letters.{granted}
use Rattle.m2_dispatch.specs.m2_shared.Place.{IsAlone}
use Rattle.m2_dispatch.specs.m2_shared.Gates.{Gate, Places, places, words}
use Rattle.m2_dispatch.specs.m2_shared.declared.throttles.Throttles.{Throttles}
use Rattle.m2_dispatch.specs.declared.logged.Logged.{Logged}
use Rattle.m2_scenario.specs.declared.line.Line.{Line}
use Rattle.m2_scenario.specs.declared.link.Link.{Link}
use Rattle.m2_scenario.specs.declared.node.Node.{Node}
use Rattle.m2_script.specs.Script.{Deed, Happens, RunNow, script_of}
use Rattle.m2_script.specs.Started.{IsFirst, IsScriptRun}
use Rattle.m2_fabric.specs.m2_bytes.declared.memory.NoMemory as memory
use Rattle.m2_script.specs.m2_center.Center.{CenterNow}
use Rattle.m2_script.specs.m2_center.CenterTurn.{TakesTurn}
use Rattle.m2_script.specs.m2_center.Plans.{PlansIn}
use Rattle.m2_script.specs.m2_center.m2_core.LiveNow.{HoldsNothing, LiveNow, asked_on, is_ready}
use Rattle.m2_script.specs.m2_center.m2_feed.m2_journal.Laws.{SessionIsSound}
use Rattle.m2_script.specs.m2_center.m2_feed.m2_journal.SideFacts.{SideFacts}
use Rattle.m2_script.specs.m2_center.m2_record.Calls.{all_held}
use Rattle.m2_script.specs.m2_center.m2_record.RecordNow.{RecordNow}
use Rattle.m2_script.specs.m2_center.m2_turn.Outbox.{granted_in}
use Rattle.m2_script.specs.m2_center.m2_turn.RecordTurn.{Means}
use Rattle.m2_script.specs.m2_cluster.Node.{NodeNow}
use Rattle.m2_script.specs.m2_center.m2_feed.m2_journal.declared.facts.PlanStep.{PlanStep}

-- ---- how much is held

-- at a gate, by a record: for the MESSAGE that isn't finished, and for the letters among the parcels that are ready
abbrev pub held_in_record : Gate → RecordNow → ℕ
held_in_record gate r = all_held r gate

abbrev pub held_in_records : Gate → List RecordNow → ℕ
held_in_records gate rs = sum_by (held_in_record gate) rs

-- by a center: by its records, where their parcels go, and in its queue
abbrev pub held_in_center : {D : Type 0} → Gate → CenterNow D → ℕ
held_in_center gate c = held_in_records gate c.records + (granted_in c.out gate + granted c.queued.waiting gate)

-- ---- where something may be held for a feed

-- In Ready, where a MESSAGE stands at the feed's front. The session has the cookies of its policy then.
pub record MayHold (f : SideFacts) (l : LiveNow) : Type 0 where
  pub ready : is_ready l ≡ true
  pub asked : is_some (asked_on l.feed) ≡ true
  pub session : SessionIsSound f l.session

-- something is held there alone
abbrev pub IsHeldRightly : SideFacts → LiveNow → Type 0
IsHeldRightly f l = HoldsNothing l.granted ⊎ MayHold f l

abbrev pub HoldsRightly : RecordNow → Type 0
HoldsRightly r = IsHeldRightly r.core.facts r.core.live

-- ---- the word

-- Each word of a center's passes is just what the center holds, and each of its records holds rightly.
pub record HoldsItsWord {D : Type 0} (c : CenterNow D) : Type 0 where
  pub word : (gate : Gate) → words c.bytes gate ≡ held_in_center gate c
  pub records : AllByRecursion HoldsRightly c.records

-- no throttle is another thread's
abbrev pub AreAlone : Places → Type 0
AreAlone places = (gate : Gate) → IsAlone (places gate)

-- The same of a node, whose throttles are no thread's but its own.
pub record NodeHoldsItsWord {D : Type 0} (n : NodeNow D) : Type 0 where
  pub alone : AreAlone (places n.throttles)
  pub center : HoldsItsWord n.center

-- Behind each turn of a center each word is what it holds, also where memory ran out in it, if it was so before and no thread shares
-- one; and so it is behind a step that is planned.
pub record CentersHoldTheirWords (E D : Type 0) (heard : D → List Heard) : Type 0 where
  pub turns : (m : Means) (old new : CenterNow D) → AreAlone (places m.throttles) → HoldsItsWord old → TakesTurn E heard m (Ok tt) old new → HoldsItsWord new
  pub lacks : (m : Means) (e : memory.NoMemory) (old new : CenterNow D) → AreAlone (places m.throttles) → HoldsItsWord old → TakesTurn E heard m (Err e) old new → (gate : Gate) → words new.bytes gate ≡ held_in_center gate new
  pub plans : (peer : ℕ) (x : PlanStep) (now : ℕ) (throttles : Throttles) (old new : CenterNow D) → AreAlone (places throttles) → HoldsItsWord old → PlansIn (Ok tt) peer x now throttles old new → HoldsItsWord new

-- ---- a run

abbrev pub NodesHoldTheirWords : {D : Type 0} → RunNow D → Type 0
NodesHoldTheirWords s = AllByRecursion NodeHoldsItsWord s.cluster.nodes

-- so it is behind each of these deeds, whatever those before it have come to
abbrev pub WordsStayHeld : {D : Type 0} → (E : Type 0) → (D → List Heard) → List Deed → RunNow D → Type 0
WordsStayHeld E heard [] s = Unit {0}
WordsStayHeld {D} E heard (d ∷ ds) s = (behind : RunNow D) → Happens E heard (Ok tt) d s behind → NodesHoldTheirWords behind × WordsStayHeld E heard ds behind

-- Each deed of a run in memory keeps it so at each node. Before the first line of a scenario nothing is held, and no word says otherwise:
-- so it is so behind each deed of its script.
pub record RunsHoldTheirWords (E D : Type 0) (heard : D → List Heard) : Type 0 where
  pub deeds : (d : Deed) (old new : RunNow D) → NodesHoldTheirWords old → Happens E heard (Ok tt) d old new → NodesHoldTheirWords new
  pub first : (nodes : List Node) (links : List Link) (lines : List Line) (s : RunNow (List Logged)) → IsFirst nodes links lines s → NodesHoldTheirWords s
  pub along : (nodes : List Node) (links : List Link) (lines : List Line) (s : RunNow (List Logged)) → IsFirst nodes links lines s →
      WordsStayHeld E heard_by (script_of links (length nodes) lines) s
  pub runs : (nodes : List Node) (links : List Link) (lines : List Line) (first last : RunNow (List Logged)) → IsScriptRun E nodes links lines first last → NodesHoldTheirWords last
