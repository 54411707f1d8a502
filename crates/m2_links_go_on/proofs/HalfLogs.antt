-- Records that grow and hand nothing on: their halves take turns, or a step is planned. What the dispatchers have of their peers is
-- what they handed on still.
use Rattle.std.proofs.Common.{◌≡◌, inl, inr, ℕ, ◌==◌, List, [], ◌∷◌, map, Some, Result, Ok, Err, refl, sym, ap, subst, ◌∙◌}
use Rattle.std.specs.List.{AllByRecursion, IsDistinct}
use Rattle.m2_fabric.specs.m2_bytes.declared.memory.NoMemory as memory
use Rattle.m2_dispatch.specs.Heard.{Heard}
use Rattle.m2_dispatch.specs.Dispatch.{Queued}
use Rattle.m2_fabric.specs.Port.{SeenPort}
use Rattle.m2_weave.specs.m2_journal.declared.facts.PlanStep.{PlanStep}
use Rattle.m2_history.specs.m2_record.Calls.{planned_too}
use Rattle.m2_history.specs.m2_record.IsRecord.{IsRecord}
use Rattle.m2_history.specs.m2_record.RecordNow.{RecordNow}
use Rattle.m2_cluster.specs.m2_center.m2_turn.Halves.{AllHalves, halves_of}
use Rattle.m2_cluster.specs.m2_center.m2_turn.Outbox.{OutboxNow}
use Rattle.m2_cluster.specs.m2_center.m2_turn.Planning.{PlansNow}
use Rattle.m2_growth.specs.Holding.{AreOwn, Grows}
use Rattle.m2_cluster.specs.m2_center.Center.{CenterNow}
use Rattle.m2_cluster.specs.m2_center.CenterTurn.{Answer}
use Rattle.m2_growth.specs.GrowthLaws.{PlansAt, at_plans}
use Rattle.m2_growth.specs.Records.{RecordsGrow}
use Rattle.m2_growth.proofs.HalfTurns.{halves_grow}
use Rattle.m2_growth.proofs.OneRecord.{holding}
use Rattle.m2_growth.proofs.Plans.{plans_grow}
use Rattle.m2_links_go_on.specs.LogLaws.{HalvesStayLogged, PlansStayLogged}
use Rattle.m2_links_go_on.specs.Logged.{AreOfTheirPeers, IsLogged, logging}
use Rattle.m2_cluster.proofs.m2_center.m2_turn.Handed as handed
use Rattle.m2_cluster.proofs.m2_center.m2_turn.Handed.{HandsNone}
use Rattle.m2_links_go_on.proofs.Judged.{HandNone, halves_hand_none, none_set}
use Rattle.m2_links_go_on.proofs.Lagging.{all_follow, all_followed, all_lag, place_of}

places_still : (rs ss : List RecordNow) → RecordsGrow rs ss → map place_of ss ≡ map place_of rs
places_still [] [] g = refl
places_still (r ∷ rs) (s ∷ ss) g = ap (λ p. p ∷ map place_of ss) g.0.place ∙ ap (λ l. r.place ∷ l) (places_still rs ss g.1)
places_still [] (s ∷ ss) g = absurd g
places_still (r ∷ rs) [] g = absurd g

pub peers_still : (rs ss : List RecordNow) → RecordsGrow rs ss → AreOfTheirPeers rs → AreOfTheirPeers ss
peers_still rs ss grow peers = subst (IsDistinct (λ (a b : ℕ). a == b)) (sym (places_still rs ss grow)) peers

-- all of them together
all_still : {D : Type 0} (heard : D → List Heard) (out : OutboxNow D) (queued : Queued D) (p q : SeenPort) (old new : AllHalves) (rs ss : List RecordNow) → AreOwn (holding p rs old) →
    Grows (holding p rs old) (holding q ss new) → HandNone rs ss → AllByRecursion IsRecord rs → AllByRecursion IsRecord ss → IsLogged heard (logging rs out queued) → IsLogged heard (logging ss out queued)
all_still heard out queued p q old new rs ss own grown none are later l = record {
  peers = peers_still rs ss grown.grows.records l.peers;
  calls = l.calls;
  queue = l.queue;
  each = all_followed heard l.calls (holding p rs old) q [] ss new out grown later
      (all_follow heard l.calls (holding p rs old) out ss (all_lag heard l.calls p rs ss old out own are l.each grown.grows.records none));
}

pub halves_stay_logged : {D : Type 0} (E : Type 0) → HalvesStayLogged D E
halves_stay_logged E heard result m port out queued old new t own are later l =
    all_still heard out queued port port (halves_of old.halves old.loose) (halves_of new.halves new.loose) old.homes.records new.homes.records own
    (halves_grow E result m port old new t own) (halves_hand_none E result m old new t) are later l

-- ---- a step that is planned

plans_none : (result : Result (Unit {0}) memory.NoMemory) (x : PlanStep) (now : ℕ) (old new : RecordNow) → PlansNow result x now old new → HandsNone old new
plans_none (Ok u) x now old new t = handed.plans (Some x) (Ok tt) now (planned_too x t.mid) new t.takes ∙ ap (λ r. r.handed) t.room
plans_none (Err u) x now old new (inl e) = ap (λ r. r.handed) e
plans_none (Err u) x now old new (inr e) = ap (λ r. r.handed) e

plans_logged : {D : Type 0} (heard : D → List Heard) (result : Answer) (x : PlanStep) (now : ℕ) (port : SeenPort) (halves : AllHalves) (out : OutboxNow D) (queued : Queued D) (old new : List RecordNow) → PlansAt result x now old new →
    AreOwn (at_plans port halves old) → AllByRecursion IsRecord old → AllByRecursion IsRecord new → IsLogged heard (logging old out queued) → IsLogged heard (logging new out queued)
plans_logged heard result x now port halves out queued old new p own are later l =
    all_still heard out queued port port halves halves old new own
    (plans_grow result x now port halves old new p own)
    (subst (HandNone old) (sym p.records) (none_set old p.place p.before p.behind p.side (plans_none result x now p.before p.behind p.plans))) are later l

pub plans_stay_logged : {D : Type 0} → PlansStayLogged D
plans_stay_logged {D} heard result peer x now throttle old new p own are later l =
    subst (λ o. IsLogged heard (logging new.records o new.queued)) (sym (ap (λ (c : CenterNow D). c.out) p.only))
    (subst (λ q. IsLogged heard (logging new.records old.out q)) (sym (ap (λ (c : CenterNow D). c.queued) p.only))
    (plans_logged heard result x now old.port old.halves old.out old.queued old.records new.records
    (record { place = p.place; before = p.before; behind = p.behind; side = p.side; plans = p.plans; records = ap (λ (c : CenterNow D). c.records) p.only }) own are later l))
