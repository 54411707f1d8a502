-- A node of which a record plans a step and takes it: it is kept still, and the plan of that record alone goes on.
use Rattle.std.proofs.Common.{◌≡◌, ℕ, ◌==◌, ◌&&◌, ◌+◌, zero, suc, Bool, true, false, if◌then◌else◌, List, [], ◌∷◌, ◌++◌, map, Some, Ok, refl, sym, ap, subst, ◌∙◌}
use Rattle.std.specs.Prelude.{slice_get, slice_set}
use Rattle.std.specs.List.{AllByRecursion, IsDistinct}
use Rattle.std.proofs.lemmas.Bool.{eq-eqb, eqb-true}
use Rattle.std.proofs.lemmas.List.Quantifiers.{position-Some}
use Rattle.std.proofs.lemmas.Option.{get_or_from_slice_get}
use Rattle.m2_dispatch.specs.Heard.{Heard}
use Rattle.m2_links_go_on.specs.m2_weave.m2_journal.declared.facts.PlanStep.{PlanStep}
use Rattle.m2_links_go_on.specs.m2_weave.m2_journal.declared.facts.PlanStep.TheVariants as step
use Rattle.m2_script.specs.m2_record.Calls.{TakesNext, planned_too}
use Rattle.m2_script.specs.m2_record.RecordNow.{RecordNow}
use Rattle.m2_script.specs.m2_center.m2_turn.Planning.{TakesNew}
use Rattle.m2_script.specs.m2_center.Center.{CenterNow}
use Rattle.m2_script.specs.m2_center.Plans.{is_towards}
use Rattle.m2_script.specs.m2_cluster.Node.{IsWholeNode, NodeNow, NodePlans}
use Rattle.m2_links_go_on.specs.m2_growth.Holding.{AreOwn}
use Rattle.m2_links_go_on.specs.Center.{holding_of}
use Rattle.m2_links_go_on.specs.ClusterTold.{OneByOne}
use Rattle.m2_links_go_on.specs.Logged.{AreOfTheirPeers}
use Rattle.m2_links_go_on.proofs.Lagging.{place_of}
use Rattle.m2_links_go_on.proofs.HalfLogs.{plans_stay_logged}
use Rattle.m2_script.specs.Made.{side_of}
use Rattle.m2_script.specs.Script.{plan}
use Rattle.m2_promise.specs.Planned.{GoesOnBy, IsKeptNode, IsTaken, steps_for}
use Rattle.m2_links_go_on.proofs.PeerTurns.{plans_stay_of_peers}
use Rattle.m2_promise.proofs.PlanLists.{all_at, all_set}
use Rattle.m2_promise.proofs.Nodes.{goes_on_still, same_side}
use Rattle.m2_promise.proofs.Taken.{taken_further}
use Rattle.m2_fabric.proofs.m2_lemmas.Numbers.{unlike_turned}

-- ---- the record

-- it has its peer and its facts, and a step more was planned and taken
record TakesMore (x : PlanStep) (old new : RecordNow) : Type 0 where
  side : side_of new ≡ side_of old
  plan : new.plan ≡ old.plan ++ x ∷ []
  steps : new.steps ≡ old.steps + 1

-- it is its plan's last
takes_last : (x : PlanStep) (now : ℕ) (mid new : RecordNow) → TakesNext (Some x) (Ok tt) now (planned_too x mid) new → TakesMore x mid new
takes_last (step.Post m) now mid new e = record { side = ap side_of e; plan = ap (λ r. r.plan) e; steps = ap (λ r. r.steps) e }
takes_last step.Dial now mid new e = record { side = ap side_of e; plan = ap (λ r. r.plan) e; steps = ap (λ r. r.steps) e }
takes_last step.Down now mid new e = record { side = ap side_of e; plan = ap (λ r. r.plan) e; steps = ap (λ r. r.steps) e }

takes_more : (x : PlanStep) (now : ℕ) (old new : RecordNow) → TakesNew x now old new → TakesMore x old new
takes_more x now old new t =
    let last = takes_last x now t.mid new t.takes in
    record {
      side = last.side ∙ ap side_of t.room;
      plan = last.plan ∙ ap (λ r. r.plan ++ x ∷ []) t.room;
      steps = last.steps ∙ ap (λ r. r.steps + 1) t.room;
    }

-- ---- what the deed plans

-- at node i for its record towards node b, and for no other record there
planned_here : (i b place : ℕ) (x : PlanStep) → b ≡ place → steps_for i place (plan i b x ∷ []) ≡ x ∷ []
planned_here i b place x e =
    ap (λ c. if c && (b == place) then x ∷ [] else []) (eq-eqb i i refl) ∙ ap (λ c. if c then x ∷ [] else []) (eq-eqb b place e)

none_for : (i b place : ℕ) (x : PlanStep) → (b == place) ≡ false → steps_for i place (plan i b x ∷ []) ≡ []
none_for i b place x e = at (i == i) (b == place) e
  where
    at : (c d : Bool) → d ≡ false → (if c && d then x ∷ [] else []) ≡ []
    at true d e = ap (λ d. if d then x ∷ [] else []) e
    at false d e = refl

-- ---- among the others

at_place : (P : ℕ → Type 0) (rs : List RecordNow) (k : ℕ) (side : RecordNow) → slice_get rs k ≡ Some side → AllByRecursion P (map place_of rs) → P side.place
at_place P [] k side e all = absurd cc
at_place P (r ∷ rs) zero side e all = let same : r ≡ side = cc in subst (λ (x : RecordNow). P x.place) same all.0
at_place P (r ∷ rs) (suc k) side e all = at_place P rs k side e all.1

module _ (i b : ℕ) (x : PlanStep) where
  abbrev Goes : RecordNow → RecordNow → Type 0
  Goes r s = GoesOnBy i (plan i b x ∷ []) r s

  one_goes : (r s : RecordNow) → b ≡ r.place → TakesMore x r s → Goes r s
  one_goes r s e t = record { side = t.side; plan = t.plan ∙ ap (λ l. r.plan ++ l) (sym (planned_here i b r.place x e)) }

  other_goes : (r : RecordNow) → (b == r.place) ≡ false → Goes r r
  other_goes r e = goes_on_still i (plan i b x ∷ []) r r (none_for i b r.place x e) (same_side r)

  others_go : (rs : List RecordNow) → AllByRecursion (λ p. (b == p) ≡ false) (map place_of rs) → OneByOne Goes rs rs
  others_go [] all = tt
  others_go (r ∷ rs) all = (other_goes r all.0, others_go rs all.1)

  all_go : (rs : List RecordNow) (k : ℕ) (side behind : RecordNow) → slice_get rs k ≡ Some side → b ≡ side.place → AreOfTheirPeers rs → TakesMore x side behind →
      OneByOne Goes rs (slice_set rs k behind)
  unfolding IsDistinct
  all_go [] k side behind e towards apart t = absurd cc
  all_go (r ∷ rs) zero side behind e towards apart t =
      let same : side ≡ r = cc in
      let here : b ≡ r.place = towards ∙ ap place_of same in (
        one_goes r behind here (subst (λ y. TakesMore x y behind) same t),
        others_go rs (subst (λ p. AllByRecursion (λ q. (p == q) ≡ false) (map place_of rs)) (sym here) apart.0),
      )
  all_go (r ∷ rs) (suc k) side behind e towards apart t = (
    other_goes r (ap (λ p. p == r.place) towards ∙ unlike_turned r.place side.place (at_place (λ q. (r.place == q) ≡ false) rs k side e apart.0)),
    all_go rs k side behind e towards apart.1 t,
  )

-- ---- a node

pub record PlansMore {D : Type 0} (heard : D → List Heard) (i b : ℕ) (x : PlanStep) (old new : NodeNow D) : Type 0 where
  pub kept : IsKeptNode heard new
  pub plans : OneByOne (GoesOnBy i (plan i b x ∷ [])) old.center.records new.center.records

pub plan_stays_kept : {D : Type 0} (heard : D → List Heard) (i b : ℕ) (x : PlanStep) (now : ℕ) (old new : NodeNow D) → NodePlans (Ok tt) b x now old new →
    AreOwn (holding_of old.center) → IsWholeNode old → IsWholeNode new → IsKeptNode heard old → PlansMore heard i b x old new
plan_stays_kept {D} heard i b x now old new p own whole later kept = record {
  kept = record {
    logged = plans_stay_logged heard (Ok tt) b x now old.throttles old.center new.center p.plans own whole.records later.records kept.logged;
    taken = subst (AllByRecursion IsTaken) (sym records)
        (all_set IsTaken old.center.records p.plans.place p.plans.behind kept.taken (taken_further x p.plans.before p.plans.behind more.plan more.steps was_taken));
    peers = plans_stay_of_peers heard (Ok tt) b x now old.throttles old.center new.center p.plans kept.peers;
  };
  plans = subst (OneByOne (GoesOnBy i (plan i b x ∷ [])) old.center.records) (sym records)
      (all_go i b x old.center.records p.plans.place p.plans.before p.plans.behind p.plans.side towards kept.logged.peers more);
}
  where
    records : new.center.records ≡ slice_set old.center.records p.plans.place p.plans.behind
    records = ap (λ (c : CenterNow D). c.records) p.plans.only

    more : TakesMore x p.plans.before p.plans.behind
    more = takes_more x now p.plans.before p.plans.behind p.plans.plans

    was_taken : IsTaken p.plans.before
    was_taken = all_at IsTaken old.center.records p.plans.place p.plans.before p.plans.side kept.taken

    -- the first record towards the peer is one towards it
    towards : b ≡ p.plans.before.place
    towards =
        let found = position-Some (is_towards b) old.center.records p.plans.place p.plans.before p.plans.first in
        let there = get_or_from_slice_get old.center.records p.plans.place p.plans.before p.plans.before p.plans.side in
        sym (eqb-true p.plans.before.place b (sym (ap (is_towards b) there) ∙ found.1))
