-- Deeds: behind each of them nodes are kept still, and plans go on by it.
use Rattle.std.proofs.Common.{◌≡◌, inl, inr, ◌⊎◌, ℕ, ◌==◌, ◌&&◌, false, if◌then◌else◌, List, [], ◌∷◌, length, Some, Ok, refl, sym, ap, subst, ◌∙◌}
use Rattle.std.specs.Prelude.{slice_get, slice_set}
use Rattle.std.specs.List.{AllByRecursion}
use Rattle.std.proofs.lemmas.List.{length-set}
use Rattle.m2_dispatch.specs.Heard.{Heard}
use Rattle.m2_links_go_on.specs.m2_weave.m2_journal.declared.facts.PlanStep.{PlanStep}
use Rattle.m2_script.specs.m2_record.RecordNow.{RecordNow}
use Rattle.m2_script.specs.m2_cluster.Cluster.{ClusterNow, OneDoes, rest_of}
use Rattle.m2_script.specs.m2_cluster.Node.{IsWholeNode, NodeNow, NodePlans, NodeTurns, rest_of_node}
use Rattle.m2_links_go_on.specs.m2_growth.Holding.{AreOwn}
use Rattle.m2_links_go_on.specs.Center.{holding_of}
use Rattle.m2_links_go_on.specs.Cluster.{AllOwn}
use Rattle.m2_links_go_on.specs.ClusterTold.{OneByOne}
use Rattle.m2_links_go_on.proofs.Untold.{zipped}
use Rattle.m2_script.specs.Script.{Deed, PlansStep, RunNow, TakesTurn, fault, flow, meet, plan, turn}
use Rattle.m2_promise.specs.PlanLaws.{DeedsKeepNodes}
use Rattle.m2_promise.specs.Planned.{AllKept, GoesOnBy, IsKeptNode, PlansGoOn, steps_for}
use Rattle.m2_promise.proofs.PlanLists.{all_at, all_over, all_set, each_at, each_length, each_same, each_so, get_set, set_at, some_same}
use Rattle.m2_promise.proofs.Nodes.{IsSameSide, StaysKept, goes_on_still, same_side, told_stays_kept, turn_stays_kept}
use Rattle.m2_promise.proofs.Plans.{plan_stays_kept}

-- it plans nothing for records of node i
abbrev PlansNone : Deed → ℕ → Type 0
PlansNone d i = (b : ℕ) → steps_for i b (d ∷ []) ≡ []

all_go_on : (d : Deed) (i : ℕ) → PlansNone d i → (rs ss : List RecordNow) → OneByOne IsSameSide rs ss → OneByOne (GoesOnBy i (d ∷ [])) rs ss
all_go_on d i none rs ss sides = each_so IsSameSide (GoesOnBy i (d ∷ [])) (λ r s same. goes_on_still i (d ∷ []) r s (none r.place) same) rs ss sides

elsewhere : (a b : ℕ) (x : PlanStep) (i : ℕ) → (a == i) ≡ false → PlansNone (plan a b x) i
elsewhere a b x i away c = ap (λ so. if so && (b == c) then x ∷ [] else []) away

module _ {D : Type 0} (heard : D → List Heard) where
  -- ---- one node does something

  record DoesAt (a : ℕ) (d : Deed) (before behind : NodeNow D) : Type 0 where
    kept : IsKeptNode heard behind
    plans : OneByOne (GoesOnBy a (d ∷ [])) before.center.records behind.center.records

  one_does : (a : ℕ) (d : Deed) (how : NodeNow D → NodeNow D → Type 0) (old new : RunNow D) (acts : OneDoes a how old.cluster new.cluster) →
      DoesAt a d acts.before acts.behind →
      ((i : ℕ) → (a == i) ≡ false → PlansNone d i) → AllKept heard old → AllKept heard new × PlansGoOn (d ∷ []) old new
  one_does a d how old new acts done none kept = (
    subst (AllByRecursion (IsKeptNode heard)) (sym nodes) (all_set (IsKeptNode heard) old.cluster.nodes a acts.behind kept done.kept),
    record { count = ap length nodes ∙ length-set old.cluster.nodes a acts.behind; each = each },
  )
    where
      nodes : new.cluster.nodes ≡ slice_set old.cluster.nodes a acts.behind
      nodes = ap (λ (c : ClusterNow D). c.nodes) acts.only

      each : (i : ℕ) (n m : NodeNow D) → slice_get old.cluster.nodes i ≡ Some n → slice_get new.cluster.nodes i ≡ Some m →
          OneByOne (GoesOnBy i (d ∷ [])) n.center.records m.center.records
      each i n m was is = at (set_at old.cluster.nodes a i acts.behind n m was (ap (λ l. slice_get l i) (sym nodes) ∙ is))
        where
          at : ((a ≡ i) × (m ≡ acts.behind)) ⊎ (((a == i) ≡ false) × (m ≡ n)) → OneByOne (GoesOnBy i (d ∷ [])) n.center.records m.center.records
          at (inl (here, same)) =
              let there : slice_get old.cluster.nodes a ≡ Some n = ap (slice_get old.cluster.nodes) here ∙ was in
              let before : acts.before ≡ n = some_same acts.before n (sym acts.was ∙ there) in
              subst (λ (k : NodeNow D). OneByOne (GoesOnBy i (d ∷ [])) k.center.records m.center.records) before
              (subst (λ (k : NodeNow D). OneByOne (GoesOnBy i (d ∷ [])) acts.before.center.records k.center.records) (sym same)
              (subst (λ j. OneByOne (GoesOnBy j (d ∷ [])) acts.before.center.records acts.behind.center.records) here done.plans))
          at (inr (away, same)) =
              subst (λ (k : NodeNow D). OneByOne (GoesOnBy i (d ∷ [])) n.center.records k.center.records) (sym same)
              (all_go_on d i (none i away) n.center.records n.center.records (each_same IsSameSide same_side n.center.records))

  -- what was known of it, and is
  was_so : (P : NodeNow D → Type 0) (a : ℕ) (how : NodeNow D → NodeNow D → Type 0) (old new : ClusterNow D) (acts : OneDoes a how old new) →
      AllByRecursion P old.nodes → P acts.before
  was_so P a how old new acts all = all_at P old.nodes a acts.before acts.was all

  is_so : (P : NodeNow D → Type 0) (a : ℕ) (how : NodeNow D → NodeNow D → Type 0) (old new : ClusterNow D) (acts : OneDoes a how old new) →
      AllByRecursion P new.nodes → P acts.behind
  is_so P a how old new acts all =
      all_at P new.nodes a acts.behind (ap (λ (c : ClusterNow D). slice_get c.nodes a) acts.only ∙ get_set old.nodes a acts.before acts.behind acts.was) all

  abbrev Owns : NodeNow D → Type 0
  Owns n = AreOwn (holding_of n.center)

  plans : (a b : ℕ) (x : PlanStep) (old new : RunNow D) → PlansStep (Ok tt) a b x old new → AllOwn old.cluster.nodes → AllByRecursion IsWholeNode old.cluster.nodes →
      AllByRecursion IsWholeNode new.cluster.nodes →
      AllKept heard old → AllKept heard new × PlansGoOn (plan a b x ∷ []) old new
  plans a b x old new p own whole later kept =
      let how : NodeNow D → NodeNow D → Type 0 = NodePlans (Ok tt) b x old.now in
      let done = plan_stays_kept heard a b x old.now p.acts.before p.acts.behind p.acts.does (was_so Owns a how old.cluster new.cluster p.acts own)
      (was_so IsWholeNode a how old.cluster new.cluster p.acts whole) (is_so IsWholeNode a how old.cluster new.cluster p.acts later)
      (was_so (IsKeptNode heard) a how old.cluster new.cluster p.acts kept) in
      one_does a (plan a b x) how old new p.acts (record { kept = done.kept; plans = done.plans }) (elsewhere a b x) kept

  turns : (E : Type 0) (a : ℕ) (old new : RunNow D) → TakesTurn E heard a old new → AllOwn old.cluster.nodes → AllByRecursion IsWholeNode old.cluster.nodes →
      AllByRecursion IsWholeNode new.cluster.nodes →
      AllKept heard old → AllKept heard new × PlansGoOn (turn a ∷ []) old new
  turns E a old new t own whole later kept =
      let how : NodeNow D → NodeNow D → Type 0 = NodeTurns E heard old.now (Ok tt) in
      let done : StaysKept heard t.acts.before t.acts.behind =
      turn_stays_kept heard E old.now t.acts.before t.acts.behind t.acts.does (was_so Owns a how old.cluster new.cluster t.acts own)
      (was_so IsWholeNode a how old.cluster new.cluster t.acts whole) (is_so IsWholeNode a how old.cluster new.cluster t.acts later)
      (was_so (IsKeptNode heard) a how old.cluster new.cluster t.acts kept) in
      one_does a (turn a) how old new t.acts
      (record { kept = done.kept; plans = all_go_on (turn a) a (λ b. refl) t.acts.before.center.records t.acts.behind.center.records done.sides })
      (λ i away b. refl) kept

  -- ---- ends are told of the other side

  abbrev RestIsSame : NodeNow D → NodeNow D → Type 0
  RestIsSame m n = rest_of_node n ≡ rest_of_node m

  passes : (d : Deed) (old new : RunNow D) → ((i : ℕ) → PlansNone d i) → rest_of new.cluster ≡ rest_of old.cluster → AllKept heard old →
      AllKept heard new × PlansGoOn (d ∷ []) old new
  passes d old new none e kept = (
    all_over RestIsSame (IsKeptNode heard) (IsKeptNode heard) (λ m n same was. (told_stays_kept heard m n same was).kept) old.cluster.nodes new.cluster.nodes rests kept,
    record { count = each_length RestIsSame old.cluster.nodes new.cluster.nodes rests; each = each },
  )
    where
      rests : OneByOne RestIsSame old.cluster.nodes new.cluster.nodes
      rests = zipped rest_of_node RestIsSame (λ m n same. same) old.cluster.nodes new.cluster.nodes (ap (λ (c : ClusterNow D). c.nodes) e)

      each : (i : ℕ) (n m : NodeNow D) → slice_get old.cluster.nodes i ≡ Some n → slice_get new.cluster.nodes i ≡ Some m →
          OneByOne (GoesOnBy i (d ∷ [])) n.center.records m.center.records
      each i n m was is =
          all_go_on d i (none i) n.center.records m.center.records
          (told_stays_kept heard n m (each_at RestIsSame old.cluster.nodes new.cluster.nodes i n m was is rests)
          (all_at (IsKeptNode heard) old.cluster.nodes i n was kept)).sides

pub deeds_keep_nodes : (D E : Type 0) → DeedsKeepNodes D E
deeds_keep_nodes D E heard (plan a b x) old new (does, later) own whole kept = plans heard a b x old new does own whole later kept
deeds_keep_nodes D E heard (turn a) old new (does, later) own whole kept = turns heard E a old new does own whole later kept
deeds_keep_nodes D E heard (meet a) old new (does, later) own whole kept = passes heard (meet a) old new (λ i b. refl) does.rest kept
deeds_keep_nodes D E heard (flow a b socket most) old new (does, later) own whole kept = passes heard (flow a b socket most) old new (λ i b. refl) does.rest kept
deeds_keep_nodes D E heard (fault a b socket) old new (does, later) own whole kept = passes heard (fault a b socket) old new (λ i b. refl) does.rest kept
