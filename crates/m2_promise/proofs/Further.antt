-- Plans go on by deeds one after another.
use Rattle.std.proofs.Common.{◌≡◌, ℕ, ◌==◌, ◌&&◌, ◌<◌, Bool, true, false, if◌then◌else◌, List, [], ◌∷◌, ◌++◌, length, Some, refl, sym, ap, subst, ◌∙◌, append_assoc, arith}
use Rattle.std.specs.Prelude.{slice_get}
use Rattle.std.proofs.lemmas.Option.{slice_get-get_or, slice_get_within}
use Rattle.m2_script.specs.m2_record.RecordNow.{RecordNow}
use Rattle.m2_script.specs.m2_cluster.Node.{NodeNow}
use Rattle.m2_links_go_on.specs.ClusterTold.{OneByOne}
use Rattle.m2_script.specs.Made.{Side}
use Rattle.m2_script.specs.Script.{Deed, RunNow, fault, flow, meet, plan, turn}
use Rattle.m2_promise.specs.PlanLaws.{PlansGoOnFurther}
use Rattle.m2_promise.specs.Planned.{GoesOnBy, PlansGoOn, steps_for}
use Rattle.m2_promise.proofs.PlanLists.{each_chain, each_same}
use Rattle.m2_promise.proofs.Nodes.{goes_on_still, same_side}

-- ---- a record

steps-append : (i b : ℕ) (xs ys : List Deed) → steps_for i b (xs ++ ys) ≡ steps_for i b xs ++ steps_for i b ys
steps-append i b [] ys = refl
steps-append i b (plan a c x ∷ ds) ys = at ((a == i) && (c == b)) (steps-append i b ds ys)
  where
    at : (so : Bool) → steps_for i b (ds ++ ys) ≡ steps_for i b ds ++ steps_for i b ys →
        (if so then x ∷ steps_for i b (ds ++ ys) else steps_for i b (ds ++ ys)) ≡ (if so then x ∷ steps_for i b ds else steps_for i b ds) ++ steps_for i b ys
    at true e = ap (λ l. x ∷ l) e
    at false e = e
steps-append i b (turn a ∷ ds) ys = steps-append i b ds ys
steps-append i b (meet a ∷ ds) ys = steps-append i b ds ys
steps-append i b (flow a c socket most ∷ ds) ys = steps-append i b ds ys
steps-append i b (fault a c socket ∷ ds) ys = steps-append i b ds ys

record_further : (i : ℕ) (xs ys : List Deed) (r s t : RecordNow) → GoesOnBy i xs r s → GoesOnBy i ys s t → GoesOnBy i (xs ++ ys) r t
record_further i xs ys r s t p q = record {
  side = q.side ∙ p.side;
  plan = q.plan ∙ ap (λ l. l ++ steps_for i s.place ys) p.plan ∙ ap (λ (d : Side). (r.plan ++ steps_for i r.place xs) ++ steps_for i d.place ys) p.side
      ∙ append_assoc r.plan (steps_for i r.place xs) (steps_for i r.place ys) ∙ ap (λ l. r.plan ++ l) (sym (steps-append i r.place xs ys));
}

-- ---- a run

module _ {D : Type 0} where
  none_planned : (s : RunNow D) → PlansGoOn [] s s
  none_planned s = record {
    count = refl;
    each = λ i n m was is.
        let same : n ≡ m = cc in
        subst (λ (k : NodeNow D). OneByOne (GoesOnBy i []) n.center.records k.center.records) same
        (each_same (GoesOnBy i []) (λ r. goes_on_still i [] r r refl (same_side r)) n.center.records);
  }

  run_further : (xs ys : List Deed) (a b c : RunNow D) → PlansGoOn xs a b → PlansGoOn ys b c → PlansGoOn (xs ++ ys) a c
  run_further xs ys a b c p q = record { count = q.count ∙ p.count; each = each }
    where
      each : (i : ℕ) (n m : NodeNow D) → slice_get a.cluster.nodes i ≡ Some n → slice_get c.cluster.nodes i ≡ Some m →
          OneByOne (GoesOnBy i (xs ++ ys)) n.center.records m.center.records
      each i n m was is =
          let within : i < length a.cluster.nodes = slice_get_within a.cluster.nodes i n was in
          let same = p.count in
          through _ (slice_get-get_or b.cluster.nodes i n (omega (arith, within, same)))
        where
          through : (k : NodeNow D) → slice_get b.cluster.nodes i ≡ Some k → OneByOne (GoesOnBy i (xs ++ ys)) n.center.records m.center.records
          through k between =
              each_chain (GoesOnBy i xs) (GoesOnBy i ys) (GoesOnBy i (xs ++ ys)) (record_further i xs ys) n.center.records k.center.records m.center.records
              (p.each i n k was between) (q.each i k m between is)

pub plans_go_on_further : {D : Type 0} → PlansGoOnFurther D
plans_go_on_further = record { none = none_planned; both = run_further }
