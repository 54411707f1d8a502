-- A scenario's lines from its nodes before the first one: all can be done, and behind them each plan is what the lines planned.
use Rattle.std.proofs.Common.{◌≡◌, ℕ, List, [], ◌∷◌, ◌++◌, length, sym, ap, ◌∙◌}
use Rattle.std.specs.List.{AllByRecursion}
use Rattle.m2_dispatch.specs.Heard.{heard_by}
use Rattle.m2_script.specs.m2_record.RecordNow.{RecordNow}
use Rattle.m2_links_go_on.specs.ClusterTold.{OneByOne}
use Rattle.m2_promise.specs.Kept.{IsKept}
use Rattle.m2_promise.specs.KeepingLaws.{ScriptsCanBeDone, ScriptsStayKept}
use Rattle.m2_promise.specs.Planned.{GoesOnBy, PlansGoOn, steps_for}
use Rattle.m2_script.specs.Made.{Side}
use Rattle.m2_script.specs.Script.{Deed, script_of}
use Rattle.m2_promise.specs.StartLaws.{FirstCanBeDone, FirstIsKept, PlansAreOfLines, ScriptRunIsKept}
use Rattle.m2_promise.proofs.First.{D, beside, none_planned}

-- a plan that goes on from none by deeds is what they plan
plans_of : (i : ℕ) (ds : List Deed) (rs ss : List RecordNow) → AllByRecursion (λ (r : RecordNow). r.plan ≡ []) rs → OneByOne (GoesOnBy i ds) rs ss →
    AllByRecursion (λ (r : RecordNow). r.plan ≡ steps_for i r.place ds) ss
plans_of i ds [] [] none on = tt
plans_of i ds (r ∷ rs) (s ∷ ss) none on = (
  on.0.plan ∙ ap (λ plan. plan ++ steps_for i r.place ds) none.0 ∙ ap (λ (x : Side). steps_for i x.place ds) (sym on.0.side),
  plans_of i ds rs ss none.1 on.1,
)
plans_of i ds [] (s ∷ ss) none on = absurd on
plans_of i ds (r ∷ rs) [] none on = absurd on

module _ (E : Type 0) (first_kept : FirstIsKept) where
  pub can_be_done : ScriptsCanBeDone D E → FirstCanBeDone E
  can_be_done scripts nodes links lines s sound first = scripts heard_by nodes links lines s sound (first_kept nodes links lines s sound first)

  pub run_is_kept : ScriptsStayKept D E → ScriptRunIsKept E
  run_is_kept scripts nodes links lines first last sound run = go
    where
      before : IsKept heard_by nodes links first
      before = first_kept nodes links lines first sound run.begins

      goes_on : IsKept heard_by nodes links last × PlansGoOn (script_of links (length nodes) lines) first last
      goes_on = scripts heard_by nodes links lines first last run.ends before

      planned : PlansAreOfLines links (length nodes) lines last
      planned i n e =
          let m = beside last.cluster.nodes first.cluster.nodes i n goes_on.1.count e in
          plans_of i (script_of links (length nodes) lines) m.0.center.records n.center.records (none_planned nodes links lines first sound run.begins i m.0 m.1) (goes_on.1.each i m.0 n m.1 e)

      go : IsKept heard_by nodes links last × PlansAreOfLines links (length nodes) lines last
      go = (goes_on.0, planned)
