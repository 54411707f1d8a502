-- All deeds of a script can be done, one after another, and behind them a run keeps what it kept.
use Rattle.std.proofs.Common.{List, [], ◌∷◌, length, Ok, sym, subst}
use Rattle.std.specs.List.{AllByRecursion}
use Rattle.std.proofs.lemmas.List.Elements.{recursion_from_All}
use Rattle.m2_dispatch.specs.Heard.{Heard}
use Rattle.m2_promise.specs.PlanLaws.{DeedsKeepNodes, PlansGoOnFurther}
use Rattle.m2_promise.specs.Planned.{PlansGoOn}
use Rattle.m2_scenario.specs.declared.link.Link.{Link}
use Rattle.m2_scenario.specs.declared.node.Node.{Node}
use Rattle.m2_scenario.specs.Valid.{IsLink}
use Rattle.m2_script.specs.Laws.{ScriptsAreWithin}
use Rattle.m2_script.specs.Script.{CanAllBeDone, Deed, Ends, IsWithin, RunNow, script_of}
use Rattle.m2_promise.specs.Kept.{IsKept}
use Rattle.m2_promise.specs.KeepingLaws.{DeedsStayKept, KeptCanBeDone, ScriptsCanBeDone, ScriptsStayKept}
use Rattle.m2_promise.proofs.Doing.{all_own}

module _ (D E : Type 0) (stay : DeedsStayKept D E) where
  -- ---- they can be done

  module _ (can : KeptCanBeDone D) (heard : D → List Heard) (nodes : List Node) (links : List Link) (joined : AllByRecursion (IsLink (length nodes)) links) where
    all_can : (ds : List Deed) (s : RunNow D) → AllByRecursion (IsWithin links (length nodes)) ds → IsKept heard nodes links s → CanAllBeDone E heard ds s
    all_can [] s all kept = tt
    all_can (d ∷ ds) s all kept = (can heard nodes links d s joined all.0 kept, λ behind done. all_can ds behind all.1 (stay heard nodes links d s behind done kept))

  pub scripts_can : KeptCanBeDone D → ScriptsAreWithin → ScriptsCanBeDone D E
  scripts_can can are_within heard nodes links lines s sound kept =
      all_can can heard nodes links (recursion_from_All (IsLink (length nodes)) links sound.joined) (script_of links (length nodes) lines) s (are_within nodes links lines sound) kept

  -- ---- and behind them

  module _ (nodes_keep : DeedsKeepNodes D E) (further : PlansGoOnFurther D) (heard : D → List Heard) (nodes : List Node) (links : List Link) where
    all_kept : (ds : List Deed) (old new : RunNow D) → Ends E heard (Ok tt) ds old new → IsKept heard nodes links old → IsKept heard nodes links new × PlansGoOn ds old new
    all_kept [] old new same kept =
        subst (λ (s : RunNow D). IsKept heard nodes links s × PlansGoOn [] old s) (sym same) (kept, further.none old)
    all_kept (d ∷ ds) old new ends kept =
        let one = nodes_keep heard d old ends.between ends.first (all_own old kept.rest.running) kept.whole kept.kept in
        let rest = all_kept ds ends.between new ends.behind (stay heard nodes links d old ends.between ends.first kept) in
        (rest.0, further.both (d ∷ []) ds old ends.between new one.1 rest.1)

  pub scripts_kept : DeedsKeepNodes D E → PlansGoOnFurther D → ScriptsStayKept D E
  scripts_kept nodes_keep further heard nodes links lines old new ends kept = all_kept nodes_keep further heard nodes links (script_of links (length nodes) lines) old new ends kept
