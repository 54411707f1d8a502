-- What is left of the nodes, what is told of it, and what weaving came to.
use Rattle.std.proofs.Common.{◌≡◌, ◌⊎◌, inl, inr, List, [], Err, subst, sym, ◌∙◌}
use Rattle.std.specs.List.{AllByRecursion}
use Rattle.std.proofs.lemmas.Bool.{OnTrue_at}
use Rattle.std.proofs.lemmas.Result.{IfErr-weaker, IfOk-weaker}
use Rattle.m2_run.specs.Cuts.{cuts_at}
use Rattle.m2_node.specs.Handing.{IsLogOf}
use Rattle.m2_node.specs.Lists.{SideBySide}
use Rattle.m2_node.specs.Nodes.{RunNodeNow, nodes_of}
use Rattle.m2_run.proofs.Told.{both_heard}
use Rattle.m2_run.specs.Opened.{HaveEachOnce, OpenedNow, all_kept, made_of_all}
use Rattle.m2_run.specs.Ran.{EndsInFault, HasFinished, ShowsEnd}
use Rattle.m2_run.specs.Rests.{Shown, loose_of}
use Rattle.m2_run.specs.Still.{IsAtRest}
use Rattle.m2_run.specs.Weaving.{HaveHistories, WeavesAll}
use Rattle.m2_run.proofs.Finished.{kept_loose}
use Rattle.m2_run.proofs.Runs.{ends_so, faulted, have_ended, kept_rest_or}
use Rattle.m2_run.proofs.running.finish.Goals as goal

pub returns-in-Ok-woven-clause-shown : goal.returns-in-Ok-woven-clause-shown
returns-in-Ok-woven-clause-shown g c = IfOk-weaker c.told.result _ _ (λ o both ran by logged.
    let seen = g.F.Fabric.seen in
    let cuts = c.args.cuts.now in
    let nodes = c.args.nodes.now in
    let links = c.args.links.now in
    let all = c.args.all.items in
    let ends = c.in-Ok.field-0.ends.items in
    let loose = c.in-Ok.field-0.loose.items in
    let joined = c.in-Ok.ensures in
    let gathered = c.in-Ok-gather_all.ensures in
    let kept = all_kept ran all in
    let ended =
    have_ended cuts nodes ran all ends loose (seen c.args.fabric.now) (seen c.gather_all.new.fabric) c.requires.count by joined.ends joined.loose joined.types.0 joined.types.1
    (subst (HaveEachOnce nodes) c.as_slice-2.ensures.value c.in_default.ensures) gathered.gathered gathered.ports in
    let rests = subst (λ (os : List OpenedNow). (c.args.left ≡ 0) ⊎ AllByRecursion (λ (o : OpenedNow). (o.left.on_way ≡ []) × AllByRecursion (IsAtRest (made_of_all os)) o.left.at_door) os)
    c.as_slice.ensures.value (OnTrue_at c.if-not-is_over.false c.is_over.ensures) in
    let finished : HasFinished c.args.left cuts nodes links ran (seen c.args.fabric.now) (seen c.gather_all.new.fabric) o = record {
      kept = kept;
      ends = ends;
      ended = ended;
      rest = kept_rest_or (cuts_at cuts) ran all c.args.left by.opened rests;
      logs = both_heard (nodes_of kept) c.in-Ok-gather_all.fast.items c.args.logs.items o.logs.items (gathered.logs kept ended.are_ends)
          (subst (λ (ns : List RunNodeNow). SideBySide IsLogOf ns c.args.logs.items) (sym ended.as_ran) logged) both.0;
      left_is = both.1;
      woven = subst (λ es. HaveHistories es (loose_of kept) links) c.as_slice-in-Ok.ensures.value
          (subst (λ ls. HaveHistories c.as_slice-in-Ok.result.now ls links) (joined.loose ∙ kept_loose ran all by.opened.count) c.in-Ok-woven.ensures);
    } in
    (finished, subst (λ ls. g.V.Observer.saw (record { ends = ends; loose = ls }) c.args.observer.now c.join_seen.new.observer) (joined.loose ∙ kept_loose ran all by.opened.count) joined.shown)) c.told.ensures.ok

pub returns-in-Ok-woven-clause-ok : goal.returns-in-Ok-woven-clause-ok
returns-in-Ok-woven-clause-ok g c = IfOk-weaker c.told.result _ _ (λ o shows ran by logged. (shows ran by logged).0) (returns-in-Ok-woven-clause-shown g c)

pub returns-in-Ok-woven-clause-err : goal.returns-in-Ok-woven-clause-err
returns-in-Ok-woven-clause-err g c =
    let cuts = c.args.cuts.now in
    let nodes = c.args.nodes.now in
    let links = c.args.links.now in
    let old = g.F.Fabric.seen c.args.fabric.now in
    let new = g.F.Fabric.seen c.gather_all.new.fabric in
    IfErr-weaker c.told.result _ _ (λ f none ran by. subst (EndsInFault cuts nodes links ran old new) (sym none) tt) c.told.ensures.err

pub returns-in-Ok-woven-clause-fault_shown : goal.returns-in-Ok-woven-clause-fault_shown
returns-in-Ok-woven-clause-fault_shown g c =
    let saw = λ (shown : Shown). g.V.Observer.saw shown c.args.observer.now c.join_seen.new.observer in
    let stays = c.join_seen.new.observer ≡ c.args.observer.now in
    let shows = ShowsEnd saw stays c.args.cuts.now c.args.nodes.now c.args.links.now in
    let old = g.F.Fabric.seen c.args.fabric.now in
    let new = g.F.Fabric.seen c.gather_all.new.fabric in
    IfErr-weaker c.told.result _ _ (λ f none ran by. subst (shows ran old new) (sym none) (inr (record { ends = c.in-Ok.field-0.ends.items; loose = c.in-Ok.field-0.loose.items }, c.in-Ok.ensures.shown))) c.told.ensures.err

pub returns-in-Err-join_seen-clause-fault_shown : goal.returns-in-Err-join_seen-clause-fault_shown
returns-in-Err-join_seen-clause-fault_shown g c ran by = inl c.in-Err-join_seen.ensures.stays

pub returns-in-Err-gather_all-clause-fault_shown : goal.returns-in-Err-gather_all-clause-fault_shown
returns-in-Err-gather_all-clause-fault_shown g c ran by = inr (record { ends = c.in-Ok.field-0.ends.items; loose = c.in-Ok.field-0.loose.items }, c.in-Ok.ensures.shown)

pub returns-in-Err-woven-clause-fault_shown : goal.returns-in-Err-woven-clause-fault_shown
returns-in-Err-woven-clause-fault_shown g c ran by =
    let seen = g.F.Fabric.seen in
    let cuts = c.args.cuts.now in
    let nodes = c.args.nodes.now in
    let links = c.args.links.now in
    let all = c.args.all.items in
    let ends = c.in-Ok.field-0.ends.items in
    let loose = c.in-Ok.field-0.loose.items in
    let joined = c.in-Ok.ensures in
    let told = c.in-Ok-gather_all.ensures in
    let kept = all_kept ran all in
    let old = seen c.args.fabric.now in
    let new = seen c.gather_all.new.fabric in
    let saw = λ (shown : Shown). g.V.Observer.saw shown c.args.observer.now c.join_seen.new.observer in
    let stays = c.join_seen.new.observer ≡ c.args.observer.now in
    let ended =
    have_ended cuts nodes ran all ends loose old new c.requires.count by joined.ends joined.loose joined.types.0 joined.types.1
    (subst (HaveEachOnce nodes) c.as_slice-2.ensures.value c.in_default.ensures) told.gathered told.ports in
    let fault = c.in-Err-woven.fault in
    let are = joined.loose ∙ kept_loose ran all by.opened.count in
    let weaves = subst (λ r. WeavesAll r c.as_slice-in-Ok.result.now loose links) c.in-Err-woven.is c.weave_all-woven.ensures in
    subst (ShowsEnd saw stays cuts nodes links ran old new) (sym c.fault_told.ensures)
    (faulted saw stays cuts nodes links ran kept ends old new fault ended
    (subst (λ es. WeavesAll (Err fault) es (loose_of kept) links) c.as_slice-in-Ok.ensures.value
    (subst (λ ls. WeavesAll (Err fault) c.as_slice-in-Ok.result.now ls links) are weaves))
    (subst (λ ls. saw (record { ends = ends; loose = ls })) are joined.shown))

pub returns-in-Err-woven-clause-err : goal.returns-in-Err-woven-clause-err
returns-in-Err-woven-clause-err g c ran by =
    ends_so (λ shown. g.V.Observer.saw shown c.args.observer.now c.join_seen.new.observer) (c.join_seen.new.observer ≡ c.args.observer.now) c.args.cuts.now c.args.nodes.now c.args.links.now
    ran (g.F.Fabric.seen c.args.fabric.now) (g.F.Fabric.seen c.gather_all.new.fabric) c.fault_told.result (returns-in-Err-woven-clause-fault_shown g c ran by)
