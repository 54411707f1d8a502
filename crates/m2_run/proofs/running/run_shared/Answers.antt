-- The inboxes are named; and what came of the run is told by what came of its parts.
use Rattle.std.proofs.Common.{◌≡◌, List, length, sym, ap, subst, ◌∙◌}
use Rattle.std.specs.Prelude.{slice_get}
use Rattle.std.proofs.lemmas.Result.{IfErr-weaker, IfOk-weaker}
use Rattle.m2_node.specs.Begins.{AreDoorsOf}
use Rattle.m2_run.specs.Opened.{AllClosed, HasRoomsFor, OpenedNow}
use Rattle.m2_run.specs.Ran.{AreLeftBy}
use Rattle.m2_node.specs.Rooms.{homes_of}
use Rattle.m2_run.proofs.Runs.{are_left, has_faulted, has_ran, rooms_named, shows_fault, shows_run}
use Rattle.m2_node.proofs.Workers.{lent_back}
use Rattle.m2_run.proofs.running.run_shared.Goals as goal

pub run_threads-played-requires-clause-doors : goal.run_threads-played-requires-clause-doors
run_threads-played-requires-clause-doors g c κs within =
    let homes = homes_of c.args.nodes.now in
    let rooms = c.args.rooms in
    let named = g.N.InboxNames.inboxes in
    subst (AreDoorsOf (slice_get named) homes) (sym c.new-doors.ensures)
    (subst (λ bs. AreDoorsOf (slice_get named) homes (record { inboxes = bs; puts = rooms.rights.puts.items; gets = rooms.rights.gets.items; next = 0 })) (sym c.requires.named)
    (record { named = λ i. ap (λ bs. slice_get bs i) c.requires.named; rooms = c.requires.rooms }))

pub close_all-requires : goal.close_all-requires
close_all-requires g c =
    let inboxes = c.args.rooms.inboxes.items in
    subst (HasRoomsFor (slice_get inboxes) 0) (sym c.as_mut_slice.ensures.value)
    (rooms_named (slice_get g.N.InboxNames.inboxes) (slice_get inboxes) (λ i. ap (λ bs. slice_get bs i) c.requires.named) 0 c.in-Ok.field-0.all.items c.in-Ok.ensures.rooms)

pub finish-requires-clause-count : goal.finish-requires-clause-count
finish-requires-clause-count g c =
    let all = c.in-Ok.field-0.all in
    let closed = c.close_all.new.ends in
    let same = c.as_mut_slice.ensures.value in
    let stopped = c.in-Ok.ensures.stopped.3 in
    let as_many = subst (λ (os : List OpenedNow). length closed ≡ length os) same c.close_all.auto.ends in
    ap length (lent_back all.items closed all.len (sym c.as_mut_slice.ensures.len ∙ ap length same) as_many) ∙ as_many ∙ stopped.opened.count ∙ stopped.are_nodes.count

pub returns-clause-ok : goal.returns-clause-ok
returns-clause-ok g c =
    let may = g.C.Clock.may_give c.args.clock.now in
    let seen = g.F.Fabric.seen in
    let nodes = c.args.nodes.now in
    let links = c.args.links.now in
    let lines = c.args.lines.items in
    let cuts = c.args.cuts.now in
    let all = c.in-Ok.field-0.all in
    let left = c.in-Ok.field-0.left in
    let closed = c.close_all.new.ends in
    let same = c.as_mut_slice.ensures.value in
    let stopped = c.in-Ok.ensures.stopped in
    let back = lent_back all.items closed all.len (sym c.as_mut_slice.ensures.len ∙ ap length same) (subst (λ (os : List OpenedNow). length closed ≡ length os) same c.close_all.auto.ends) in
    let by = subst (AreLeftBy cuts stopped.2) (sym back)
    (are_left may c.args.limit nodes links lines cuts stopped.0 stopped.1 stopped.2 left all.items closed stopped.3 (c.centers_run_their_course.ensures c.args.clock.now stopped.1)
    (subst (λ (os : List OpenedNow). AllClosed os closed) same c.in-Ok-close_all.ensures)) in
    IfOk-weaker c.finish.result _ _
    (λ o f. has_ran may c.args.limit nodes links lines cuts stopped.0 stopped.1 stopped.2 left all.items (seen c.args.fabric.now) (seen c.run_threads-played.new.fabric) (seen c.finish.new.fabric) stopped.3
    c.requires.cuts c.in-Ok.ensures.out (c.finish.ensures.faults ∙ c.in-Ok.ensures.faults) o (f stopped.2 by stopped.4)) c.finish.ensures.ok

pub returns-clause-err : goal.returns-clause-err
returns-clause-err g c =
    let may = g.C.Clock.may_give c.args.clock.now in
    let seen = g.F.Fabric.seen in
    let nodes = c.args.nodes.now in
    let links = c.args.links.now in
    let lines = c.args.lines.items in
    let cuts = c.args.cuts.now in
    let all = c.in-Ok.field-0.all in
    let left = c.in-Ok.field-0.left in
    let closed = c.close_all.new.ends in
    let same = c.as_mut_slice.ensures.value in
    let stopped = c.in-Ok.ensures.stopped in
    let back = lent_back all.items closed all.len (sym c.as_mut_slice.ensures.len ∙ ap length same) (subst (λ (os : List OpenedNow). length closed ≡ length os) same c.close_all.auto.ends) in
    let by = subst (AreLeftBy cuts stopped.2) (sym back)
    (are_left may c.args.limit nodes links lines cuts stopped.0 stopped.1 stopped.2 left all.items closed stopped.3 (c.centers_run_their_course.ensures c.args.clock.now stopped.1)
    (subst (λ (os : List OpenedNow). AllClosed os closed) same c.in-Ok-close_all.ensures)) in
    IfErr-weaker c.finish.result _ _
    (λ f ends. has_faulted may c.args.limit nodes links lines cuts stopped.0 stopped.1 stopped.2 left all.items (seen c.args.fabric.now) (seen c.run_threads-played.new.fabric) (seen c.finish.new.fabric) stopped.3
    c.requires.cuts c.in-Ok.ensures.out (c.finish.ensures.faults ∙ c.in-Ok.ensures.faults) f (ends stopped.2 by)) c.finish.ensures.err

pub returns-clause-shown : goal.returns-clause-shown
returns-clause-shown g c =
    let may = g.C.Clock.may_give c.args.clock.now in
    let seen = g.F.Fabric.seen in
    let nodes = c.args.nodes.now in
    let links = c.args.links.now in
    let lines = c.args.lines.items in
    let cuts = c.args.cuts.now in
    let all = c.in-Ok.field-0.all in
    let left = c.in-Ok.field-0.left in
    let closed = c.close_all.new.ends in
    let same = c.as_mut_slice.ensures.value in
    let stopped = c.in-Ok.ensures.stopped in
    let back = lent_back all.items closed all.len (sym c.as_mut_slice.ensures.len ∙ ap length same) (subst (λ (os : List OpenedNow). length closed ≡ length os) same c.close_all.auto.ends) in
    let by = subst (AreLeftBy cuts stopped.2) (sym back)
    (are_left may c.args.limit nodes links lines cuts stopped.0 stopped.1 stopped.2 left all.items closed stopped.3 (c.centers_run_their_course.ensures c.args.clock.now stopped.1)
    (subst (λ (os : List OpenedNow). AllClosed os closed) same c.in-Ok-close_all.ensures)) in
    IfOk-weaker c.finish.result _ _
    (λ o f. shows_run may c.args.limit nodes links lines cuts stopped.0 stopped.1 stopped.2 left all.items (seen c.args.fabric.now) (seen c.run_threads-played.new.fabric) (seen c.finish.new.fabric) stopped.3
    c.requires.cuts c.in-Ok.ensures.out (c.finish.ensures.faults ∙ c.in-Ok.ensures.faults) (λ shown. g.V.Observer.saw shown c.args.observer.now c.finish.new.observer) o (f stopped.2 by stopped.4)) c.finish.ensures.shown

pub returns-clause-fault_shown : goal.returns-clause-fault_shown
returns-clause-fault_shown g c =
    let may = g.C.Clock.may_give c.args.clock.now in
    let seen = g.F.Fabric.seen in
    let nodes = c.args.nodes.now in
    let links = c.args.links.now in
    let lines = c.args.lines.items in
    let cuts = c.args.cuts.now in
    let all = c.in-Ok.field-0.all in
    let left = c.in-Ok.field-0.left in
    let closed = c.close_all.new.ends in
    let same = c.as_mut_slice.ensures.value in
    let stopped = c.in-Ok.ensures.stopped in
    let back = lent_back all.items closed all.len (sym c.as_mut_slice.ensures.len ∙ ap length same) (subst (λ (os : List OpenedNow). length closed ≡ length os) same c.close_all.auto.ends) in
    let by = subst (AreLeftBy cuts stopped.2) (sym back)
    (are_left may c.args.limit nodes links lines cuts stopped.0 stopped.1 stopped.2 left all.items closed stopped.3 (c.centers_run_their_course.ensures c.args.clock.now stopped.1)
    (subst (λ (os : List OpenedNow). AllClosed os closed) same c.in-Ok-close_all.ensures)) in
    IfErr-weaker c.finish.result _ _
    (λ f ends. shows_fault may c.args.limit nodes links lines cuts stopped.0 stopped.1 stopped.2 left all.items (seen c.args.fabric.now) (seen c.run_threads-played.new.fabric) (seen c.finish.new.fabric) stopped.3
    c.requires.cuts c.in-Ok.ensures.out (c.finish.ensures.faults ∙ c.in-Ok.ensures.faults) (λ shown. g.V.Observer.saw shown c.args.observer.now c.finish.new.observer) (c.finish.new.observer ≡ c.args.observer.now) f (ends stopped.2 by)) c.finish.ensures.fault_shown
