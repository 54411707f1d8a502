-- One end more.
use Rattle.std.proofs.Common.{[], ◌∷◌, map, refl}
use Rattle.m2_history.specs.Ends.{end_now}
use Rattle.m2_history.specs.Sockets.{end_by}
use Rattle.m2_history.proofs.Gathering.{one_more}
use Rattle.m2_history.proofs.parts.add_spent.Goals as goal

pub loop-end-preserved : goal.loop-end-preserved
loop-end-preserved g c =
    one_more (λ es. map (end_by c.args.opened.now) (map g.E.End.seen es)) (λ e. end_by c.args.opened.now (g.E.End.seen e) ∷ []) (λ x xs. refl) c.args.spent.now c.loop-end.end-index
    c.end-item.result (map end_now c.loop-end.ends.items) (map end_now c.add_end.new.ends.items) _ c.loop-end-test.true c.end-item.is c.loop-end.invariant c.in_ok-add_end.ensures
