use Rattle.std.proofs.Common.{◌≡◌, ◌<◌, sym, ap, ◌∙◌, subst, arith}
use Rattle.crossbeam_queue.specs.Fifo.{Pushes, Pops}
use Rattle.crossbeam_queue.specs.Passes.{ruled_capacity}
use Rattle.m2_mailbox.specs.Views.{after_telling, after_hearing, parts_in, takes_in}
use Rattle.m2_mailbox.specs.Rule.{Kept}
use Rattle.m2_mailbox.specs.declared.slip.Slip.TheVariants.{Owner}
use Rattle.m2_mailbox.proofs.Keeps.{tells, hears, parts_ways}
use Rattle.m2_mailbox.proofs.inbox.Inbox.new.Goals as goal

pub try_push_as-requires-clause-rule : goal.try_push_as-requires-clause-rule
try_push_as-requires-clause-rule g c =
    subst (λ v. Pushes (Kept g.T.Item.belongs) (ruled_capacity c.in_ok-queue.queue) c.in_ok-queue.seen.id v (Owner c.of.result) (λ w. w ≡ after_telling (Owner c.of.result))) (sym c.in_ok-queue.ensures.3)
    (tells g.T.Item.belongs _ _ c.of.result)

pub try_pop_as-requires-clause-rule : goal.try_pop_as-requires-clause-rule
try_pop_as-requires-clause-rule g c =
    subst (λ v. Pops (Kept g.T.Item.belongs) c.try_push_as.new.pass.id v (λ x w. w ≡ after_hearing v)) (sym c.in-Ok.ensures.rule) (hears g.T.Item.belongs _ c.of.result.value)

pub another-taker-requires-clause-rule : goal.another-taker-requires-clause-rule
another-taker-requires-clause-rule g c =
    let now = c.in-Some.ensures.rule ∙ ap after_hearing c.in-Ok.ensures.rule in
    parts_ways g.T.Item.belongs _ _ (ap takes_in now) (subst (λ v. 0 < parts_in v) (sym now) (omega arith))
