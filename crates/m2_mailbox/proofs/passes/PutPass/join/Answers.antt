use Rattle.std.proofs.Common.{◌≡◌, ◌<◌, false, sym, subst}
use Rattle.crossbeam_queue.specs.Passes.{view}
use Rattle.m2_mailbox.specs.Views.{parts_in, takes_in}
use Rattle.m2_mailbox.proofs.Keeps.{joins}
use Rattle.m2_mailbox.proofs.passes.PutPass.join.Goals as goal

pub absorb-requires-clause-rule : goal.absorb-requires-clause-rule
absorb-requires-clause-rule g c =
    joins g.T.Item.belongs _ _ _ _ c.requires.pass.3
    (subst (λ s. 0 < parts_in (view s)) (sym c.into_seen.ensures) c.requires.other.3)
    (subst (λ s. takes_in (view s) ≡ false) (sym c.into_seen.ensures) c.requires.other.2)
