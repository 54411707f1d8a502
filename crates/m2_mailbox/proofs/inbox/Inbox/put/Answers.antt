use Rattle.std.proofs.Common.{sym, subst}
use Rattle.m2_mailbox.specs.Passes.{owner_of}
use Rattle.m2_mailbox.proofs.Keeps.{puts, sees_held}
use Rattle.m2_mailbox.proofs.inbox.Inbox.put.Goals as goal

pub push_as-requires-clause-rule : goal.push_as-requires-clause-rule
push_as-requires-clause-rule g c = (
  puts g.T.Item.belongs _ _ _ _ _ c.requires.pass.1 c.requires.pass.3
      (subst (λ x. g.T.Item.belongs (owner_of c.args.self.now) x) (sym c.new_unchecked.ensures) c.requires.belongs),
  sees_held g.T.Item.belongs _ _,
)
