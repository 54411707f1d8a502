use Rattle.m2_mailbox.proofs.Keeps.{takes, sees_rest}
use Rattle.m2_mailbox.proofs.inbox.Inbox.take.Goals as goal

pub pop_as-requires-clause-rule : goal.pop_as-requires-clause-rule
pop_as-requires-clause-rule g c = (takes g.T.Item.belongs _ _ c.requires.pass.3, sees_rest g.T.Item.belongs _ _)
