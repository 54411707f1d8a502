use Rattle.m2_mailbox.proofs.Keeps.{splits}
use Rattle.m2_mailbox.proofs.passes.PutPass.split.Goals as goal

pub another-requires-clause-rule : goal.another-requires-clause-rule
another-requires-clause-rule g c = splits g.T.Item.belongs _ _ _ c.requires.pass.1 c.requires.parts
