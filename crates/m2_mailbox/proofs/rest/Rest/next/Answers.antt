use Rattle.std.proofs.Common.{◌++◌, sym, subst}
use Rattle.m2_mailbox.specs.Merge.{IsMerge}
use Rattle.m2_mailbox.specs.Views.{puts_in, taken_in}
use Rattle.m2_mailbox.proofs.Keeps.{takes, sees_rest}
use Rattle.m2_mailbox.proofs.rest.Rest.next.Goals as goal

pub pop_as-requires-clause-rule : goal.pop_as-requires-clause-rule
pop_as-requires-clause-rule g c = (takes g.T.Item.belongs _ _ c.args.self.now.takes, sees_rest g.T.Item.belongs _ _)

pub returns-in-None-clause-left : goal.returns-in-None-clause-left
returns-in-None-clause-left g c =
    let fact = c.in-None.ensures.rule.1.2 c.args.self.now.whole c.args.self.now.takes in
    (fact.0, subst (λ v. IsMerge _ (puts_in v) (taken_in v ++ fact.0)) (sym c.in-None.ensures.rule.0) fact.2)
