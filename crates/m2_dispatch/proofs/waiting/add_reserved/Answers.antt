use Rattle.m2_dispatch.proofs.Ordered.{joined-letters, joined-ordered}
use Rattle.m2_dispatch.proofs.waiting.add_reserved.Goals as goal

pub returns-clause-letters : goal.returns-clause-letters
returns-clause-letters c = rw (c.push_reserved.ensures, c.rank_of-rank.ensures) (joined-letters c.args.letter c.args.waiting.now.items c.requires.ordered)

pub returns-clause-ordered : goal.returns-clause-ordered
returns-clause-ordered c = rw (c.push_reserved.ensures, c.rank_of-rank.ensures) (joined-ordered c.args.letter c.args.waiting.now.items c.requires.ordered)
