use Rattle.std.proofs.Common.{ap}
use Rattle.m2_dispatch.specs.Waiting.{letters_in}
use Rattle.m2_dispatch.proofs.Ordered.{joined-first, first-ordered}
use Rattle.m2_dispatch.proofs.waiting.put_back.Goals as goal

pub returns-clause-letters : goal.returns-clause-letters
returns-clause-letters c = rw (c.push_reserved.ensures, c.rank_of-rank.ensures) (ap letters_in (joined-first c.args.letter c.args.waiting.now.items c.requires.before))

pub returns-clause-ordered : goal.returns-clause-ordered
returns-clause-ordered c = rw (c.push_reserved.ensures, c.rank_of-rank.ensures) (first-ordered c.args.letter c.args.waiting.now.items c.requires.before c.requires.ordered)
