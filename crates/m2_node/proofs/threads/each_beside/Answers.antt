-- What was lent comes back as the calls have left it.
use Rattle.std.proofs.Common.{rules, subst}
use Rattle.std.specs.Fork.{ChangesEach}
use Rattle.m2_node.proofs.threads.each_beside.Goals as goal

pub returns-clause-each : goal.returns-clause-each
returns-clause-each g c = subst (ChangesEach g.F.Fn c.args.f.now c.args.items.now) {x = c.join_mut.new.g.2.now} {y = _} (search rules) c.join_mut.ensures.1.met.1
