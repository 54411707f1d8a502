-- By the rounds so far it serves, and it has looked once in each.
use Rattle.std.proofs.Common.{ℕ}
use Rattle.m2_node.specs.Dispatching.{IsServing, Serves, ServesOnce}
use Rattle.m2_node.specs.Watching.{Steps}
use Rattle.m2_node.proofs.serving.Serving.serve_rounds.Given as goal

abbrev pub invariant-rounds : goal.invariant-rounds
invariant-rounds g l = record {
  served : IsServing l.mails l.self;
  same : Serves l.fn.self l.self;
  steps : (count : ℕ) × Steps (ServesOnce l.mails) count l.fn.self l.self;
}
