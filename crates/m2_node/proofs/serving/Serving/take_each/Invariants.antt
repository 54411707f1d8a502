-- By what was taken so far it serves.
use Rattle.std.proofs.Common.{◌≡◌}
use Rattle.m2_node.specs.Dispatching.{IsServing, LooksBefore, Serves}
use Rattle.m2_node.proofs.serving.Serving.take_each.Given as goal

abbrev pub invariant-mails : goal.invariant-mails
invariant-mails g l = record {
  served : IsServing l.mails l.self;
  same : Serves l.fn.self l.self;
  watch : l.self.watch ≡ l.fn.self.watch;
  looks : LooksBefore l.mails l.j l.any l.fn.self l.self;
}
