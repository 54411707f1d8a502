-- So far one socket was accepted in each round, and no accept failed.
use Rattle.std.specs.Prelude.{◌≡◌, ◌+◌, length}
use Rattle.m2_handover.specs.Door.{HaveCome, OnlyAccepts, TakesIn}
use Rattle.m2_handover.proofs.door.Door.accept_all.Given as goal

abbrev pub invariant-accepts : goal.invariant-accepts
invariant-accepts g l = record {
  accepts : OnlyAccepts (g.P.Port.seen l.fn.port) (g.P.Port.seen l.port);
  count : length (g.P.Port.seen l.port).made ≡ length (g.P.Port.seen l.fn.port).made + l.counter;
  came : HaveCome l.fn.self l.self;
  sockets : TakesIn (g.P.Port.seen l.fn.port).made (g.P.Port.seen l.port).made l.fn.self l.self;
}
