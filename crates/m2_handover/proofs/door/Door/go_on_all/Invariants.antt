-- So far as many asked sockets as rounds were taken up, no socket was lost, and those that weren't asked are where they were.
use Rattle.std.specs.Prelude.{◌≡◌}
use Rattle.m2_handover.specs.Door.{KeepsAll}
use Rattle.m2_handover.proofs.Handing.{HandedSo}
use Rattle.m2_handover.proofs.door.Door.go_on_all.Given as goal

abbrev pub invariant-asked : goal.invariant-asked
invariant-asked g l = record {
  halves : l.self.halves ≡ l.initial.self.halves;
  over : l.self.over ≡ l.initial.self.over;
  busy : l.self.busy ≡ l.initial.self.busy;
  handed : HandedSo l.counter l.initial.self l.self;
  sockets : KeepsAll l.fn.self l.self;
}
