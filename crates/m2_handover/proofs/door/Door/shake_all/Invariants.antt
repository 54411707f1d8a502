-- So far as many halves as rounds have taken their turns, and no socket was lost.
use Rattle.m2_handover.specs.Door.{KeepsAll}
use Rattle.m2_handover.proofs.Shaking.{ShakenSo}
use Rattle.m2_handover.proofs.door.Door.shake_all.Given as goal

abbrev pub invariant-halves : goal.invariant-halves
invariant-halves g l = record {
  shaken : ShakenSo l.counter l.fn.self l.self;
  sockets : KeepsAll l.fn.self l.self;
}
