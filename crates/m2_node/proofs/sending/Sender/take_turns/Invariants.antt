-- By the turns so far it has done one thing in each, and it sends with its mail.
use Rattle.std.proofs.Common.{◌≡◌, true, ℕ}
use Rattle.m2_node.specs.Handing.{IsSending, SendsOnce}
use Rattle.m2_node.specs.Watching.{Steps}
use Rattle.m2_node.specs.declared.end.RunEnd.{RunEnd}
use Rattle.m2_node.proofs.sending.Sender.take_turns.Given as goal

abbrev pub invariant-turns : goal.invariant-turns
invariant-turns g l = record {
  steps : (count : ℕ) × Steps (SendsOnce (RunEnd g.row.P-End.Denot) (g.C.Clock.may_give l.clock)) count l.fn.self l.self;
  sends : IsSending l.mail l.self;
  started : l.self.worker.started ≡ true;
}
