use Rattle.std.proofs.Common.{◌∙◌, sym}
use Rattle.m2_record.proofs.Heeding.{frame-due, signed-on, unsigned-on}
use Rattle.m2_record.proofs.record.Record.frame.Goals as goal

pub take_front-requires-clause-signed : goal.take_front-requires-clause-signed
take_front-requires-clause-signed g c = signed-on c.args.self.now.core.live.feed (sym c.is_signed.ensures ∙ c.if-is_signed.true)

pub take_front-requires-clause-frame : goal.take_front-requires-clause-frame
take_front-requires-clause-frame g c = frame-due c.args.now c.args.self.now c.requires.due

pub greet-requires-clause-unsigned : goal.greet-requires-clause-unsigned
greet-requires-clause-unsigned g c = unsigned-on _ c.args.self.now c.self.invariant c.self.view_is (frame-due c.args.now c.args.self.now c.requires.due) (sym c.is_signed.ensures ∙ c.if-is_signed.false)
