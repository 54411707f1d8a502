use Rattle.std.proofs.Common.{subst}
use Rattle.m2_frame.specs.declared.finding.Finding.{Finding}
use Rattle.m2_frame.specs.declared.finding.Finding.TheVariants.{Whole}
use Rattle.m2_frame.specs.Decoder.{IsAtFront}
use Rattle.m2_frame.specs.Judging.{Finds}
use Rattle.m2_frame.specs.Position.{Position}
use Rattle.m2_frame.specs.View.{parts_seen}
use Rattle.m2_frame.proofs.Memory.{IsAtFront-whole}
use Rattle.m2_frame.proofs.decoder.Decoder.look.Goals as goal

pub returns-in-Whole-clause-some : goal.returns-in-Whole-clause-some
returns-in-Whole-clause-some c =
    let d = c.self.inside in
    let s : Position = record { place = d.place; rest = d.buffer.items; granted = d.granted; room = d.buffer.spare } in
    let found : Finds (Whole c.in-Whole.p) d.buffer.items d.granted = subst (λ (f : Finding). Finds f d.buffer.items d.granted) c.in-Whole.is c.self.invariant.found in
    subst (λ (t : Position). IsAtFront t (parts_seen c.view_of.result)) c.self.view_is
    (IsAtFront-whole s c.in-Whole.p (parts_seen c.view_of.result) found.1 found.0 (rw c.as_slice.ensures at c.view_of.ensures))
