use Rattle.std.proofs.Common.{Option, subst, sym, ◌∙◌}
use Rattle.m2_shared.specs.Gates.{Return, held}
use Rattle.m2_feed.specs.declared.wire_fault.WireFault.{WireFault}
use Rattle.m2_record.specs.Calls.{returned_for}
use Rattle.m2_record.proofs.HasGot.{same-held-for}
use Rattle.m2_record.proofs.record.Record.read.Goals as goal

pub returns-in-Some-clause-word : goal.returns-in-Some-clause-word
returns-in-Some-clause-word g c =
    let once = c.read_once-read.ensures.reads in
    let is = sym c.fault.ensures ∙ c.in-Some.is in
    let back = subst (λ x. Return (held x) c.args.throttles.now c.args.passes.now c.break_feed.new.passes)
    (same-held-for _ c.args.self.now.core c.read_once-read.new.self.core c.in-Some.field-0 once.core is) c.break_feed.ensures.word in
    subst (λ (o : Option WireFault). Return (returned_for o c.args.self.now) c.args.throttles.now c.args.passes.now c.break_feed.new.passes) (sym is) back
