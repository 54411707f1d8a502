use Rattle.std.proofs.Common.{refl}
use Rattle.m2_frame.specs.Frame.{parts}
use Rattle.m2_frame.specs.Reading.{whole, dropped}
use Rattle.m2_frame.specs.View.{parts_seen}
use Rattle.m2_listing.specs.Passing.{with_taken}
use Rattle.m2_listing.proofs.Steps.{Listed-line, Broken-here, StepsTo-no_memory, passed_down}
use Rattle.m2_listing.proofs.passing.pass_one.Goals as goal

pub returns-in_err-add_frame-clause-passes : goal.returns-in_err-add_frame-clause-passes
returns-in_err-add_frame-clause-passes g c = λ bytes before s l.
    StepsTo-no_memory (g.T.Teller.line c.args.teller.now) c.from_residual.result bytes c.args.decoder.now.rest c.args.lines.now.waiting.bytes c.add_frame.new.self.waiting.bytes c.args.decoder.now.place c.args.decoder.now before s
    c.from_residual.ensures.1 c.in_err-add_frame.ensures.err l

pub returns-in-Some-clause-passes : goal.returns-in-Some-clause-passes
returns-in-Some-clause-passes g c = λ bytes before s l.
    Listed-line c.no_text_begins_another.ensures.within (g.T.Teller.line c.args.teller.now) c.place-place.result bytes c.args.lines.now.waiting.bytes c.add_frame.new.self.waiting.bytes
    c.args.decoder.now c.pass.new.self (whole (parts_seen c.in-Some.frame)) before s c.place-place.ensures c.in_ok-add_frame.ensures.ok l (c.pass.ensures (parts_seen c.in-Some.frame) c.in-Some.ensures.some)

pub unreachable-requires : goal.unreachable-requires
unreachable-requires g c = c.in_default.ensures.none refl (parts c.in-Frame.field-0) (record { settled = c.in-Frame.ensures.0; len = c.in-Frame.ensures.1.0; there = c.in-Frame.ensures.1.1 })

pub returns-in_err-add_aborted-in-Aborted-clause-passes : goal.returns-in_err-add_aborted-in-Aborted-clause-passes
returns-in_err-add_aborted-in-Aborted-clause-passes g c = λ bytes before s l.
    StepsTo-no_memory (g.T.Teller.line c.args.teller.now) c.from_residual-in_err-add_aborted-in-Aborted.result bytes c.args.decoder.now.rest c.args.lines.now.waiting.bytes c.add_aborted.new.self.waiting.bytes c.args.decoder.now.place c.next.new.self before s
    c.from_residual-in_err-add_aborted-in-Aborted.ensures.1 c.in_err-add_aborted-in-Aborted.ensures.err l

pub returns-in_ok-add_aborted-in-Aborted-clause-down : goal.returns-in_ok-add_aborted-in-Aborted-clause-down
returns-in_ok-add_aborted-in-Aborted-clause-down g c =
    passed_down c.no_text_begins_another.ensures.within c.no_text_begins_another.ensures.some c.args.decoder.now c.next.new.self (dropped c.in-Aborted.tag) c.in-Aborted.ensures.1

pub returns-in_ok-add_aborted-in-Aborted-clause-passes : goal.returns-in_ok-add_aborted-in-Aborted-clause-passes
returns-in_ok-add_aborted-in-Aborted-clause-passes g c = λ bytes before s l.
    Listed-line c.no_text_begins_another.ensures.within (g.T.Teller.line c.args.teller.now) c.place-place.result bytes c.args.lines.now.waiting.bytes c.add_aborted.new.self.waiting.bytes
    c.args.decoder.now c.next.new.self (dropped c.in-Aborted.tag) before s c.place-place.ensures c.in_ok-add_aborted-in-Aborted.ensures.ok l c.in-Aborted.ensures.1

pub returns-in-NoMemory-clause-passes : goal.returns-in-NoMemory-clause-passes
returns-in-NoMemory-clause-passes g c = λ bytes before s l.
    Broken-here (g.T.Teller.line c.args.teller.now) bytes c.args.decoder.now.rest c.args.decoder.now.place before (with_taken s c.args.lines.now.waiting.bytes) l
