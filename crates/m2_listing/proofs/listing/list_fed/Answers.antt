use Rattle.m2_listing.specs.Listing.{lines_of}
use Rattle.m2_listing.proofs.Steps.{FedTo-written, FedTo-unwritten, Listed-waiting, IsFedCause-passed}
use Rattle.m2_listing.proofs.listing.list_fed.Goals as goal

pub returns-in_err-put_out-clause-passes : goal.returns-in_err-put_out-clause-passes
returns-in_err-put_out-clause-passes g c = λ bytes before l.
    let line = g.T.Teller.line c.args.teller.now in
    FedTo-unwritten line c.from_residual.result c.pass_frames-passed.result c.in_err-put_out.field-0.0 bytes c.pass_frames-passed.new.lines.waiting.bytes (lines_of line l.items) c.pass_frames-passed.new.decoder before (g.O.Sink.seen c.args.out.now) (g.O.Sink.seen c.put_out.new.out)
    c.from_residual.ensures.1 c.in_err-put_out.ensures.written l.written
    (c.pass_frames-passed.ensures.passes bytes before (g.O.Sink.seen c.args.out.now) (Listed-waiting line bytes c.args.decoder.now.rest c.args.decoder.now.place before (g.O.Sink.seen c.args.out.now) c.args.lines.now.waiting.bytes c.requires l))

pub returns-clause-caused : goal.returns-clause-caused
returns-clause-caused g c =
    IsFedCause-passed c.pass_frames-passed.result (g.O.Sink.seen c.args.out.now).faults (g.O.Sink.seen c.put_out.new.out).faults c.pass_frames-passed.ensures.ends

pub returns-clause-passes : goal.returns-clause-passes
returns-clause-passes g c = λ bytes before l.
    let line = g.T.Teller.line c.args.teller.now in
    FedTo-written line c.pass_frames-passed.result bytes c.pass_frames-passed.new.lines.waiting.bytes c.pass_frames-passed.new.decoder before (g.O.Sink.seen c.args.out.now) (g.O.Sink.seen c.put_out.new.out)
    c.in_ok-put_out.ensures.written
    (c.pass_frames-passed.ensures.passes bytes before (g.O.Sink.seen c.args.out.now) (Listed-waiting line bytes c.args.decoder.now.rest c.args.decoder.now.place before (g.O.Sink.seen c.args.out.now) c.args.lines.now.waiting.bytes c.requires l))
