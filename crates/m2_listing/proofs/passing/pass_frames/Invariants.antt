use Rattle.std.proofs.Common.{ℕ, List}
use Rattle.m2_edge.specs.Sink.{SeenSink}
use Rattle.m2_listing.specs.Listing.{Listed}
use Rattle.m2_listing.specs.Passing.{work_left, with_taken}
use Rattle.m2_listing.proofs.passing.pass_frames.Given as goal

abbrev pub invariant-frames : goal.invariant-frames
invariant-frames g l = (bytes : List ℕ) (before s : SeenSink) → Listed (g.T.Teller.line l.teller) bytes l.initial.decoder.rest l.initial.decoder.place before (with_taken s l.initial.lines.waiting.bytes)
    → Listed (g.T.Teller.line l.teller) bytes l.decoder.rest l.decoder.place before (with_taken s l.lines.waiting.bytes)

abbrev pub decreases-frames : goal.decreases-frames
decreases-frames g l = work_left l.decoder
