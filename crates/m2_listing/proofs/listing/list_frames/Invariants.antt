use Rattle.std.proofs.Common.{◌≡◌, ◌≤◌, List, ℕ, []}
use Rattle.m2_edge.specs.Source.{GivesItsInput}
use Rattle.m2_listing.specs.Listing.{terms}
use Rattle.m2_listing.specs.Reading.{Grows}
use Rattle.m2_listing.specs.SoFar.{HasFed, SoFar}
use Rattle.m2_listing.proofs.listing.list_frames.Given as goal

abbrev pub invariant-pieces : goal.invariant-pieces
invariant-pieces g l = record {
  written : l.lines.waiting.bytes ≡ [];
  room : l.room ≤ l.fn.most;
  read_rises : (g.S.Source.seen l.fn.src).faults ≤ (g.S.Source.seen l.src).faults;
  write_rises : (g.O.Sink.seen l.fn.out).faults ≤ (g.O.Sink.seen l.out).faults;
  inputs : (g.S.Source.seen l.src).inputs ≡ (g.S.Source.seen l.fn.src).inputs;
  begun : (g.S.Source.seen l.src).begun ≡ (g.S.Source.seen l.fn.src).begun;
  grows : Grows (g.S.Source.seen l.fn.src) (g.S.Source.seen l.src);
  known : GivesItsInput (g.S.Source.seen l.src);
  so_far : (front : List ℕ) → HasFed front l.fn.fed l.fn.decoder (g.S.Source.seen l.fn.src)
      → SoFar (terms front l.fn.most (g.T.Teller.line l.teller)) (g.S.Source.seen l.src) l.room l.decoder (g.O.Sink.seen l.fn.out) (g.O.Sink.seen l.out);
}

abbrev pub decreases-pieces : goal.decreases-pieces
decreases-pieces g l = l.room
