use Rattle.std.proofs.Common.{arith, refl}
use Rattle.m2_listing.specs.Listing.{terms}
use Rattle.m2_listing.proofs.Pieces.{Grows-none, Grows-joined, Listed-begins, Lists-at_once, SoFar-begins}
use Rattle.m2_listing.proofs.listing.list_frames.Goals as goal

pub returns-in-Err-clause-lists : goal.returns-in-Err-clause-lists
returns-in-Err-clause-lists g c = λ front fed.
    Lists-at_once c.in-Err.end (terms front c.args.most (g.T.Teller.line c.args.teller.now)) c.args.fed (g.S.Source.seen c.args.src.now) c.args.decoder.now c.list_fed.new.decoder (g.O.Sink.seen c.args.out.now) (g.O.Sink.seen c.list_fed.new.out) fed c.requires.fed
    (c.in-Err.ensures.passes c.args.decoder.now.rest (g.O.Sink.seen c.args.out.now) (Listed-begins (g.T.Teller.line c.args.teller.now) c.args.decoder.now (g.O.Sink.seen c.args.out.now) fed.first))

pub returns-in-Err-list_piece-clause-grows : goal.returns-in-Err-list_piece-clause-grows
returns-in-Err-list_piece-clause-grows g c =
    Grows-joined (g.S.Source.seen c.args.src.now) (g.S.Source.seen c.pieces.src) (g.S.Source.seen c.list_piece.new.src) c.pieces.invariant.grows c.list_piece.ensures.grows

pub returns-in-Err-clause-grows : goal.returns-in-Err-clause-grows
returns-in-Err-clause-grows g c = Grows-none (g.S.Source.seen c.args.src.now)

pub pieces-init : goal.pieces-init
pieces-init g c =
    let line = g.T.Teller.line c.args.teller.now in
    let src = g.S.Source.seen c.args.src.now in
    let out = g.O.Sink.seen c.args.out.now in
    record {
      written = c.in_default.ensures.empty;
      room = omega arith;
      read_rises = omega arith;
      write_rises = c.list_fed.ensures.causes;
      inputs = refl;
      begun = refl;
      grows = Grows-none src;
      known = c.requires.known;
      so_far = λ front fed.
          SoFar-begins (terms front c.args.most line) c.args.fed src c.args.decoder.now c.list_fed.new.decoder out (g.O.Sink.seen c.list_fed.new.out) fed c.requires.fed
          (c.in_default.ensures.passes c.args.decoder.now.rest out (Listed-begins line c.args.decoder.now out fed.first));
    }
