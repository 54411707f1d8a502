use Rattle.std.proofs.Common.{Ok, subst}
use Rattle.m2_listing.specs.Listing.{terms}
use Rattle.m2_listing.specs.Reading.{Fetches}
use Rattle.m2_listing.specs.SoFar.{EndsHere}
use Rattle.m2_listing.specs.declared.reading.Piece.TheVariants as piece
use Rattle.m2_listing.proofs.Pieces.{GoesOn-ended, SoFar-came, Lists-came, Lists-beyond, Lists-beyond_stopped, Lists-unfetched, Lists-end}
use Rattle.m2_listing.proofs.listing.list_piece.Goals as goal

pub returns-in_err-piece-clause-goes : goal.returns-in_err-piece-clause-goes
returns-in_err-piece-clause-goes g c = λ front before l.
    let t = terms front c.args.most (g.T.Teller.line c.args.teller.now) in
    let src = g.S.Source.seen c.fetch.new.src in
    GoesOn-ended c.from_residual.result c.in_err-piece.field-0.0 t src c.fetch.new.decoder before (g.O.Sink.seen c.args.out.now) c.from_residual.ensures.1
    (Lists-unfetched c.in_err-piece.field-0.0 t (g.S.Source.seen c.args.src.now) src c.args.room c.args.decoder.now c.fetch.new.decoder before (g.O.Sink.seen c.args.out.now) c.in_err-piece.ensures.fetches l)

pub returns-in_ok-list_fed-in-Came-clause-goes : goal.returns-in_ok-list_fed-in-Came-clause-goes
returns-in_ok-list_fed-in-Came-clause-goes g c = λ front before l.
    let t = terms front c.args.most (g.T.Teller.line c.args.teller.now) in
    SoFar-came c.no_text_begins_another.ensures.stays c.no_text_begins_another.ensures.within t (g.S.Source.seen c.args.src.now) (g.S.Source.seen c.fetch.new.src) c.args.room c.in-Came.n c.args.decoder.now c.fetch.new.decoder c.list_fed.new.decoder
    before (g.O.Sink.seen c.args.out.now) (g.O.Sink.seen c.list_fed.new.out) l (subst (λ p. Fetches (Ok p) c.args.room c.args.decoder.now c.fetch.new.decoder (g.S.Source.seen c.args.src.now) (g.S.Source.seen c.fetch.new.src)) c.in-Came.is c.in_ok-piece.ensures.fetches) c.in_ok-list_fed-in-Came.ensures.passes

pub returns-in_err-list_fed-in-Came-clause-goes : goal.returns-in_err-list_fed-in-Came-clause-goes
returns-in_err-list_fed-in-Came-clause-goes g c = λ front before l.
    let t = terms front c.args.most (g.T.Teller.line c.args.teller.now) in
    let end = c.in_err-list_fed-in-Came.field-0.0 in
    GoesOn-ended c.from_residual-in_err-list_fed-in-Came.result end t (g.S.Source.seen c.fetch.new.src) c.list_fed.new.decoder before (g.O.Sink.seen c.list_fed.new.out) c.from_residual-in_err-list_fed-in-Came.ensures.1
    (Lists-came c.no_text_begins_another.ensures.stays c.no_text_begins_another.ensures.within end t (g.S.Source.seen c.args.src.now) (g.S.Source.seen c.fetch.new.src) c.args.room c.in-Came.n c.args.decoder.now c.fetch.new.decoder c.list_fed.new.decoder
    before (g.O.Sink.seen c.args.out.now) (g.O.Sink.seen c.list_fed.new.out) l (subst (λ p. Fetches (Ok p) c.args.room c.args.decoder.now c.fetch.new.decoder (g.S.Source.seen c.args.src.now) (g.S.Source.seen c.fetch.new.src)) c.in-Came.is c.in_ok-piece.ensures.fetches) c.in_err-list_fed-in-Came.ensures.passes)

pub returns-in_ok-list_fed-in-TooLong-clause-goes : goal.returns-in_ok-list_fed-in-TooLong-clause-goes
returns-in_ok-list_fed-in-TooLong-clause-goes g c = λ front before l.
    let t = terms front c.args.most (g.T.Teller.line c.args.teller.now) in
    Lists-beyond c.no_text_begins_another.ensures.stays c.no_text_begins_another.ensures.within t (g.S.Source.seen c.args.src.now) (g.S.Source.seen c.fetch.new.src) c.args.room c.place.result c.args.decoder.now c.fetch.new.decoder c.list_fed-in-TooLong.new.decoder
    before (g.O.Sink.seen c.args.out.now) (g.O.Sink.seen c.list_fed-in-TooLong.new.out) l (subst (λ p. Fetches (Ok p) c.args.room c.args.decoder.now c.fetch.new.decoder (g.S.Source.seen c.args.src.now) (g.S.Source.seen c.fetch.new.src)) c.in-TooLong.is c.in_ok-piece.ensures.fetches) c.in_ok-list_fed-in-TooLong.ensures.passes c.place.ensures

pub returns-in_err-list_fed-in-TooLong-clause-goes : goal.returns-in_err-list_fed-in-TooLong-clause-goes
returns-in_err-list_fed-in-TooLong-clause-goes g c = λ front before l.
    let t = terms front c.args.most (g.T.Teller.line c.args.teller.now) in
    let end = c.in_err-list_fed-in-TooLong.field-0.0 in
    GoesOn-ended c.from_residual-in_err-list_fed-in-TooLong.result end t (g.S.Source.seen c.fetch.new.src) c.list_fed-in-TooLong.new.decoder before (g.O.Sink.seen c.list_fed-in-TooLong.new.out) c.from_residual-in_err-list_fed-in-TooLong.ensures.1
    (Lists-beyond_stopped c.no_text_begins_another.ensures.stays c.no_text_begins_another.ensures.within end t (g.S.Source.seen c.args.src.now) (g.S.Source.seen c.fetch.new.src) c.args.room c.args.decoder.now c.fetch.new.decoder c.list_fed-in-TooLong.new.decoder
    before (g.O.Sink.seen c.args.out.now) (g.O.Sink.seen c.list_fed-in-TooLong.new.out) l (subst (λ p. Fetches (Ok p) c.args.room c.args.decoder.now c.fetch.new.decoder (g.S.Source.seen c.args.src.now) (g.S.Source.seen c.fetch.new.src)) c.in-TooLong.is c.in_ok-piece.ensures.fetches) c.in_err-list_fed-in-TooLong.ensures.passes)

pub returns-in-End-clause-goes : goal.returns-in-End-clause-goes
returns-in-End-clause-goes g c = λ front before l.
    let t = terms front c.args.most (g.T.Teller.line c.args.teller.now) in
    let end : Fetches (Ok piece.End) c.args.room c.args.decoder.now c.fetch.new.decoder (g.S.Source.seen c.args.src.now) (g.S.Source.seen c.fetch.new.src) = (subst (λ p. Fetches (Ok p) c.args.room c.args.decoder.now c.fetch.new.decoder (g.S.Source.seen c.args.src.now) (g.S.Source.seen c.fetch.new.src)) c.in-End.is c.in_ok-piece.ensures.fetches) in
    Lists-end c.at_end.result t (g.S.Source.seen c.args.src.now) (g.S.Source.seen c.fetch.new.src) c.args.room c.args.decoder.now before (g.O.Sink.seen c.args.out.now) l
    (subst (λ s. EndsHere c.at_end.result c.args.most s c.args.room) end.0 c.at_end.ensures) end.1 end.2
