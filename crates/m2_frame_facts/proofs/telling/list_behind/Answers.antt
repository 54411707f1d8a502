use Rattle.m2_frame_facts.specs.Head.{line_behind}
use Rattle.m2_listing.specs.Listing.{terms}
use Rattle.m2_listing.specs.declared.listing.TheConstants.{LIMIT}
use Rattle.m2_listing.proofs.Pieces.{Lists-unfed}
use Rattle.m2_frame_facts.proofs.telling.list_behind.Goals as goal

pub returns-in-Err-clause-lists : goal.returns-in-Err-clause-lists
returns-in-Err-clause-lists g c = λ front given.
    Lists-unfed (terms front LIMIT (line_behind c.args.style c.args.skipped)) (g.S.Source.seen c.args.src.now) c.args.read.now (g.O.Sink.seen c.args.out.now) given
