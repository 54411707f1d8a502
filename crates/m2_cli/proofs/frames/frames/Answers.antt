-- What was listed, passed on and said.
use Rattle.std.proofs.Common.{[]}
use Rattle.m2_cli.specs.Edge.{Edge, edge}
use Rattle.m2_cli.proofs.Listings.{Ended, ended_passed, listing_ends, listing_caused, no_fall}
use Rattle.m2_cli.proofs.Says.{said_caused}
use Rattle.m2_cli.proofs.frames.frames.Goals as goal

pub returns : goal.returns
returns g c =
    let before : Edge = edge (g.S.Source.seen c.args.src.now) (g.O.Sink.seen c.args.out.now) (g.E.Sink.seen c.args.err.now) in
    let after : Edge = edge (g.S.Source.seen c.list_file-listing.new.src) (g.O.Sink.seen c.pass_on-listing.new.out) (g.E.Sink.seen c.say_made.new.err) in
    let mid = g.O.Sink.seen c.list_file-listing.new.out in
    let listed = c.list_file-listing.ensures in
    let passed = c.pass_on-listing.ensures in
    let ended : Ended c.list_file-listing.result c.args.file.now before after =
    ended_passed c.list_file-listing.result c.args.file.now before after mid listed.stands listed.lists listed.caused passed.taken passed.never_falls
    in
    let ends =
    listing_ends c.list_file-listing.result c.pass_on-listing.result c.status_of_listing.result c.say_made.result c.args.file.now before after mid ended
    listed.write_causes passed.passed c.status_of_listing.ensures c.say_made.ensures.says
    in
    record {
      causes = record {
        source_never_falls = listed.read_causes;
        out_never_falls = no_fall _ _ _ listed.write_causes passed.never_falls;
        err_never_falls = c.say_made.ensures.never_falls;
        cause = said_caused [] ends.0 c.say_made.result before after (listing_caused ends.0 c.args.file.now before after ends.2) ends.1;
      };
      inputs = listed.inputs;
      work = ends.0;
      said = ends.1;
      left = ends.2;
    }
