use Rattle.std.proofs.Common.{refl}
use Rattle.m2_cli.specs.Frames.{of_file}
use Rattle.m2_listing.proofs.Pieces.{Lists-unfed}
use Rattle.m2_cli.proofs.frames.list_file.Goals as goal

pub returns-in-Err-clause-lists : goal.returns-in-Err-clause-lists
returns-in-Err-clause-lists g c = let src = g.S.Source.seen c.begin.new.self in Lists-unfed of_file src src.given (g.O.Sink.seen c.args.out.now) refl
