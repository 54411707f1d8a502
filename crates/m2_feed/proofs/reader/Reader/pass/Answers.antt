use Rattle.std.proofs.Common.{subst}
use Rattle.m2_feed.specs.declared.reader.Reader.{Reader}
use Rattle.m2_feed.specs.Calls.{HasFrame}
use Rattle.m2_feed.specs.FeedNow.{IsSound, reading_of}
use Rattle.m2_feed.proofs.Fronts.{frame_keeps}
use Rattle.m2_feed.proofs.reader.Reader.pass.Goals as goal

pub returns-clause-keeps : goal.returns-clause-keeps
returns-clause-keeps c base heard h =
    frame_keeps c.in-Framing.decoder c.pass.new.self (subst (λ (r : Reader). HasFrame (reading_of r)) c.in-Framing.is c.requires) c.pass.ensures base heard
    (subst (λ (r : Reader). IsSound r base heard) c.in-Framing.is h)
