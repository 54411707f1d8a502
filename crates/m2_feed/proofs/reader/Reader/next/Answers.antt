use Rattle.std.proofs.Common.{subst}
use Rattle.m2_feed.specs.declared.reader.Reader.{Reader}
use Rattle.m2_feed.specs.FeedNow.{IsSound}
use Rattle.m2_feed.proofs.Fronts.{answers_keep}
use Rattle.m2_feed.proofs.reader.Reader.next.Goals as goal

pub returns-clause-keeps : goal.returns-clause-keeps
returns-clause-keeps c base heard h =
    answers_keep c.in-Framing.decoder c.next.new.self c.next.result c.next.ensures base heard (subst (λ (r : Reader). IsSound r base heard) c.in-Framing.is h)
