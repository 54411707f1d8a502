use Rattle.std.proofs.Common.{subst}
use Rattle.m2_frame.specs.Reading.{whole}
use Rattle.m2_feed.specs.declared.reader.Reader.{Reader}
use Rattle.m2_feed.specs.Calls.{IsFront}
use Rattle.m2_feed.specs.FeedNow.{reading_of}
use Rattle.m2_feed.proofs.Fronts.{not_front}
use Rattle.m2_feed.proofs.reader.Reader.look.Goals as goal

pub returns-in-Framing-clause-none : goal.returns-in-Framing-clause-none
returns-in-Framing-clause-none c n f len h =
    not_front c.in-Framing.decoder (c.look.ensures.none n) f len (subst (λ (r : Reader). IsFront (reading_of r) (whole f) len) c.in-Framing.is h)
