use Rattle.std.proofs.Common.{sym, subst}
use Rattle.m2_feed.specs.declared.frame_heard.FrameHeard.TheVariants.{Nothing}
use Rattle.m2_core.specs.CoreNow.{CoreNow}
use Rattle.m2_core.specs.Front.{HearsOn}
use Rattle.m2_core.proofs.Passed.{passed_to}
use Rattle.m2_core.proofs.side.Core.pass_frame.Goals as goal

pub returns-clause-passed : goal.returns-clause-passed
returns-clause-passed g c = rw (← c.self.view_is)
    (passed_to c.front_laws.ensures.heard c.front_laws.ensures.passes _ _
    (subst (λ (v : CoreNow). HearsOn v Nothing) (sym c.self.view_is) c.requires.heard) c.pass_front.ensures.passes)
