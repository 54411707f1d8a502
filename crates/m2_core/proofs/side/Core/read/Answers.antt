use Rattle.m2_core.proofs.Listening.{core_reads}
use Rattle.m2_core.proofs.side.Core.read.Goals as goal

pub returns-clause-read : goal.returns-clause-read
returns-clause-read g c =
    let l = c.laws_of_hearing.ensures in
    core_reads l.stays l.hears l.takes l.changes l.told l.frames l.fronts _ _ _ _ _ _ _ _ c.self.invariant c.self.view_is c.in-Got.is
    c.read_end-answer.ensures.reads c.read_end-answer.ensures.only c.hearing-heard.ensures.value c.heed_front-aftermath.ensures.heeds
    c.heed_front-aftermath.ensures.only c.heed_front-aftermath.ensures.closed
