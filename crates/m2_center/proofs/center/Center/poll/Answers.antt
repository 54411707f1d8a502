-- What a center keeps where its port is polled.
use Rattle.m2_center.proofs.Reached.{polled_causes, polled_center, polled_stays}
use Rattle.m2_center.proofs.center.Center.poll.Goals as goal

pub invariant_of-self : goal.invariant_of-self
invariant_of-self g c =
    let was = c.self.invariant in
    (polled_center _ _ c.self.view_is _ c.poll.ensures.stays was.0, was.1, was.2, was.3)

pub returns : goal.returns
returns g c = record {
  causes = polled_causes _ _ c.self.view_is c.poll.result _ c.poll.ensures.causes;
  stays = polled_stays _ _ c.self.view_is _ c.poll.ensures.stays;
}
