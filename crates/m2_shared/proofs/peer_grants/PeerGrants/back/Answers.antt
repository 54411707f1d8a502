-- What came back at each stage is seen at each gate.
use Rattle.m2_shared.proofs.Asking.{gives_passes}
use Rattle.m2_shared.proofs.peer_grants.PeerGrants.back.Goals as goal

pub returns-clause-passes : goal.returns-clause-passes
returns-clause-passes c = gives_passes _ _ _ _ c.back_at.ensures c.requires.passes
